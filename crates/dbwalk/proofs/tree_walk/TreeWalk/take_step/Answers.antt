use Rattle.std.proofs.Common.{rules, ◌≡◌, Some, ◌/◌, ◌≤◌, false, true, inl, refl, ap, subst, arith, ◌∙◌, w64, slice_get}
use Rattle.dbwalk.proofs.Common.{most_payload, IsPageNumber, Moves, key_value, is_late, order_reported, top_after, Pages, path_of, HasLeft, fails}
use Rattle.dbwalk.proofs.Common.{has_weaker, log_none}
use Rattle.std.proofs.lemmas.Int.{to_z-of_z}
use Rattle.dbwalk.proofs.Trees.Frames.{ends_behind, left_on, on_ok_all, next_at, at_turn, path_popped, path_push}
use Rattle.dbwalk.proofs.Leaves.LeafCells.{cell_size}
use Rattle.dbwalk.proofs.Pages.Levels.{keeps_fewer}
use Rattle.dbwalk.proofs.Underway.TreeSteps.{turned}
use Rattle.dbwalk.proofs.Underway.Handing.{fed_done, found_moves}
use Rattle.dbwalk.proofs.Underway.TreeTurns.{next_here, turned_behind, turned_empty, left_here, turned_key, chain_is, chain_next, turned_chain}
use Rattle.dbwalk.proofs.Underway.Walks.{none_refused, read_or_write, walked_by}
use Rattle.dbwalk.proofs.Reporting.Sinks.{walks_ok}
use Rattle.dbwalk.proofs.tree_walk.TreeWalk.take_step.Goals as goal

pub stepped-requires : goal.stepped-requires
stepped-requires g c =
    let most = (at_turn c.requires c.in-Nothing.is).most in
    omega arith

pub stepped-requires-in-Key : goal.stepped-requires-in-Key
stepped-requires-in-Key g c =
    let most = (at_turn c.requires c.in-Key.is).most in
    omega arith

pub stepped-requires-in-Chain : goal.stepped-requires-in-Chain
stepped-requires-in-Chain g c =
    let most = (at_turn c.requires c.in-Chain.is).most in
    omega arith

pub walk_unfed-requires : goal.walk_unfed-requires
walk_unfed-requires g c =
    let s = at_turn c.requires c.in-Chain.is in
    let low : IsPageNumber c.args.frame.page = s.low in
    let size = cell_size s.last.view s.stands.n s.stands.x s.stands.read in
    let rest = s.stands.rest in
    let most : c.in-Chain.left ≤ most_payload = omega arith in
    search rules

pub returns-in-End-clause-left : goal.returns-in-End-clause-left
returns-in-End-clause-left g c =
    let s = at_turn c.requires c.in-End.is in
    record {
      few = omega (arith, c.requires.few);
      opened = s.front;
      path = λ fs f e. path_popped _ _ _ _ (c.requires.path ∙ ap path_of e ∙ path_push fs f) c.pop.ensures.rest;
      ends = ends_behind s c.args.self.now.marks.now;
    }

pub returns-in-End-clause-log : goal.returns-in-End-clause-log
returns-in-End-clause-log g c = log_none _ _ _ _ refl (λ file e coded W d before candidate walk.
    let here = next_here c.args.frames.now.items c.args.frame walk candidate (ap (λ s. s.usable) e) (next_at refl c.in-End.is c.requires.step) in
    turned (turned_behind c.args.frames.now.items c.args.frame walk candidate here) refl refl refl refl (λ n l. refl))

pub returns-in-Nothing-clause-left : goal.returns-in-Nothing-clause-left
returns-in-Nothing-clause-left g c =
    left_on c.requires c.in-Nothing.is tt c.stepped.ensures c.push.ensures.items refl refl refl (λ n l. refl) (omega arith)

pub returns-in-Nothing-clause-log : goal.returns-in-Nothing-clause-log
returns-in-Nothing-clause-log g c = log_none _ _ _ _ refl (λ file e coded W d before candidate walk.
    let here = next_here c.args.frames.now.items c.args.frame walk candidate (ap (λ s. s.usable) e) (next_at refl c.in-Nothing.is c.requires.step) in
    turned (turned_empty c.args.frames.now.items c.args.frame walk candidate c.stepped.ensures here)
    c.push.ensures.items refl refl refl (λ n l. refl))

pub returns-in-Key-clause-left : goal.returns-in-Key-clause-left
returns-in-Key-clause-left g c =
    let others = c.report_key.ensures.others in
    left_on c.requires c.in-Key.is tt c.stepped-in-Key.ensures c.push-in-Key.ensures.items refl others.1 (ap (λ p. p.items) others.3) (λ n l. refl)
    (omega arith)

pub returns-in-Key-clause-log : goal.returns-in-Key-clause-log
returns-in-Key-clause-log g c = log_none _ _ _ _ refl (λ file e coded W d before candidate walk.
    let here = next_here c.args.frames.now.items c.args.frame walk candidate (ap (λ s. s.usable) e) (next_at refl c.in-Key.is c.requires.step) in
    let n = c.report_key.new in
    let same = to_z-of_z w64 c.in-Key.key (search rules) in
    let reported = subst (λ z. Moves g.K.Sink.takes c.args.self.now.sink.now
    (order_reported false (Some c.left_rows-left.result) c.args.self.now.tree.greatest c.args.frame.page
    (c.args.frame.next / 3) z) n.sink) same c.report_key.ensures.reported.items in
    let moved = found_moves g.K.Sink.takes g.T.Taker.takes g.T.Taker.refuses
    (order_reported false (Some c.left_rows-left.result) c.args.self.now.tree.greatest c.args.frame.page
    (c.args.frame.next / 3) c.in-Key.key) c.args.self.now.sink.now n.sink
    c.args.self.now.taker.now reported in
    let read_left = subst (λ z. is_late false (key_value c.args.self.now.tree.greatest) z ≡ true
    → HasLeft c.args.bench.now.geometry.usable c.args.self.now.tree.kind c.args.bench.now.levels c.len.result c.args.frame.page
    (c.args.frame.next / 3) z c.left_rows-left.result) same c.left_rows-left.ensures in
    let left = λ (late : is_late false (key_value c.args.self.now.tree.greatest) c.in-Key.key
    ≡ true). left_here c.args.frames.now.items c.args.frame walk candidate c.stepped-in-Key.ensures here (n.sink, c.args.self.now.taker.now) (ap (λ s.
    s.usable) e)
    c.left_rows-left.result (subst (λ level. HasLeft c.args.bench.now.geometry.usable c.args.self.now.tree.kind c.args.bench.now.levels level c.args.frame.page
    (c.args.frame.next / 3) c.in-Key.key c.left_rows-left.result) c.len.ensures.value (read_left late)) in
    turned (turned_key c.args.frames.now.items c.args.frame walk candidate c.stepped-in-Key.ensures here
    (n.sink, c.args.self.now.taker.now) c.left_rows-left.result left n.self c.report_key.ensures.others.1
    (c.report_key.ensures.greatest ∙ ap (λ z. top_after c.args.self.now.tree.greatest c.args.frame.page (c.args.frame.next / 3) (Some z)) same)
    c.report_key.ensures.others.2 moved)
    c.push-in-Key.ensures.items refl refl refl (λ n l. refl))

pub returns-in-Chain-clause-left : goal.returns-in-Chain-clause-left
returns-in-Chain-clause-left g c =
    let same = c.walk_unfed.ensures.bench in
    on_ok_all c.walk_unfed.result (left_on c.requires c.in-Chain.is tt c.stepped-in-Chain.ensures c.push-in-Chain.ensures.items
    (ap (λ (p : Pages). p.geometry.usable) same) refl refl (λ m l. ap (λ (p : Pages). slice_get p.levels m) same)
    (keeps_fewer c.args.self.now.marks.now c.walk_unfed.new.marks c.walk_unfed.ensures.walks.log.holds.kept))

pub returns-in-Chain-clause-log : goal.returns-in-Chain-clause-log
returns-in-Chain-clause-log g c = has_weaker _ _ c.walk_unfed.ensures.walks.log (λ log r. r) (λ file h e coded W d before candidate walk.
    let here = next_here c.args.frames.now.items c.args.frame walk candidate (ap (λ s. s.usable) e) (next_at refl c.in-Chain.is c.requires.step) in
    let n = c.walk_unfed.new in
    let r = c.walk_unfed.result in
    let is = chain_is c.args.frames.now.items c.args.frame walk candidate c.stepped-in-Chain.ensures here _
    (ap (λ s. s.usable) (c.geometry.ensures.value ∙ e)) refl (c.as_slice.ensures.value ∙ c.requires.path) refl refl refl refl refl in
    let next = chain_next c.args.frames.now.items c.args.frame walk candidate c.stepped-in-Chain.ensures here in
    let done = fed_done g.K.Sink.takes g.T.Taker.takes g.T.Taker.refuses r c.args.self.now.taker.now
    (h (ap (λ s. s.page_size) e) walk.now _ c.args.self.now.tree is next walk.under.at) in
    turned_chain c.args.frames.now.items c.args.frame walk candidate c.stepped-in-Chain.ensures here (fails g.T.Taker.refuses) n.marks
    (n.sink, c.args.self.now.taker.now) c.push-in-Chain.ensures.items (ap (λ (p : Pages). p.levels) c.walk_unfed.ensures.bench) r done)

pub returns-in-Chain-clause-walked : goal.returns-in-Chain-clause-walked
returns-in-Chain-clause-walked g c =
    let done = c.walk_unfed.ensures.walks.beside in
    walked_by (refl, refl, refl, refl, refl, refl, refl) (ap (λ (p : Pages). p.geometry) c.walk_unfed.ensures.bench) done.reads done.writes
    (none_refused c.walk_unfed.result (g.T.Taker.refusals c.args.self.now.taker.now) done.only)
    (read_or_write c.args.self.now.tree.start c.walk_unfed.result done.only) (λ l. refl)

pub enter_child-requires : goal.enter_child-requires
enter_child-requires g c =
    let r = c.requires in
    (search rules, record { few = r.few; opened = r.opened; path = r.path; step = next_at refl c.in-Child.is r.step })

pub returns-in-End-clause-walked : goal.returns-in-End-clause-walked
returns-in-End-clause-walked g c = walked_by (refl, refl, refl, refl, refl, refl, refl) refl refl (walks_ok (inl refl)) refl tt (λ l. refl)

pub returns-in-Nothing-clause-walked : goal.returns-in-Nothing-clause-walked
returns-in-Nothing-clause-walked g c = walked_by (refl, refl, refl, refl, refl, refl, refl) refl refl (walks_ok (inl refl)) refl tt (λ l. refl)

pub returns-in-Key-clause-walked : goal.returns-in-Key-clause-walked
returns-in-Key-clause-walked g c =
    let same = c.report_key.ensures.others in
    walked_by (refl, refl, refl, refl, refl, same.0, same.1) refl refl (walks_ok c.report_key.ensures.reported.count) refl tt (λ l. refl)
