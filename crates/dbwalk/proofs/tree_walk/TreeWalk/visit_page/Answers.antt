use Rattle.std.proofs.Common.{rules, length, false, Ok, Err, refl, sym, ap, subst, ◌∙◌, slice_get}
use Rattle.dbwalk.proofs.Common.{count, HasSpan, AreRisingFrom, has_weaker, log_none, Reads}
use Rattle.std.proofs.lemmas.Bool.{false≢true}
use Rattle.dbformat.proofs.Looping.{none_at_damage}
use Rattle.dbwalk.specs.Found.{IsFound}
use Rattle.dbwalk.specs.LeafCells.{ArePassed}
use Rattle.dbwalk.proofs.Leaves.RisingKeys.{rising_all}
use Rattle.dbwalk.proofs.Pages.PageReportings.{with_span}
use Rattle.dbwalk.proofs.Pages.PageVisits.{bytes_are, found_interior, found_damage, found_leaf, found_view, kind_is}
use Rattle.dbwalk.proofs.Underway.CellSteps.{other_start, leaf_passed}
use Rattle.dbwalk.proofs.Underway.Visits.{visited, visit_then, visit_alone, entered_past, entered_err, visited_before, page_moves, visited_at}
use Rattle.dbwalk.proofs.Underway.Walks.{walked_as, walked_as_ok, walked_behind, walked_by}
use Rattle.dbwalk.proofs.Reporting.Sinks.{err_is, walks_ok}
use Rattle.dbwalk.proofs.tree_walk.TreeWalk.visit_page.Goals as goal

pub returns-in-Interior-clause-log : goal.returns-in-Interior-clause-log
returns-in-Interior-clause-log g c = log_none c.args.bench.now.geometry.page_size c.args.self.now.marks.now c.args.self.now.marks.now
    (g.S.Source.held c.args.self.now.source.now) refl
    (λ file e coded from d above item candidate there next followed m top first bound.
    let reported = c.report_page.ensures.reported file d above item e candidate there in
    let found = subst (λ f. IsFound c.report_page.new.bench.geometry.usable c.report_page.new.tree.kind c.report_page.new.bench.levels
    (length c.args.self.now.tree.path.items) c.args.page f) c.in-Interior.is c.report_page.ensures.«open» in (
      record {
        at = visited_at file from d first top bound c.report_page.new.tree m (c.report_page.ensures.tree.2 ∙ top) reported.1;
        handed = page_moves file from d first top bound (kind_is file _ _ _ _ _ _ _ candidate)
            g.K.Sink.takes g.T.Taker.takes g.T.Taker.refuses _ _ c.args.self.now.taker.now reported.0.items;
      },
      λ yes. found_interior file candidate there c.report_page.ensures.bench.1 c.report_page.ensures.tree.1
          (ap (λ s. s.usable) (c.report_page.ensures.bench.0 ∙ e))
          from followed found,
    ))

pub returns-in-Damaged-clause-log : goal.returns-in-Damaged-clause-log
returns-in-Damaged-clause-log g c = log_none c.args.bench.now.geometry.page_size c.args.self.now.marks.now c.args.self.now.marks.now
    (g.S.Source.held c.args.self.now.source.now) refl
    (λ file e coded from d above item candidate there next followed m top first bound.
    let reported = c.report_page.ensures.reported file d above item e candidate there in
    let found = subst (λ f. IsFound c.report_page.new.bench.geometry.usable c.report_page.new.tree.kind c.report_page.new.bench.levels
    (length c.args.self.now.tree.path.items) c.args.page f) c.in-Damaged.is c.report_page.ensures.«open» in
    let none = none_at_damage file d c.args.self.now.tree.kind (kind_is file _ _ _ _ _ _ _ candidate)
    (found_damage file candidate there c.report_page.ensures.bench.1 c.report_page.ensures.tree.1
    (ap (λ s. s.usable) (c.report_page.ensures.bench.0 ∙ e)) found)
    in
    let at = visited_at file from d first top bound c.report_page.new.tree m (c.report_page.ensures.tree.2 ∙ top) reported.1 in
    entered_past _ _ file from d _ false _ _ _ (visit_alone _ _ file from d followed false _ _ _ none at
    (page_moves file from d first top bound (kind_is file _ _ _ _ _ _ _ candidate)
    g.K.Sink.takes g.T.Taker.takes g.T.Taker.refuses _ _ c.args.self.now.taker.now reported.0.items)))

pub returns-in_err-walk_leaf-in-Leaf-clause-log : goal.returns-in_err-walk_leaf-in-Leaf-clause-log
returns-in_err-walk_leaf-in-Leaf-clause-log g c = has_weaker _ _ c.in_err-walk_leaf-in-Leaf.ensures.log
    (λ log r. subst (λ n. Reads n c.args.self.now.marks.now c.walk_leaf.new.self.marks.now log)
    (ap (λ s. s.page_size) (c.geometry-shape.ensures.value ∙ c.report_page.ensures.bench.0)) r)
    (λ file h e coded from d above item candidate there next followed m top first bound.
    let same = c.pass_over.ensures.others in
    let tree = c.report_page.ensures.tree in
    let reported = c.report_page.ensures.reported file d above item e candidate there in
    let found = subst (λ f. IsFound c.report_page.new.bench.geometry.usable c.report_page.new.tree.kind c.report_page.new.bench.levels
    (length c.args.self.now.tree.path.items) c.args.page f) c.in-Leaf.is c.report_page.ensures.«open» in
    let at = found_leaf file candidate there c.report_page.ensures.bench.1 c.report_page.ensures.tree.1 (ap (λ s. s.usable) (c.report_page.ensures.bench.0 ∙ e))
    (same.1 ∙ tree.1) (same.0 ∙ tree.0) (ap (λ p. p.items) (same.3 ∙ tree.3)) found.leaf in
    let are = bytes_are file candidate there c.report_page.ensures.bench.1 c.report_page.ensures.tree.1
    (ap (λ s. s.usable) (c.report_page.ensures.bench.0 ∙ e)) c.chain-buffer.result.0.now
    (ap (slice_get c.report_page.new.bench.levels) (sym (c.len.ensures.value ∙ ap (λ p. length p.items) (same.3 ∙ tree.3))) ∙ c.chain-buffer.ensures.page) in
    let here = visited_at file from d first top bound c.pass_over.new.self m (c.pass_over.ensures.kept c.if-pass_over.false ∙ tree.2 ∙ top) (same.2
    ∙ reported.1) in
    let done = h (c.geometry-shape.ensures.value ∙ c.report_page.ensures.bench.0 ∙ e) coded (visited file from d) d found.leaf.view at are
    (found_view file candidate there c.report_page.ensures.bench.1 c.report_page.ensures.tree.1 (ap (λ s. s.usable) (c.report_page.ensures.bench.0 ∙ e))
    found.leaf) found.leaf.leaf (visited_before file from d next) here in
    let q = err_is c.from_residual.ensures.1 in
    entered_err _ _ file from d _ _ c.in_err-walk_leaf-in-Leaf.field-0.0 _ _ _ q
    (visit_then _ _ file from d followed (Err c.in_err-walk_leaf-in-Leaf.field-0.0) _ _ (c.report_page.new.sink, c.args.self.now.taker.now) _
    (page_moves file from d first top bound (kind_is file _ _ _ _ _ _ _ candidate)
    g.K.Sink.takes g.T.Taker.takes g.T.Taker.refuses _ _ c.args.self.now.taker.now reported.0.items) done))

pub returns-in_ok-walk_leaf-in-Leaf-clause-log : goal.returns-in_ok-walk_leaf-in-Leaf-clause-log
returns-in_ok-walk_leaf-in-Leaf-clause-log g c = has_weaker _ _ c.in_ok-walk_leaf-in-Leaf.ensures.log
    (λ log r. subst (λ n. Reads n c.args.self.now.marks.now c.walk_leaf.new.self.marks.now log)
    (ap (λ s. s.page_size) (c.geometry-shape.ensures.value ∙ c.report_page.ensures.bench.0)) r)
    (λ file h e coded from d above item candidate there next followed m top first bound.
    let same = c.pass_over.ensures.others in
    let tree = c.report_page.ensures.tree in
    let reported = c.report_page.ensures.reported file d above item e candidate there in
    let found = subst (λ f. IsFound c.report_page.new.bench.geometry.usable c.report_page.new.tree.kind c.report_page.new.bench.levels
    (length c.args.self.now.tree.path.items) c.args.page f) c.in-Leaf.is c.report_page.ensures.«open» in
    let at = found_leaf file candidate there c.report_page.ensures.bench.1 c.report_page.ensures.tree.1 (ap (λ s. s.usable) (c.report_page.ensures.bench.0 ∙ e))
    (same.1 ∙ tree.1) (same.0 ∙ tree.0) (ap (λ p. p.items) (same.3 ∙ tree.3)) found.leaf in
    let are = bytes_are file candidate there c.report_page.ensures.bench.1 c.report_page.ensures.tree.1
    (ap (λ s. s.usable) (c.report_page.ensures.bench.0 ∙ e)) c.chain-buffer.result.0.now
    (ap (slice_get c.report_page.new.bench.levels) (sym (c.len.ensures.value ∙ ap (λ p. length p.items) (same.3 ∙ tree.3))) ∙ c.chain-buffer.ensures.page) in
    let here = visited_at file from d first top bound c.pass_over.new.self m (c.pass_over.ensures.kept c.if-pass_over.false ∙ tree.2 ∙ top) (same.2
    ∙ reported.1) in
    let done = h (c.geometry-shape.ensures.value ∙ c.report_page.ensures.bench.0 ∙ e) coded (visited file from d) d found.leaf.view at are
    (found_view file candidate there c.report_page.ensures.bench.1 c.report_page.ensures.tree.1 (ap (λ s. s.usable) (c.report_page.ensures.bench.0 ∙ e))
    found.leaf) found.leaf.leaf (visited_before file from d next) here in
    entered_past _ _ file from d _ c.in_ok-walk_leaf-in-Leaf.field-0 _ _ _
    (visit_then _ _ file from d followed (Ok c.in_ok-walk_leaf-in-Leaf.field-0) _ _ (c.report_page.new.sink, c.args.self.now.taker.now) _
    (page_moves file from d first top bound (kind_is file _ _ _ _ _ _ _ candidate)
    g.K.Sink.takes g.T.Taker.takes g.T.Taker.refuses _ _ c.args.self.now.taker.now reported.0.items) done))

pub returns-then-pass_over-clause-log : goal.returns-then-pass_over-clause-log
returns-then-pass_over-clause-log g c = log_none c.args.bench.now.geometry.page_size c.args.self.now.marks.now c.args.self.now.marks.now
    (g.S.Source.held c.args.self.now.source.now) refl
    (λ file e coded from d above item candidate there next followed m top first bound.
    let n = c.report_page.new.tree in
    let after = c.pass_over.new.self in
    let reported = c.report_page.ensures.reported file d above item e candidate there in
    let found = subst (λ f. IsFound c.report_page.new.bench.geometry.usable c.report_page.new.tree.kind c.report_page.new.bench.levels
    (length c.args.self.now.tree.path.items) c.args.page f) c.in-Leaf.is c.report_page.ensures.«open» in
    let keys = with_span c.in-Leaf.keys (λ span. ArePassed c.args.page n.start n.greatest span after.greatest) (λ span. HasSpan found.leaf.view span)
    (c.pass_over.ensures.passed c.if-pass_over.true) found.span in
    let rising = subst (λ a. AreRisingFrom c.args.page found.leaf.view 0 (count found.leaf.view) n.greatest a) (sym keys.1.after_is)
    (rising_all c.args.page found.leaf.view keys.0 keys.2 n.greatest keys.1.above) in
    let here = visited_at file from d first top bound c.report_page.new.tree m (c.report_page.ensures.tree.2 ∙ top) reported.1 in
    let other = other_start d.address n.start (candidate.start ∙ sym c.report_page.ensures.tree.0) keys.1.other in
    let done = leaf_passed _ _ file (visited file from d) d c.args.self.now.tree.kind found.leaf.view other
    (kind_is file _ _ _ _ _ _ _ candidate)
    (found_view file candidate there c.report_page.ensures.bench.1 c.report_page.ensures.tree.1 (ap (λ s. s.usable) (c.report_page.ensures.bench.0 ∙ e))
    found.leaf) found.leaf.leaf after.greatest
    (subst (λ q. AreRisingFrom q found.leaf.view 0 (count found.leaf.view) (visited file from d).state.greatest after.greatest) (sym candidate.page)
    (subst (λ a. AreRisingFrom c.args.page found.leaf.view 0 (count found.leaf.view) a after.greatest) here.1 rising)) c.args.self.now.marks.now after
    (c.report_page.new.sink, c.args.self.now.taker.now) (m, refl, c.pass_over.ensures.others.2 ∙ here.2) in
    entered_past _ _ file from d _ tt _ _ _ (visit_then _ _ file from d followed (Ok tt) _ _ (c.report_page.new.sink, c.args.self.now.taker.now) _
    (page_moves file from d first top bound (kind_is file _ _ _ _ _ _ _ candidate)
    g.K.Sink.takes g.T.Taker.takes g.T.Taker.refuses _ _ c.args.self.now.taker.now reported.0.items) done))

pub returns-in_err-walk_leaf-in-Leaf-clause-walked : goal.returns-in_err-walk_leaf-in-Leaf-clause-walked
returns-in_err-walk_leaf-in-Leaf-clause-walked g c =
    let same = c.pass_over.ensures.others in
    walked_as {R = Unit {0}} (err_is c.from_residual.ensures.1) (walked_behind {R = Unit {0}} {a = tt}
    (rw c.geometry-shape.ensures.value at c.in_err-walk_leaf-in-Leaf.ensures.walked)
    (walked_by (refl, refl, refl, refl, refl, same.0 ∙ c.report_page.ensures.tree.0, same.1 ∙ c.report_page.ensures.tree.1) c.report_page.ensures.bench.0 refl
    (walks_ok c.report_page.ensures.writes) refl tt (λ l. refl)))

pub walk_leaf-requires : goal.walk_leaf-requires
walk_leaf-requires g c =
    let size = ap (λ s. s.page_size) (sym c.geometry-shape.ensures.value) in
    let len = c.chain-buffer.ensures.len in
    record { page = c.requires.1; shape = (c.geometry-shape.ensures.range, len.0 ∙ size, len.1 ∙ size) }

pub chain-buffer-requires : goal.chain-buffer-requires
chain-buffer-requires g c =
    (search rules, rw (c.len.ensures.value, c.pass_over.ensures.others.3, c.report_page.ensures.tree.3) c.requires.0)

pub returns-then-pass_over-clause-walked : goal.returns-then-pass_over-clause-walked
returns-then-pass_over-clause-walked g c =
    let same = c.pass_over.ensures.others in
    walked_by (refl, refl, refl, refl, refl, same.0 ∙ c.report_page.ensures.tree.0, same.1 ∙ c.report_page.ensures.tree.1) c.report_page.ensures.bench.0 refl
    (walks_ok c.report_page.ensures.writes) refl tt (λ l. refl)

pub returns-in_ok-walk_leaf-in-Leaf-clause-walked : goal.returns-in_ok-walk_leaf-in-Leaf-clause-walked
returns-in_ok-walk_leaf-in-Leaf-clause-walked g c =
    let same = c.pass_over.ensures.others in
    walked_as_ok (walked_behind {R = Unit {0}} {a = tt} (rw c.geometry-shape.ensures.value at c.in_ok-walk_leaf-in-Leaf.ensures.walked) (walked_by
    (refl, refl, refl, refl, refl, same.0 ∙ c.report_page.ensures.tree.0, same.1 ∙ c.report_page.ensures.tree.1) c.report_page.ensures.bench.0 refl
    (walks_ok c.report_page.ensures.writes) refl tt (λ l. refl)))

pub returns-in-Damaged-clause-open : goal.returns-in-Damaged-clause-open
returns-in-Damaged-clause-open g c = λ is. absurd (false≢true is)

pub returns-then-pass_over-clause-open : goal.returns-then-pass_over-clause-open
returns-then-pass_over-clause-open g c = λ is. absurd (false≢true is)

pub returns-in_ok-walk_leaf-in-Leaf-clause-open : goal.returns-in_ok-walk_leaf-in-Leaf-clause-open
returns-in_ok-walk_leaf-in-Leaf-clause-open g c = λ is. absurd (false≢true is)

pub returns-in-Interior-clause-walked : goal.returns-in-Interior-clause-walked
returns-in-Interior-clause-walked g c =
    walked_by (refl, refl, refl, refl, refl, c.report_page.ensures.tree.0, c.report_page.ensures.tree.1)
    c.report_page.ensures.bench.0 refl (walks_ok c.report_page.ensures.writes) refl tt (λ l. refl)

pub returns-in-Damaged-clause-walked : goal.returns-in-Damaged-clause-walked
returns-in-Damaged-clause-walked g c =
    walked_by (refl, refl, refl, refl, refl, c.report_page.ensures.tree.0, c.report_page.ensures.tree.1)
    c.report_page.ensures.bench.0 refl (walks_ok c.report_page.ensures.writes) refl tt (λ l. refl)
