use Rattle.std.proofs.Common.{rules, ◌≡◌, ℕ, ℤ, Option, ◌+◌, ◌-◌, ◌<◌, ◌≤◌, ◌/◌, ◌++◌, [], ◌∷◌, List, length, false, inl, inr, set, Ok, Err, refl, sym, ap}
use Rattle.std.proofs.Common.{subst, arith, ◌∙◌, Bool, Some, slice_get}
use Rattle.dbwalk.proofs.Common.{cell_of_step, page_bytes, IsPageNumber, TreeKind, Go, Changes, Pages, IsUse, KeepsMarks, page_mark, unmarked_pages, Mark}
use Rattle.dbwalk.proofs.Common.{Unmarked, Cause, HasPageAt, IsAtTurn, IsOpen, AreOpen, path_of, done_below, watches, fails, Next, StackFrame}
use Rattle.dbwalk.proofs.Common.{ReadFailed, has_weaker, log_none, log_then}
use Rattle.dbmarks.proofs.Readings.{put_count}
use Rattle.dbwalk.specs.declared.steps.Next.TheVariants.{Child}
use Rattle.dbwalk.proofs.Chaining.Overflows.{page_read}
use Rattle.dbwalk.proofs.Pages.Levels.{log_entered, geometry_kept, read_there, below_kept, keeps_fewer}
use Rattle.dbwalk.proofs.Pages.PageVisits.{kind_is}
use Rattle.dbwalk.proofs.Trees.Frames.{open_push, left_on, ends_enter, path_last, at_turn, step_on, as_deep, way_on, goes_on, path_length, path_popped}
use Rattle.dbwalk.proofs.Underway.TreeSteps.{turned}
use Rattle.dbwalk.proofs.Underway.TreeTurns.{next_here, child, child_asked, child_passed, child_stopped, child_entered}
use Rattle.dbwalk.proofs.Underway.Visits.{done_from, done_refused, entered_done, rows_below, refused_moves, unasked, unread}
use Rattle.dbwalk.proofs.Underway.Walks.{walked_as, walked_as_ok, walked_behind, walked_by, walked_err, walked_tree}
use Rattle.dbwalk.proofs.Reporting.Sinks.{err_is, walks_as, walks_err, walks_ok}
use Rattle.dbtrace.specs.declared.Cause.TheVariants as cause
use Rattle.dbwalk.proofs.tree_walk.TreeWalk.enter_child.Goals as goal

-- the frame of a page at its first step
abbrev frame_of : ℕ → Option ℤ → StackFrame
frame_of page up_to = record { page = page; next = 0; up_to = up_to }

-- the cause of a refusal, between these keys
abbrev rows_of : Option ℤ → Option ℤ → Cause
rows_of above up_to = cause.Rows (record { above = above; up_to = up_to })

-- the bytes at the levels of the frames stay, where a page was read to the next level
kept : (fs : List StackFrame) (g : StackFrame) {items : List StackFrame} → items ≡ fs ++ (g ∷ []) → {level : ℕ} → level ≡ length items
    → {old new : Pages} {P : List ℕ → Type 0} → Changes old level P new → level < 20 → {levels : List (List ℕ)} → levels ≡ new.levels
    → (n : ℕ) → n < length (fs ++ (g ∷ [])) → slice_get levels n ≡ slice_get old.levels n
kept fs g are is read low same n l = ap (λ ls. slice_get ls n) same ∙ below_kept read low n (omega (arith, is, ap length are))

-- the way to the child
way_to : {usable : ℕ} {kind : TreeKind} {levels : List (List ℕ)} {way : List ℕ} {fs : List StackFrame} {f : StackFrame} {next : Next} {items : List ℕ}
    → IsAtTurn usable kind levels way fs f next → items ≡ way ++ (cell_of_step f.next ∷ []) → items ≡ path_of fs ++ (cell_of_step f.next ∷ [])
way_to {f = f} turn are = are ∙ ap (λ l. l ++ (cell_of_step f.next ∷ [])) turn.path

-- fewer pages are left without a mark
fewer : (a : List Mark) {b d : List Mark} (p : ℕ) {m : Mark} → (page_mark a p ≡ Some Unmarked) × (b ≡ set a (p - 1) m) → IsUse m → KeepsMarks b d
    → unmarked_pages d < unmarked_pages a
fewer a {b} {d} p {m} put used same = omega (arith, put_count a p m put.0 used.some, ap unmarked_pages put.1, keeps_fewer b d same)

pub stepped-requires : goal.stepped-requires
stepped-requires g c =
    let most = (at_turn c.requires refl).most in
    omega arith

pub tree_step-step-requires : goal.tree_step-step-requires
tree_step-step-requires g c =
    let low : IsPageNumber c.args.frame.page = (at_turn c.requires refl).low in
    search rules

pub load-requires : goal.load-requires
load-requires g c =
    let low = c.tree_step-step.ensures.shallow (c.in_ok-enter.ensures.shallow (search rules)) in
    (search rules, (omega (arith, low), subst (λ p. 1 ≤ p) c.tree_step-step.ensures.page (c.in_ok-enter.ensures.page (search rules)).0))

pub returns-in_err-enter-clause-log : goal.returns-in_err-enter-clause-log
returns-in_err-enter-clause-log g c = log_none _ _ _ _ c.in_err-enter.ensures.after_error.1 (λ file e coded W d before candidate walk.
    let t = c.args.self.now.tree in
    let here = next_here c.args.frames.now.items c.args.frame walk candidate (ap (λ s. s.usable) e) c.requires.step in
    let r = child c.args.frames.now.items c.args.frame walk candidate c.stepped.ensures here in
    let asked = child_asked c.args.frames.now.items c.args.frame walk candidate c.stepped.ensures here refl c.or-up_to.ensures in
    let n = c.in_err-enter.ensures.entered file walk.now.visits r (rows_below t.greatest c.or-up_to.result)
    (c.tree_step-step.ensures.step t.kind t.start _ _ (as_deep c.args.frames.now.items c.stepped.ensures refl c.push.ensures.items c.len-level.ensures.value)
    asked.0) asked.1 walk.under.at.0 (λ made p. ap (λ above. rows_of above c.or-up_to.result) (sym c.key_value-above.ensures) ∙ sym p) in
    let q = err_is c.from_residual.ensures.1 in
    child_stopped c.args.frames.now.items c.args.frame walk candidate c.stepped.ensures here (fails g.T.Taker.refuses) _
    (q ∙ ap Err c.in_err-enter.ensures.after_error.0)
    (unasked (watches g.K.Sink.takes g.T.Taker.takes) (fails g.T.Taker.refuses) file (done_below file walk.now (Go r ∷ [])) (c.enter.new.marks, t)
    (ap (λ s. (s, c.args.self.now.taker.now)) n.1)))

pub returns-then-not-branch-clause-log : goal.returns-then-not-branch-clause-log
returns-then-not-branch-clause-log g c = log_none _ _ _ _ (c.in_ok-enter.ensures.unmarked c.if-not-branch.true) (λ file e coded W d before candidate walk.
    let t = c.args.self.now.tree in
    let here = next_here c.args.frames.now.items c.args.frame walk candidate (ap (λ s. s.usable) e) c.requires.step in
    let r = child c.args.frames.now.items c.args.frame walk candidate c.stepped.ensures here in
    let asked = child_asked c.args.frames.now.items c.args.frame walk candidate c.stepped.ensures here refl c.or-up_to.ensures in
    let n = rw c.if-not-branch.true at (c.in_ok-enter.ensures.entered file walk.now.visits r (rows_below t.greatest c.or-up_to.result)
    (c.tree_step-step.ensures.step t.kind t.start _ _ (as_deep c.args.frames.now.items c.stepped.ensures refl c.push.ensures.items c.len-level.ensures.value)
    asked.0) asked.1 walk.under.at.0 (λ made p. ap (λ above. rows_of above c.or-up_to.result) (sym c.key_value-above.ensures) ∙ sym p)) in
    let done = done_refused (watches g.K.Sink.takes g.T.Taker.takes) (fails g.T.Taker.refuses) file walk.now r (Ok false)
    (c.enter.new.marks, t) (c.args.self.now.sink.now, c.args.self.now.taker.now) (c.enter.new.sink, c.args.self.now.taker.now) n.0
    (n.1, walk.under.at.1, walk.under.at.2) (refused_moves g.K.Sink.takes g.T.Taker.takes g.T.Taker.refuses file walk.now r
    (kind_is file t.kind t.start _ _ _ _ r asked.0) walk.under.at.1 asked.2 c.args.self.now.sink.now c.enter.new.sink c.args.self.now.taker.now n.2) in
    turned (child_passed c.args.frames.now.items c.args.frame walk candidate c.stepped.ensures here (fails g.T.Taker.refuses) refl done) c.push.ensures.items
    refl refl refl (λ n l. refl))

pub returns-in_err-load-clause-log : goal.returns-in_err-load-clause-log
returns-in_err-load-clause-log g c =
    let read = c.in_err-load.ensures.level in
    let step = c.tree_step-step.ensures in
    has_weaker _ _ (log_entered (Err c.in_err-load.field-0.0) read.bytes step.page (c.in_ok-enter.ensures.marked (search rules)) step.used c.load.ensures.told
    read.size read.holds) (λ log r. r) (λ file u e coded W d before candidate walk.
    let t = c.args.self.now.tree in
    let here = next_here c.args.frames.now.items c.args.frame walk candidate (ap (λ s. s.usable) e) c.requires.step in
    let r = child c.args.frames.now.items c.args.frame walk candidate c.stepped.ensures here in
    let asked = child_asked c.args.frames.now.items c.args.frame walk candidate c.stepped.ensures here refl c.or-up_to.ensures in
    let n = rw c.if-not-branch.false at (c.in_ok-enter.ensures.entered file walk.now.visits r (rows_below t.greatest c.or-up_to.result)
    (c.tree_step-step.ensures.step t.kind t.start _ _ (as_deep c.args.frames.now.items c.stepped.ensures refl c.push.ensures.items c.len-level.ensures.value)
    asked.0) asked.1 walk.under.at.0 (λ made p. ap (λ above. rows_of above c.or-up_to.result) (sym c.key_value-above.ensures) ∙ sym p)) in
    let q = err_is c.from_residual-in_err-load.ensures.1 in
    child_stopped c.args.frames.now.items c.args.frame walk candidate c.stepped.ensures here (fails g.T.Taker.refuses) _ q
    (unread (watches g.K.Sink.takes g.T.Taker.takes) (fails g.T.Taker.refuses) file (done_below file walk.now (Go r ∷ [])) (c.enter.new.marks, t)
    (ap (λ s. (s, c.args.self.now.taker.now)) n.2)))

pub returns-in_err-visit_page-clause-log : goal.returns-in_err-visit_page-clause-log
returns-in_err-visit_page-clause-log g c =
    let low = c.tree_step-step.ensures.shallow (c.in_ok-enter.ensures.shallow (search rules)) in
    let read = c.in_ok-load.ensures.level in
    let same = geometry_kept read low in
    let step = c.tree_step-step.ensures in
    let deep = as_deep c.args.frames.now.items c.stepped.ensures (way_to c.requires c.push-2.ensures.items) c.push.ensures.items c.len-level.ensures.value in
    log_then _ _ (ap (λ s. s.page_size) same) (log_entered (Ok tt) read.bytes step.page (c.in_ok-enter.ensures.marked (search rules)) step.used
    c.load.ensures.told read.size read.holds) c.in_err-visit_page.ensures.log
    (λ file h done e coded W d before candidate walk.
    let t = c.args.self.now.tree in
    let here = next_here c.args.frames.now.items c.args.frame walk candidate (ap (λ s. s.usable) e) c.requires.step in
    let r = child c.args.frames.now.items c.args.frame walk candidate c.stepped.ensures here in
    let asked = child_asked c.args.frames.now.items c.args.frame walk candidate c.stepped.ensures here (way_to c.requires c.push-2.ensures.items)
    c.or-up_to.ensures in
    let n = rw c.if-not-branch.false at (c.in_ok-enter.ensures.entered file walk.now.visits r (rows_below t.greatest c.or-up_to.result)
    (c.tree_step-step.ensures.step t.kind t.start _ _ deep asked.0) asked.1 walk.under.at.0
    (λ made p. ap (λ above. rows_of above c.or-up_to.result) (sym c.key_value-above.ensures) ∙ sym p)) in
    let there = subst (λ l. HasPageAt c.load.new.self.levels l (page_bytes file c.args.page)) (sym deep)
    (read_there read low (page_bytes file c.args.page) (page_read file read.bytes _ c.args.page read.size h (sym (ap (λ s. s.page_size) e)))) in
    let visit = done (same ∙ e) coded walk.now r c.args.frame.page (c.args.frame.next / 3) asked.0 there asked.1 n.0 n.1 walk.under.at.1 walk.under.at.2
    asked.2 in
    let entry = done_from (ap (λ s. (s, c.args.self.now.taker.now)) n.2) visit.0 in
    let q = err_is c.from_residual-in_err-visit_page.ensures.1 in
    child_stopped c.args.frames.now.items c.args.frame walk candidate c.stepped.ensures here (fails g.T.Taker.refuses) _ q entry)

pub returns-then-not-branch-2-clause-log : goal.returns-then-not-branch-2-clause-log
returns-then-not-branch-2-clause-log g c =
    let low = c.tree_step-step.ensures.shallow (c.in_ok-enter.ensures.shallow (search rules)) in
    let read = c.in_ok-load.ensures.level in
    let same = geometry_kept read low in
    let step = c.tree_step-step.ensures in
    let deep = as_deep c.args.frames.now.items c.stepped.ensures (way_to c.requires c.push-2.ensures.items) c.push.ensures.items c.len-level.ensures.value in
    log_then _ _ (ap (λ s. s.page_size) same) (log_entered (Ok tt) read.bytes step.page (c.in_ok-enter.ensures.marked (search rules)) step.used
    c.load.ensures.told read.size read.holds) c.in_ok-visit_page.ensures.log
    (λ file h done e coded W d before candidate walk.
    let t = c.args.self.now.tree in
    let here = next_here c.args.frames.now.items c.args.frame walk candidate (ap (λ s. s.usable) e) c.requires.step in
    let r = child c.args.frames.now.items c.args.frame walk candidate c.stepped.ensures here in
    let asked = child_asked c.args.frames.now.items c.args.frame walk candidate c.stepped.ensures here (way_to c.requires c.push-2.ensures.items)
    c.or-up_to.ensures in
    let n = rw c.if-not-branch.false at (c.in_ok-enter.ensures.entered file walk.now.visits r (rows_below t.greatest c.or-up_to.result)
    (c.tree_step-step.ensures.step t.kind t.start _ _ deep asked.0) asked.1 walk.under.at.0
    (λ made p. ap (λ above. rows_of above c.or-up_to.result) (sym c.key_value-above.ensures) ∙ sym p)) in
    let there = subst (λ l. HasPageAt c.load.new.self.levels l (page_bytes file c.args.page)) (sym deep)
    (read_there read low (page_bytes file c.args.page) (page_read file read.bytes _ c.args.page read.size h (sym (ap (λ s. s.page_size) e)))) in
    let visit = done (same ∙ e) coded walk.now r c.args.frame.page (c.args.frame.next / 3) asked.0 there asked.1 n.0 n.1 walk.under.at.1 walk.under.at.2
    asked.2 in
    let entry = done_from (ap (λ s. (s, c.args.self.now.taker.now)) n.2) visit.0 in
    turned (child_passed c.args.frames.now.items c.args.frame walk candidate c.stepped.ensures here (fails g.T.Taker.refuses) c.visit_page.ensures.walked.kind
    (entered_done walk.now r false c.if-not-branch-2.true entry))
    c.push.ensures.items refl refl refl (kept c.args.frames.now.items c.stepped.result c.push.ensures.items c.len-level.ensures.value read low
    c.visit_page.ensures.levels))

pub returns-clause-log : goal.returns-clause-log
returns-clause-log g c =
    let low = c.tree_step-step.ensures.shallow (c.in_ok-enter.ensures.shallow (search rules)) in
    let read = c.in_ok-load.ensures.level in
    let same = geometry_kept read low in
    let step = c.tree_step-step.ensures in
    let deep = as_deep c.args.frames.now.items c.stepped.ensures (way_to c.requires c.push-2.ensures.items) c.push.ensures.items c.len-level.ensures.value in
    log_then _ _ (ap (λ s. s.page_size) same) (log_entered (Ok tt) read.bytes step.page (c.in_ok-enter.ensures.marked (search rules)) step.used
    c.load.ensures.told read.size read.holds) c.in_ok-visit_page.ensures.log
    (λ file h done e coded W d before candidate walk.
    let t = c.args.self.now.tree in
    let here = next_here c.args.frames.now.items c.args.frame walk candidate (ap (λ s. s.usable) e) c.requires.step in
    let r = child c.args.frames.now.items c.args.frame walk candidate c.stepped.ensures here in
    let asked = child_asked c.args.frames.now.items c.args.frame walk candidate c.stepped.ensures here (way_to c.requires c.push-2.ensures.items)
    c.or-up_to.ensures in
    let n = rw c.if-not-branch.false at (c.in_ok-enter.ensures.entered file walk.now.visits r (rows_below t.greatest c.or-up_to.result)
    (c.tree_step-step.ensures.step t.kind t.start _ _ deep asked.0) asked.1 walk.under.at.0
    (λ made p. ap (λ above. rows_of above c.or-up_to.result) (sym c.key_value-above.ensures) ∙ sym p)) in
    let there = subst (λ l. HasPageAt c.load.new.self.levels l (page_bytes file c.args.page)) (sym deep)
    (read_there read low (page_bytes file c.args.page) (page_read file read.bytes _ c.args.page read.size h (sym (ap (λ s. s.page_size) e)))) in
    let visit = done (same ∙ e) coded walk.now r c.args.frame.page (c.args.frame.next / 3) asked.0 there asked.1 n.0 n.1 walk.under.at.1 walk.under.at.2
    asked.2 in
    let entry = done_from (ap (λ s. (s, c.args.self.now.taker.now)) n.2) visit.0 in
    turned (child_entered c.args.frames.now.items c.args.frame walk candidate c.stepped.ensures here (fails g.T.Taker.refuses) (frame_of c.args.page
    c.or-up_to.result) c.visit_page.ensures.walked.kind refl refl c.or-up_to.ensures
    (kept c.args.frames.now.items c.stepped.result c.push.ensures.items c.len-level.ensures.value read low c.visit_page.ensures.levels) c.if-not-branch-2.false
    entry (visit.1 (search rules)))
    (c.push-3.ensures.items ∙ ap (λ l. l ++ (frame_of c.args.page c.or-up_to.result ∷ [])) c.push.ensures.items) refl refl refl (λ n l. refl))

pub visit_page-requires : goal.visit_page-requires
visit_page-requires g c =
    let low = c.tree_step-step.ensures.shallow (c.in_ok-enter.ensures.shallow (search rules)) in (
      search rules,
      (
        subst (λ n. n < 20) (sym (as_deep c.args.frames.now.items c.stepped.ensures
            (way_to c.requires c.push-2.ensures.items) c.push.ensures.items c.len-level.ensures.value)) low,
        subst IsPageNumber c.tree_step-step.ensures.page (c.in_ok-enter.ensures.page (search rules)).1,
      ),
    )

pub push-requires-2 : goal.push-requires-2
push-requires-2 g c = (search rules, subst (λ n. n < 20) (sym (ap length c.requires.path ∙ path_length c.args.frames.now.items)) c.requires.few)

pub push-requires-3 : goal.push-requires-3
push-requires-3 g c =
    let low = c.tree_step-step.ensures.shallow (c.in_ok-enter.ensures.shallow (search rules)) in
    (search rules, omega (arith, low, c.len-level.ensures.value))

pub returns-then-not-branch-clause-left : goal.returns-then-not-branch-clause-left
returns-then-not-branch-clause-left g c = left_on c.requires refl tt c.stepped.ensures c.push.ensures.items refl refl refl (λ n l. refl)
    (omega (arith, ap unmarked_pages (c.in_ok-enter.ensures.unmarked c.if-not-branch.true)))

pub returns-then-not-branch-2-clause-left : goal.returns-then-not-branch-2-clause-left
returns-then-not-branch-2-clause-left g c =
    let low = c.tree_step-step.ensures.shallow (c.in_ok-enter.ensures.shallow (search rules)) in
    let read = c.in_ok-load.ensures.level in
    let visited = c.visit_page.ensures in
    let less = fewer c.args.self.now.marks.now c.tree_step-step.result.page (c.in_ok-enter.ensures.marked (search rules))
    c.tree_step-step.ensures.used visited.log.holds.kept in
    left_on c.requires refl tt c.stepped.ensures c.push.ensures.items (ap (λ s. s.usable) (visited.walked.shape ∙ geometry_kept read low))
    visited.walked.kind (path_popped _ _ _ _ (ap (λ p. p.items) visited.path ∙ c.push-2.ensures.items) c.pop.ensures.rest)
    (kept c.args.frames.now.items c.stepped.result c.push.ensures.items c.len-level.ensures.value read low visited.levels) (omega (arith, less))

pub returns-clause-left : goal.returns-clause-left
returns-clause-left g c =
    let low = c.tree_step-step.ensures.shallow (c.in_ok-enter.ensures.shallow (search rules)) in
    let read = c.in_ok-load.ensures.level in
    let visited = c.visit_page.ensures in
    let less = fewer c.args.self.now.marks.now c.tree_step-step.result.page (c.in_ok-enter.ensures.marked (search rules))
    c.tree_step-step.ensures.used visited.log.holds.kept in
    let n = c.visit_page.new in
    let frame = frame_of c.args.page c.or-up_to.result in
    let way = way_to c.requires c.push-2.ensures.items in
    let deep = as_deep c.args.frames.now.items c.stepped.ensures way c.push.ensures.items c.len-level.ensures.value in
    let are = c.push-3.ensures.items ∙ ap (λ l. l ++ (frame ∷ [])) c.push.ensures.items in
    record {
      few = omega (arith, low, c.len-level.ensures.value, c.push-3.ensures.len);
      opened = subst (λ l. AreOpen n.bench.geometry.usable n.self.tree.kind n.bench.levels 0 l) (sym are)
          (open_push n.bench.geometry.usable n.self.tree.kind n.bench.levels 0 (c.args.frames.now.items ++ (c.stepped.result ∷ [])) frame
          (step_on (at_turn c.requires refl) c.stepped.ensures (goes_on (Child _ _) tt) refl _ _ _
          (ap (λ s. s.usable) (visited.walked.shape ∙ geometry_kept read low)) visited.walked.kind
          (kept c.args.frames.now.items c.stepped.result c.push.ensures.items c.len-level.ensures.value read low visited.levels))
          (subst (λ m. IsOpen n.bench.geometry.usable n.self.tree.kind n.bench.levels m c.args.page 0)
          (let z : length c.push-2.new.self.items ≡ 0 + length (c.args.frames.now.items ++ (c.stepped.result ∷ [])) =
          omega (arith, deep ∙ c.len-level.ensures.value ∙ ap length c.push.ensures.items) in z) (c.in_ok-visit_page.ensures.«open» (search rules))));
      path = path_last _ _ _ _ are (ap (λ p. p.items) visited.path ∙ way_on c.args.frames.now.items c.stepped.ensures way);
      ends = ends_enter (at_turn c.requires refl) c.stepped.ensures c.args.self.now.marks.now n.self.marks.now frame are less refl;
    }

pub returns-in_err-enter-clause-walked : goal.returns-in_err-enter-clause-walked
returns-in_err-enter-clause-walked g c =
    let q = err_is c.from_residual.ensures.1 in
    let f = c.in_err-enter.ensures.after_error.0 in
    walked_err (q ∙ ap Err f) (inr refl) (refl, refl, refl, refl, refl, refl, refl) refl refl
    (walks_as (ap Err (sym f)) c.in_err-enter.ensures.writes) refl (λ l. refl)

pub returns-then-not-branch-clause-walked : goal.returns-then-not-branch-clause-walked
returns-then-not-branch-clause-walked g c = walked_by (refl, refl, refl, refl, refl, refl, refl) refl refl
    (walks_ok c.in_ok-enter.ensures.writes.moves) refl tt (λ l. refl)

pub returns-in_err-load-clause-walked : goal.returns-in_err-load-clause-walked
returns-in_err-load-clause-walked g c =
    let q = err_is c.from_residual-in_err-load.ensures.1 in
    let low = c.tree_step-step.ensures.shallow (c.in_ok-enter.ensures.shallow (search rules)) in
    let read = c.load.ensures.level in
    walked_err {e = ReadFailed} q (inl refl) (refl, refl, refl, refl, refl, refl, refl) (geometry_kept read low)
    c.in_err-load.ensures.count (walks_err refl c.in_ok-enter.ensures.writes.moves (c.in_ok-enter.ensures.«open» (search rules))) refl (λ l. refl)

pub returns-in_err-visit_page-clause-walked : goal.returns-in_err-visit_page-clause-walked
returns-in_err-visit_page-clause-walked g c =
    let low = c.tree_step-step.ensures.shallow (c.in_ok-enter.ensures.shallow (search rules)) in
    let read = c.in_ok-load.ensures.level in
    walked_as {R = Bool} (err_is c.from_residual-in_err-visit_page.ensures.1) (walked_behind {R = Unit {0}} {a = tt} c.in_err-visit_page.ensures.walked
    (walked_by (refl, refl, refl, refl, refl, refl, refl) (geometry_kept read low)
    c.in_ok-load.ensures.count (walks_ok c.in_ok-enter.ensures.writes.moves) refl tt (λ l. refl)))

pub returns-then-not-branch-2-clause-walked : goal.returns-then-not-branch-2-clause-walked
returns-then-not-branch-2-clause-walked g c =
    let low = c.tree_step-step.ensures.shallow (c.in_ok-enter.ensures.shallow (search rules)) in
    let read = c.in_ok-load.ensures.level in
    walked_tree refl refl (walked_as_ok (walked_behind {R = Unit {0}} {a = tt} c.in_ok-visit_page.ensures.walked
    (walked_by (refl, refl, refl, refl, refl, refl, refl) (geometry_kept read low)
    c.in_ok-load.ensures.count (walks_ok c.in_ok-enter.ensures.writes.moves) refl tt (λ l. refl))))

pub returns-clause-walked : goal.returns-clause-walked
returns-clause-walked g c =
    let low = c.tree_step-step.ensures.shallow (c.in_ok-enter.ensures.shallow (search rules)) in
    let read = c.in_ok-load.ensures.level in
    walked_as_ok (walked_behind {R = Unit {0}} {a = tt} c.in_ok-visit_page.ensures.walked
    (walked_by (refl, refl, refl, refl, refl, refl, refl) (geometry_kept read low)
    c.in_ok-load.ensures.count (walks_ok c.in_ok-enter.ensures.writes.moves) refl tt (λ l. refl)))
