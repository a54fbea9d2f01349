use Rattle.std.proofs.Common.{ℕ, ◌≡◌, ◌≤◌, Result, Ok, Err, refl, sym, ap, subst, ◌∙◌, is_some}
use Rattle.dbwalk.proofs.Common.{RunError, Moves, late_reported, top_after, IsWriteOrMemory, IsTreeError, has_weaker}
use Rattle.dbwalk.proofs.Leaves.LeafErrands.{past_cell, rowid_here}
use Rattle.dbwalk.proofs.Underway.Handing.{stopped_as, found_moves}
use Rattle.dbwalk.proofs.Underway.LeafCellRuns.{gone, chain_stops, row_reported, row_stops, key_done}
use Rattle.dbwalk.proofs.Underway.Walks.{tree_error, unread, walked_as, walked_by, walked_err}
use Rattle.dbwalk.proofs.Reporting.Sinks.{err_is, moves_then, walks_after, walks_ok}
use Rattle.dbwalk.proofs.tree_walk.TreeWalk.walk_leaf_cell.Goals as goal

pub returns-in_err-walk_overflow-clause-log : goal.returns-in_err-walk_overflow-clause-log
returns-in_err-walk_overflow-clause-log g c = has_weaker _ _ c.in_err-walk_overflow.ensures.walks.log (λ log r. r)
    (λ file h e coded from d at viewed leaf before isat.
    let v = c.args.view.now in
    let read = c.leaf_cell-cell.result in
    let cell = c.leaf_cell-cell.ensures in
    stopped_as (err_is c.from_residual.ensures.1)
    (chain_stops file from d c.args.self.now.tree.kind v leaf c.args.place.item read.overflow cell.chain read.key cell.key_is g.K.Sink.takes g.T.Taker.takes
    g.T.Taker.refuses c.in_err-walk_overflow.field-0.0 (c.walk_overflow.new.marks, c.args.self.now.tree) (c.walk_overflow.new.marks, c.args.self.now.tree)
    c.args.self.now.sink.now c.walk_overflow.new.sink c.args.self.now.taker.now
    (h (ap (λ s. s.page_size) e) e from d at (rowid_here file at viewed c.args.place.item ∙ sym cell.key_is)
    (past_cell from.visits d c.args.place.item read.overflow before) isat).0).handed)

pub returns-in_err-report_row-clause-log : goal.returns-in_err-report_row-clause-log
returns-in_err-report_row-clause-log g c = has_weaker _ _ c.in_ok-walk_overflow.ensures.walks.log (λ log r. r)
    (λ file h e coded from d at viewed leaf before isat.
    let v = c.args.view.now in
    let read = c.leaf_cell-cell.result in
    let cell = c.leaf_cell-cell.ensures in
    let done = h (ap (λ s. s.page_size) e) e from d at (rowid_here file at viewed c.args.place.item ∙ sym cell.key_is)
    (past_cell from.visits d c.args.place.item read.overflow before) isat in
    stopped_as (err_is c.from_residual-in_err-report_row.ensures.1)
    (row_stops file from d c.args.self.now.tree.kind v leaf c.args.place.item read.overflow cell.chain read.key cell.key_is g.K.Sink.takes g.T.Taker.takes
    g.T.Taker.refuses c.in_err-report_row.field-0.0 c.walk_overflow.new.marks c.args.self.now.tree c.args.self.now.tree
    c.args.self.now.sink.now c.walk_overflow.new.sink c.args.self.now.taker.now (c.report_row.new.sink, c.report_row.new.taker) done.0
    (row_reported file from d c.args.self.now.tree.kind v leaf c.args.place.item read.overflow cell.chain read.key cell.key_is g.K.Sink.takes g.T.Taker.takes
    g.T.Taker.refuses c.args.self.now.taker.now c.report_row.new.taker c.new-row.result c.args.place.page c.new-row.ensures
    at.page c.args.self.now.encoding coded (Err c.in_err-report_row.field-0.0)
    c.walk_overflow.new.sink c.report_row.new.sink c.walk_overflow.new.sieve c.in_err-report_row.ensures.none c.args.self.now.tree.start at.start
    c.begin_row.new.sieve c.begin_row.ensures.schema (λ l. c.begin_row.ensures.other l ∙ c.requires.none l) before done.1
    c.walk_overflow.ensures.kept c.in_err-report_row.ensures.reported)).handed)

pub returns-clause-log : goal.returns-clause-log
returns-clause-log g c = has_weaker _ _ c.in_ok-walk_overflow.ensures.walks.log (λ log r. r) (λ file h e coded from d at viewed leaf before isat.
    let v = c.args.view.now in
    let read = c.leaf_cell-cell.result in
    let cell = c.leaf_cell-cell.ensures in
    let done = h (ap (λ s. s.page_size) e) e from d at (rowid_here file at viewed c.args.place.item ∙ sym cell.key_is)
    (past_cell from.visits d c.args.place.item read.overflow before) isat in
    let late = ap (λ top. late_reported top c.args.place.page c.args.place.item read.key) isat.1
    ∙ ap (λ p. late_reported from.state.greatest p c.args.place.item read.key) (sym at.page) in
    key_done file from d c.args.self.now.tree.kind v leaf c.args.place.item read.overflow cell.chain read.key cell.key_is g.K.Sink.takes g.T.Taker.takes
    g.T.Taker.refuses (Ok tt) c.walk_overflow.new.marks c.args.self.now.tree c.report_rowid.new.tree
    c.args.self.now.sink.now c.walk_overflow.new.sink c.report_row.new.sink c.args.self.now.taker.now c.report_row.new.taker
    (c.report_rowid.new.sink, c.report_row.new.taker) done.0
    (row_reported file from d c.args.self.now.tree.kind v leaf c.args.place.item read.overflow cell.chain read.key cell.key_is g.K.Sink.takes g.T.Taker.takes
    g.T.Taker.refuses c.args.self.now.taker.now c.report_row.new.taker c.new-row.result c.args.place.page c.new-row.ensures
    at.page c.args.self.now.encoding coded (Ok tt)
    c.walk_overflow.new.sink c.report_row.new.sink c.walk_overflow.new.sieve c.in_ok-report_row.ensures.none c.args.self.now.tree.start at.start
    c.begin_row.new.sieve c.begin_row.ensures.schema (λ l. c.begin_row.ensures.other l ∙ c.requires.none l) before done.1
    c.walk_overflow.ensures.kept c.in_ok-report_row.ensures.reported)
    (found_moves g.K.Sink.takes g.T.Taker.takes g.T.Taker.refuses _ c.report_row.new.sink c.report_rowid.new.sink c.report_row.new.taker
    (subst (λ l. Moves g.K.Sink.takes c.report_row.new.sink l c.report_rowid.new.sink) late c.report_rowid.ensures.reported.items)) (
      c.report_rowid.ensures.greatest ∙ ap (λ p. top_after c.args.self.now.tree.greatest p c.args.place.item read.key) (sym at.page),
      c.report_rowid.ensures.others.2,
    ))

pub returns-in_err-walk_overflow-clause-walked : goal.returns-in_err-walk_overflow-clause-walked
returns-in_err-walk_overflow-clause-walked g c =
    let e = c.in_err-walk_overflow.ensures.walks.beside in
    walked_err (err_is c.from_residual.ensures.1) e.only (refl, refl, refl, refl, refl, refl, refl) refl e.reads e.writes refl (λ l. refl)

-- without a sieve nothing can fail there, and only the tree of the schema has one
row_error : (start : ℕ) {e : RunError} → IsWriteOrMemory e → (1 ≤ start → ◌≡◌ {A = Result (Unit {0}) RunError} (Err e) (Ok tt))
    → IsTreeError start e × (1 ≤ start → ⊥)
row_error start {e} only none = let no : 1 ≤ start → ⊥ = λ l. (let h = none l in cc) in (tree_error start e only no, no)

pub returns-in_err-report_row-clause-walked : goal.returns-in_err-report_row-clause-walked
returns-in_err-report_row-clause-walked g c =
    let e = c.in_err-report_row.ensures in
    let no = row_error c.args.self.now.tree.start e.only (λ later. (e.none (gone c.walk_overflow.new.sieve
    (c.walk_overflow.ensures.kept ∙ ap is_some (c.begin_row.ensures.other later ∙ c.requires.none later)))).0) in
    walked_as {R = Unit {0}} (err_is c.from_residual-in_err-report_row.ensures.1) (walked_by (refl, refl, refl, refl, refl, refl, refl) refl
    (unread e.only c.in_ok-walk_overflow.ensures.walks.beside.reads)
    (walks_after e.writes c.in_ok-walk_overflow.ensures.walks.beside.writes.moves) e.refusals no.0 (λ l. absurd (no.1 l)))

pub returns-clause-empty : goal.returns-clause-empty
returns-clause-empty g c = λ later. gone c.walk_overflow.new.sieve
    (c.walk_overflow.ensures.kept ∙ ap is_some (c.begin_row.ensures.other later ∙ c.requires.none later))

pub returns-clause-walked : goal.returns-clause-walked
returns-clause-walked g c =
    let e = c.in_ok-report_row.ensures in
    walked_by (refl, refl, refl, refl, refl, c.report_rowid.ensures.others.0, c.report_rowid.ensures.others.1)
    refl c.in_ok-walk_overflow.ensures.walks.beside.reads
    (walks_ok (moves_then (moves_then c.in_ok-walk_overflow.ensures.walks.beside.writes.moves e.writes.moves) c.report_rowid.ensures.reported.count))
    e.refusals tt (λ later. (e.none (gone c.walk_overflow.new.sieve
    (c.walk_overflow.ensures.kept ∙ ap is_some (c.begin_row.ensures.other later ∙ c.requires.none later)))).2)

pub walk_overflow-requires : goal.walk_overflow-requires
walk_overflow-requires g c = record { cell = (c.requires.cell.0, c.leaf_cell-cell.ensures.most); shape = c.requires.shape }
