use Rattle.std.proofs.Common.{rules, ◌≡◌, ◌<◌, ◌≤◌, [], Ok, Err, inl, inr, refl, sym, ap, subst, arith, ◌∙◌, List, IfErr}
use Rattle.dbwalk.proofs.Common.{geometry, page_bytes, IsPageNumber, encoding, Reference, bytes_at, is_read_failed, is_write_failed, failures_after}
use Rattle.dbwalk.proofs.Common.{HasPageAt, SinkAfter, IsTreeDone, Mark, no_rowids}
use Rattle.dbwalk.proofs.Common.{Reads, log_none, log_then, has_weaker}
use Rattle.dbsource.specs.Sources.{Asks}
use Rattle.dbwalk.specs.Roots.{IsRootAfter, kind_of, kind_in}
use Rattle.dbwalk.proofs.Pages.PageVisits.{kind_is}
use Rattle.dbwalk.proofs.Chaining.Overflows.{page_read}
use Rattle.dbwalk.proofs.Pages.Levels.{geometry_kept, log_entered, read_there}
use Rattle.dbwalk.proofs.Trees.Bounds.{root_address}
use Rattle.dbwalk.proofs.Underway.WalkedTrees.{candidate_as, root_next, tree_done, tree_refused, tree_unasked, tree_unread}
use Rattle.dbwalk.proofs.Underway.Walks.{with_memory, without_memory}
use Rattle.dbwalk.proofs.Reporting.Sinks.{err_is, asked_both, asked_open, asked_walks, moves_open, walks_after, walks_as, walks_end}
use Rattle.dbtrace.specs.declared.Cause.TheVariants as cause
use Rattle.dbwalk.proofs.tree.walk_tree.Goals as goal

pub returns-in_err-enter-clause-asks : goal.returns-in_err-enter-clause-asks
returns-in_err-enter-clause-asks g c =
    let failed = (err_is c.from_residual.ensures.1) ∙ ap Err c.in_err-enter.ensures.after_error.0 in
    record {
      log = log_none c.args.bench.now.geometry.page_size c.args.marks.now c.enter.new.marks (g.S.Source.held c.args.source.now)
          c.in_err-enter.ensures.after_error.1 (λ file e coded W d at.
          let root = c.args.root in
          let is = c.tree_step-step.ensures.step (kind_in file root) root.start [] d refl at.candidate in
          let next = root_next file (kind_in file root) root.start root.page 0 root.start W d at.candidate at.early in
          let one = root_address d.address root.start at.candidate.depth at.candidate.start in
          let n = c.in_err-enter.ensures.entered file W d (cause.Rows no_rowids) is next at.marked (λ made p. sym p) in
          rw (failed, ← n.1) (tree_unasked g.K.Sink.takes g.T.Taker.takes g.T.Taker.refuses file root.start W d one at.early c.enter.new.marks
          c.args.sink.now c.args.taker.now));
      count = rw failed refl;
    }

pub returns-in_err-enter-clause-others : goal.returns-in_err-enter-clause-others
returns-in_err-enter-clause-others g c =
    λ l. (refl, rw (err_is c.from_residual.ensures.1) (inr c.in_err-enter.ensures.after_error.0))

pub returns-then-not-branch-clause-asks : goal.returns-then-not-branch-clause-asks
returns-then-not-branch-clause-asks g c = record {
  log = log_none c.args.bench.now.geometry.page_size c.args.marks.now c.enter.new.marks (g.S.Source.held c.args.source.now)
      (c.in_ok-enter.ensures.unmarked c.if-not-branch.true) (λ file e coded W d at.
      let root = c.args.root in
      let is = c.tree_step-step.ensures.step (kind_in file root) root.start [] d refl at.candidate in
      let next = root_next file (kind_in file root) root.start root.page 0 root.start W d at.candidate at.early in
      let one = root_address d.address root.start at.candidate.depth at.candidate.start in
      let none = rw c.if-not-branch.true at (c.in_ok-enter.ensures.entered file W d (cause.Rows no_rowids) is next at.marked (λ made p. sym p)) in
      tree_refused g.K.Sink.takes g.T.Taker.takes g.T.Taker.refuses file root.start W d one at.early
      (kind_is file (kind_in file root) root.start [] root.page 0 root.start d at.candidate) (g.K.Sink.held c.enter.new.sink).is_shut c.ask.ensures
      c.enter.new.marks c.args.sink.now c.enter.new.sink c.args.taker.now none.0 none.1 none.2);
  count = asked_both (λ r. (g.S.Source.held c.args.source.now).failures ≡ failures_after is_read_failed r (g.S.Source.held c.args.source.now).failures)
      (g.K.Sink.held c.enter.new.sink).is_shut c.ask.ensures refl refl;
}

pub returns-in_err-load-clause-asks : goal.returns-in_err-load-clause-asks
returns-in_err-load-clause-asks g c =
    let q = err_is c.from_residual-in_err-load.ensures.1 in
    let read = c.in_err-load.ensures.level in
    record {
      log = has_weaker _ _ (log_entered (Err c.in_err-load.field-0.0) read.bytes c.tree_step-step.ensures.page (c.in_ok-enter.ensures.marked (search rules))
          c.tree_step-step.ensures.used c.load.ensures.told read.size read.holds) (λ log r. r) (λ file h e coded W d at.
          let root = c.args.root in
          let is = c.tree_step-step.ensures.step (kind_in file root) root.start [] d refl at.candidate in
          let next = root_next file (kind_in file root) root.start root.page 0 root.start W d at.candidate at.early in
          let one = root_address d.address root.start at.candidate.depth at.candidate.start in
          let n = rw c.if-not-branch.false at (c.in_ok-enter.ensures.entered file W d (cause.Rows no_rowids) is next at.marked (λ made p. sym p)) in
          rw (q, ← n.2) (tree_unread g.K.Sink.takes g.T.Taker.takes g.T.Taker.refuses file root.start W d one at.early c.enter.new.marks
          c.args.sink.now c.args.taker.now));
      count = rw q c.in_err-load.ensures.count;
    }

pub returns-in_err-load-clause-others : goal.returns-in_err-load-clause-others
returns-in_err-load-clause-others g c =
    λ l. (refl, rw (err_is c.from_residual-in_err-load.ensures.1) (inl refl))

pub returns-clause-asks : goal.returns-clause-asks
returns-clause-asks g c =
    let size = c.args.bench.now.geometry.page_size in
    let low : 0 < 20 = omega arith in
    let read = c.in_ok-load.ensures.level in
    let shape = geometry_kept read low in
    let says : List Mark → g.row.K.Denot → g.row.T.Denot → g.row.S.Denot → Type 0 =
    λ m k t s. Asks g.S.Source.step (Reads size c.args.marks.now m)
    (λ file. c.args.bench.now.geometry ≡ geometry file → c.args.root.encoding ≡ encoding file
    → (W : List Reference) (d : Reference) → IsRootAfter file c.args.root W d c.args.marks.now
    → IsTreeDone g.K.Sink.takes g.T.Taker.takes g.T.Taker.refuses file W d c.walk_pages.result m (c.args.sink.now, c.args.taker.now) (k, t))
    is_read_failed c.walk_pages.result (g.S.Source.held c.args.source.now) (g.S.Source.held s) in
    let n = c.walk_pages.new.self in
    let marks : c.marks-1.given.0 ≡ n.marks.now = search rules in
    let sink : c.sink-1.given.0 ≡ n.sink.now = search rules in
    let taker : c.taker-1.given.0 ≡ n.taker.now = search rules in
    let source : c.source-1.given.0 ≡ n.source.now = search rules in
    subst (λ m. says m c.sink-1.given.0 c.taker-1.given.0 c.source-1.given.0) (sym marks)
    (subst (λ k. says n.marks.now k c.taker-1.given.0 c.source-1.given.0) (sym sink) (subst (λ t. says n.marks.now n.sink.now t c.source-1.given.0) (sym taker)
    (subst (λ s. says n.marks.now n.sink.now n.taker.now s) (sym source) (record {
      log = log_then _ _ (ap (λ s. s.page_size) shape) (log_entered (Ok tt) read.bytes c.tree_step-step.ensures.page
          (c.in_ok-enter.ensures.marked (search rules)) c.tree_step-step.ensures.used c.load.ensures.told read.size read.holds) c.walk_pages.ensures.log
          (λ file h done e coded W d at.
          let root = c.args.root in
          let is = c.tree_step-step.ensures.step (kind_in file root) root.start [] d refl at.candidate in
          let next = root_next file (kind_in file root) root.start root.page 0 root.start W d at.candidate at.early in
          let one = root_address d.address root.start at.candidate.depth at.candidate.start in
          let t = c.new-tree.result in
          let same = page_read file read.bytes size root.page read.size h (sym (ap (λ s. s.page_size) e)) in
          let there : HasPageAt c.load.new.self.levels 0 (page_bytes file root.page) =
          read_there read low (page_bytes file root.page) same in
          let kinds = c.new-tree.ensures.names.1 ∙ c.root_kind.ensures.kind
          ∙ ap (kind_of root.kind root.page) (there (bytes_at c.load.new.self 0) c.root_kind.ensures.there) in
          let starts = c.new-tree.ensures.names.0 in
          let n = rw c.if-not-branch.false at (c.in_ok-enter.ensures.entered file W d (cause.Rows no_rowids) is next at.marked (λ made p. sym p)) in
          rw n.2 (tree_done g.K.Sink.takes g.T.Taker.takes g.T.Taker.refuses file root.start W d one at.early c.walk_pages.result
          c.walk_pages.new.self.marks.now c.walk_pages.new.self.tree (c.enter.new.sink, c.args.taker.now)
          (c.walk_pages.new.self.sink.now, c.walk_pages.new.self.taker.now)
          (done (shape ∙ e) coded W d (candidate_as kinds starts refl refl starts at.candidate) there n.0 next n.1)));
      count = c.walk_pages.ensures.walked.reads ∙ ap (failures_after is_read_failed c.walk_pages.result) c.in_ok-load.ensures.count;
    }))))

pub returns-clause-shape : goal.returns-clause-shape
returns-clause-shape g c =
    let low : 0 < 20 = omega arith in
    let read = c.in_ok-load.ensures.level in
    c.walk_pages.ensures.walked.shape ∙ geometry_kept read low

pub returns-clause-only : goal.returns-clause-only
returns-clause-only g c = with_memory c.new-tree.result.start c.walk_pages.result c.walk_pages.ensures.walked.only

pub returns-clause-others : goal.returns-clause-others
returns-clause-others g c = λ l.
    let m = subst (λ k. 1 ≤ k) (sym c.new-tree.ensures.names.0) l in
    let same : c.taker-1.given.0 ≡ c.walk_pages.new.self.taker.now = search rules in
    (same ∙ c.walk_pages.ensures.walked.others m, without_memory c.new-tree.result.start c.walk_pages.result m c.walk_pages.ensures.walked.only)

pub load-requires : goal.load-requires
load-requires g c = (search rules, (omega arith, subst (λ p. 1 ≤ p) c.tree_step-step.ensures.page (c.in_ok-enter.ensures.page (search rules)).0))

pub walk_pages-requires : goal.walk_pages-requires
walk_pages-requires g c =
    let n = c.new-tree.ensures.nothing in
    (search rules, (subst IsPageNumber c.tree_step-step.ensures.page (c.in_ok-enter.ensures.page (search rules)).1, n.0, n.1, n.2))

pub returns-clause-writes : goal.returns-clause-writes
returns-clause-writes g c =
    let same : c.sink-1.given.0 ≡ c.walk_pages.new.self.sink.now = search rules in
    subst (λ s. SinkAfter is_write_failed c.walk_pages.result (g.K.Sink.held c.args.sink.now) (g.K.Sink.held s)) (sym same)
    (walks_end c.walk_pages.result (walks_after c.walk_pages.ensures.walked.writes c.in_ok-enter.ensures.writes.moves) c.requires.«open»
    c.walk_pages.ensures.«open»)

pub returns-in_err-enter-clause-writes : goal.returns-in_err-enter-clause-writes
returns-in_err-enter-clause-writes g c =
    let q = err_is c.from_residual.ensures.1 in
    walks_end c.from_residual.result (walks_as q c.in_err-enter.ensures.writes) c.requires.«open»
    (rw q tt)

pub returns-in_err-load-clause-writes : goal.returns-in_err-load-clause-writes
returns-in_err-load-clause-writes g c =
    rw (err_is c.from_residual-in_err-load.ensures.1) (moves_open c.in_ok-enter.ensures.writes.moves (c.in_ok-enter.ensures.«open» (search rules)))

pub returns-then-not-branch-clause-writes : goal.returns-then-not-branch-clause-writes
returns-then-not-branch-clause-writes g c = walks_end c.ask.result (asked_walks c.ask.ensures c.in_ok-enter.ensures.writes.moves) c.requires.«open»
    (asked_open _ c.ask.ensures)

pub returns-clause-shut : goal.returns-clause-shut
returns-clause-shut g c =
    let same : c.sink-1.given.0 ≡ c.walk_pages.new.self.sink.now = search rules in
    subst (λ s. IfErr c.walk_pages.result (λ e. (g.K.Sink.held s).is_shut ≡ is_write_failed e)) (sym same) c.walk_pages.ensures.walked.writes.shut

pub returns-in_err-enter-clause-shut : goal.returns-in_err-enter-clause-shut
returns-in_err-enter-clause-shut g c =
    (walks_as (err_is c.from_residual.ensures.1) c.in_err-enter.ensures.writes).shut

pub returns-in_err-load-clause-shut : goal.returns-in_err-load-clause-shut
returns-in_err-load-clause-shut g c =
    rw (err_is c.from_residual-in_err-load.ensures.1) (c.in_ok-enter.ensures.«open» (search rules))

pub returns-then-not-branch-clause-shut : goal.returns-then-not-branch-clause-shut
returns-then-not-branch-clause-shut g c = (asked_walks c.ask.ensures c.in_ok-enter.ensures.writes.moves).shut

pub returns-clause-refusals : goal.returns-clause-refusals
returns-clause-refusals g c =
    let same : c.taker-1.given.0 ≡ c.walk_pages.new.self.taker.now = search rules in
    ap g.T.Taker.refusals same ∙ c.walk_pages.ensures.walked.refused
