use Rattle.std.proofs.Common.{◌≡◌, ◌+◌, ◌<◌, ◌≤◌, inl, Some, None, refl, sym, ap, subst, ◌∙◌, arith}
use Rattle.dbwalk.proofs.Common.{count, fails, has_weaker, log_none, log_then}
use Rattle.dbwalk.proofs.Leaves.LeafCells.{none_seen, same_view}
use Rattle.dbwalk.proofs.Leaves.LeafErrands.{view_here, leaf_errands_are}
use Rattle.dbwalk.proofs.Pages.Levels.{usable_page}
use Rattle.dbwalk.proofs.Underway.Handing.{stopped_as}
use Rattle.dbwalk.proofs.Underway.LeafLoop.{cells_done, leaf_as, on_start, on_more, on_stop, on_pass, on_end}
use Rattle.dbwalk.proofs.Underway.CellSteps.{other_start}
use Rattle.dbwalk.proofs.Underway.Walks.{walked_as, walked_behind, walked_by, walked_tree}
use Rattle.dbwalk.proofs.Reporting.Sinks.{err_is, walks_ok}
use Rattle.dbwalk.proofs.tree_walk.TreeWalk.walk_leaf.Goals as goal

pub undamaged-requires : goal.undamaged-requires
undamaged-requires g c = usable_page refl c.requires.shape.0 c.requires.shape.1

-- no undamaged page
pub returns-in_default-clause-walked : goal.returns-in_default-clause-walked
returns-in_default-clause-walked g c = walked_by (refl, refl, refl, refl, refl, refl, refl) refl refl (walks_ok (inl refl)) refl tt (λ l. refl)

pub returns-in_default-clause-log : goal.returns-in_default-clause-log
returns-in_default-clause-log g c = log_none _ _ _ _ refl (λ file e coded from d v at are viewed.
    none_seen v (view_here file at viewed None (ap (λ s. s.usable) e) are c.in_default.ensures.view))

pub loop-i-init : goal.loop-i-init
loop-i-init g c =
    let p = c.pass_cells-i.ensures in
    record {
      walked = walked_by (refl, refl, refl, refl, refl, p.others.0, p.others.1) refl refl (walks_ok (inl refl)) refl tt (λ l. refl);
      buffer = c.requires.shape.2;
      tree = p.others;
      empty = λ later. refl;
      within = p.within.1;
      log = log_none _ _ _ _ refl (λ file e coded from d at viewed leaf before isat.
          let t = c.args.self.now.tree in
          let rise = rw (sym at.page) at p.rising in
          let on = on_pass file from d t.kind c.in-Ok.view leaf g.K.Sink.takes g.T.Taker.takes (fails g.T.Taker.refuses)
          (c.args.self.now.sink.now, c.args.self.now.taker.now) 0 c.pass_cells-i.result c.args.self.now.marks.now t c.pass_cells-i.new.tree
          (c.args.self.now.sink.now, c.args.self.now.taker.now) p.within.0 p.within.1 (λ l. other_start d.address t.start at.start (p.other l)) rise
          p.others.2
          (on_start file from d t.kind c.in-Ok.view leaf g.K.Sink.takes g.T.Taker.takes (fails g.T.Taker.refuses)
          (c.args.self.now.sink.now, c.args.self.now.taker.now) (c.args.self.now.marks.now, t) isat before) in
          (on.0, on.1));
    }

pub loop-i-preserved : goal.loop-i-preserved
loop-i-preserved g c =
    let w = c.loop-i.invariant in
    let n = c.in_ok-walk_leaf_cell.ensures in
    let p = c.pass_cells-i-in-loop-i.ensures in
    let v = c.in-Ok.view in
    let low : c.loop-i.i < count v = omega arith in
    record {
      walked = walked_tree p.others.0 p.others.1 (walked_behind n.walked w.walked);
      buffer = c.walk_leaf_cell.auto.buffer ∙ w.buffer;
      tree = (p.others.0 ∙ n.tree.0 ∙ w.tree.0, p.others.1 ∙ n.tree.1 ∙ w.tree.1, p.others.2 ∙ n.tree.2 ∙ w.tree.2, p.others.3 ∙ n.tree.3 ∙ w.tree.3);
      empty = λ later. n.empty (subst (λ k. 1 ≤ k) (sym w.tree.0) later);
      within = p.within.1;
      log = log_then _ _ refl w.log n.log (λ file on done e coded from d at viewed leaf before isat.
          let t = c.args.self.now.tree in
          let s = on e coded from d at viewed leaf before isat in
          let new = c.walk_leaf_cell.new in
          let after = c.pass_cells-i-in-loop-i.new.tree in
          let end = c.pass_cells-i-in-loop-i.result in
          let rise = rw (sym at.page) at p.rising in
          let cell = done e (w.walked.coded ∙ coded) (cells_done file from d t.kind v c.loop-i.i) d
          (leaf_as w.tree.1 w.tree.0 (ap (λ p. p.items) w.tree.3) at) viewed leaf s.1 s.0.at in
          let more = on_pass file from d t.kind v leaf g.K.Sink.takes g.T.Taker.takes (fails g.T.Taker.refuses)
          (c.args.self.now.sink.now, c.args.self.now.taker.now) (c.loop-i.i + 1) end new.self.marks.now new.self.tree after
          (new.self.sink.now, new.self.taker.now) p.within.0 p.within.1
          (λ l. other_start d.address t.start at.start (subst (λ k. 1 ≤ k) (n.tree.0 ∙ w.tree.0) (p.other l))) rise p.others.2
          (on_more file from d t.kind v leaf g.K.Sink.takes g.T.Taker.takes (fails g.T.Taker.refuses)
          (c.args.self.now.sink.now, c.args.self.now.taker.now) c.loop-i.i (c.loop-i.self.marks.now, c.loop-i.self.tree) (new.self.marks.now, new.self.tree)
          (c.loop-i.self.sink.now, c.loop-i.self.taker.now) (new.self.sink.now, new.self.taker.now) low (s.0, s.1, w.within)
          (rw w.tree.1 at cell)) in
          (more.0, more.1));
    }

pub returns-in_err-walk_leaf_cell-clause-log : goal.returns-in_err-walk_leaf_cell-clause-log
returns-in_err-walk_leaf_cell-clause-log g c =
    let w = c.loop-i.invariant in
    let v = c.in-Ok.view in
    let low : c.loop-i.i < count v = omega arith in
    log_then _ _ refl w.log c.in_err-walk_leaf_cell.ensures.log (λ file on done e coded from d u at are viewed leaf before isat.
    let t = c.args.self.now.tree in
    let same = same_view v u (view_here file at viewed (Some v) (ap (λ s. s.usable) e) are c.in-Ok.ensures.view) in
    let seen = rw (sym same) at viewed in
    let leaf = rw (sym same) at leaf in
    let s = on e coded from d at seen leaf before isat in
    let new = c.walk_leaf_cell.new in
    let cell = done e (w.walked.coded ∙ coded) (cells_done file from d t.kind v c.loop-i.i) d
    (leaf_as w.tree.1 w.tree.0 (ap (λ p. p.items) w.tree.3) at) seen leaf s.1 s.0.at in
    rw (leaf_errands_are file d t.kind v at.kind_is seen leaf) (stopped_as (err_is c.from_residual.ensures.1)
    (on_stop file from d t.kind v leaf g.K.Sink.takes g.T.Taker.takes (fails g.T.Taker.refuses)
    (c.args.self.now.sink.now, c.args.self.now.taker.now) c.in_err-walk_leaf_cell.field-0.0 c.loop-i.i (c.loop-i.self.marks.now, c.loop-i.self.tree)
    (new.self.marks.now, new.self.tree) (c.loop-i.self.sink.now, c.loop-i.self.taker.now) (new.self.sink.now, new.self.taker.now) low (s.0, s.1, w.within)
    (rw w.tree.1 at cell)).handed))

pub returns-clause-log : goal.returns-clause-log
returns-clause-log g c =
    let w = c.loop-i.invariant in
    let v = c.in-Ok.view in
    let within = w.within in
    let end : c.loop-i.i ≡ count v = omega arith in
    has_weaker _ _ w.log (λ log r. r) (λ file on e coded from d u at are viewed leaf before isat.
    let t = c.args.self.now.tree in
    let same = same_view v u (view_here file at viewed (Some v) (ap (λ s. s.usable) e) are c.in-Ok.ensures.view) in
    let seen = rw (sym same) at viewed in
    let leaf = rw (sym same) at leaf in
    let s = on e coded from d at seen leaf before isat in
    rw (leaf_errands_are file d t.kind v at.kind_is seen leaf)
    (on_end file from d t.kind v leaf g.K.Sink.takes g.T.Taker.takes (fails g.T.Taker.refuses)
    (c.args.self.now.sink.now, c.args.self.now.taker.now) (c.loop-i.self.marks.now, c.loop-i.self.tree) (c.loop-i.self.sink.now, c.loop-i.self.taker.now)
    c.loop-i.i end (s.0, s.1, within)))

pub walk_leaf_cell-requires : goal.walk_leaf_cell-requires
walk_leaf_cell-requires g c =
    let w = c.loop-i.invariant in
    let low : c.loop-i.i < count c.in-Ok.view = omega arith in
    record { cell = (c.requires.page, low); shape = (c.requires.shape.0, w.buffer); none = λ later. w.empty (subst (λ k. 1 ≤ k) w.tree.0 later) }

pub returns-in_err-walk_leaf_cell-clause-walked : goal.returns-in_err-walk_leaf_cell-clause-walked
returns-in_err-walk_leaf_cell-clause-walked g c =
    walked_as {R = Unit {0}} (err_is c.from_residual.ensures.1) (walked_behind c.in_err-walk_leaf_cell.ensures.walked c.loop-i.invariant.walked)

pub returns-in_err-walk_leaf_cell-clause-tree : goal.returns-in_err-walk_leaf_cell-clause-tree
returns-in_err-walk_leaf_cell-clause-tree g c =
    let n = c.in_err-walk_leaf_cell.ensures.tree in
    let w = c.loop-i.invariant.tree in
    (n.0 ∙ w.0, n.1 ∙ w.1, n.2 ∙ w.2, n.3 ∙ w.3)

pub returns-clause-walked : goal.returns-clause-walked
returns-clause-walked g c = c.loop-i.invariant.walked

pub returns-clause-tree : goal.returns-clause-tree
returns-clause-tree g c = c.loop-i.invariant.tree
