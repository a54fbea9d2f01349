use Rattle.std.proofs.Common.{◌≡◌, ◌-◌, ◌≤◌, false, length, Some, None, Ok}
use Rattle.dbwalk.proofs.Common.{then_step, overflow_step, count, is_interior, Reference, tree_view, Walk, AreBefore, IsAt, SaysOfFiles, Walked, IsVisitAt}
use Rattle.dbwalk.proofs.Common.{fails, watches}
use Rattle.dbwalk.specs.Points.{IsSameButGreatest}
use Rattle.dbwalk.specs.Walked.{Does}
use Rattle.dbwalk.proofs.Underway.LeafLoop.{cells_done}
use Rattle.dbwalk.proofs.tree_walk.TreeWalk.walk_leaf.Given as goal

abbrev pub invariant-loop-i : goal.invariant-loop-i
invariant-loop-i g l = record {
  walked : Walked {R = Unit {0}} g.S.Source.held g.K.Sink.held g.T.Taker.refusals (Ok tt) l.shape l.shape l.fn.self l.self;
  buffer : length l.buffer ≡ l.shape.page_size;
  tree : IsSameButGreatest l.fn.self.tree l.self.tree;
  empty : 1 ≤ l.fn.self.tree.start → l.sieve ≡ None;
  within : l.i ≤ count l.view;
  log : SaysOfFiles g.S.Source.step g.S.Source.held l.shape l.fn.self l.self (λ file. (from : Walk) (c : Reference)
      → IsVisitAt l.fn.self.tree.kind l.fn.self.tree.start l.fn.self.tree.path.items c l.page → tree_view file c ≡ Some l.view
      → is_interior l.view.kind ≡ false → AreBefore from.visits (then_step c.address 0) → IsAt file from l.fn.self.marks.now l.fn.self.tree
      → Does {R = Unit {0}} (watches g.K.Sink.takes g.T.Taker.takes) (fails g.T.Taker.refuses) file
      (cells_done file from c l.fn.self.tree.kind l.view l.i) (Ok tt) l.fn.self l.self
      × AreBefore (cells_done file from c l.fn.self.tree.kind l.view l.i).visits (then_step c.address (overflow_step l.i)));
}

abbrev pub decreases-loop-i : goal.decreases-loop-i
decreases-loop-i g l = l.cells - l.i
