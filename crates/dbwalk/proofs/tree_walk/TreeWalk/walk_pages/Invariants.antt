use Rattle.std.proofs.Common.{◌≡◌, ◌≤◌, Ok, ◌++◌, [], ◌∷◌, List, length}
use Rattle.dbwalk.proofs.Common.{SaysOfFiles, Walked, IsWalkingOn, watches, AreOpen, path_of, cost, StackFrame}
use Rattle.dbwalk.specs.Points.{AtRoot}
use Rattle.dbwalk.proofs.tree_walk.TreeWalk.walk_pages.Given as goal

abbrev pub invariant-loop-frame : goal.invariant-loop-frame
invariant-loop-frame g l = record {
  walked : Walked {R = Unit {0}} g.S.Source.held g.K.Sink.held g.T.Taker.refusals (Ok tt) l.fn.bench.geometry l.bench.geometry l.fn.self l.self;
  few : length l.frames.items ≤ 20;
  opened : AreOpen l.bench.geometry.usable l.self.tree.kind l.bench.levels 0 l.frames.items;
  path : (fs : List StackFrame) (f : StackFrame) → l.frames.items ≡ fs ++ (f ∷ []) → l.self.tree.path.items ≡ path_of fs;
  log : SaysOfFiles g.S.Source.step g.S.Source.held l.fn.bench.geometry l.fn.self l.self (λ file. AtRoot file l.fn.bench.levels l.page l.fn.self (λ W c.
      IsWalkingOn (watches g.K.Sink.takes g.T.Taker.takes) file W c (l.fn.self.sink.now, l.fn.self.taker.now) (l.frames.items, l.bench.levels)
      (l.self.marks.now, l.self.tree) (l.self.sink.now, l.self.taker.now)));
}

abbrev pub decreases-loop-frame : goal.decreases-loop-frame
decreases-loop-frame g l = cost l.self.marks.now l.frames.items
