use Rattle.std.proofs.Common.{◌≡◌, ◌-◌, ℕ, List, ◌++◌}
use Rattle.dbwalk.proofs.Common.{Errand, leaf_errands, Way, Reference, Event, Walk, leaves_from, IsUnderway, fed, SinkMoves, KeepsMarks, Tree}
use Rattle.dbwalk.proofs.freelist.walk_leaves.Given as goal

abbrev pub invariant-loop-index : goal.invariant-loop-index
invariant-loop-index g l = record {
  keeps : KeepsMarks l.initial.marks l.marks;
  writes : SinkMoves (g.K.Sink.held l.initial.sink) (g.K.Sink.held l.sink);
  left : (file : List ℕ) (whole : Walk) (before : g.row.K.Denot) (now : Walk) (d : Reference) (tail : List (Errand Way Event)) (tree : Tree)
      → d.page ≡ l.page
      → IsUnderway (fed g.K.Sink.takes) file whole before now (leaf_errands d l.bytes l.count ++ tail) (l.initial.marks, tree) l.initial.sink
      → (m : Walk) × IsUnderway (fed g.K.Sink.takes) file whole before m (leaves_from d l.bytes l.index (l.count - l.index) ++ tail) (l.marks, tree) l.sink;
}
