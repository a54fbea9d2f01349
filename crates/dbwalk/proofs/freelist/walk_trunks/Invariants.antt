use Rattle.std.proofs.Common.{◌≡◌, [], ◌∷◌, length, Ok}
use Rattle.dbwalk.proofs.Common.{Go, Reference, Walk, Tree, IsNext, WalksBeside, IsAt, done_below, unmarked_pages, IsFirstTrunk, IsOnTrunks, Trunk, usable_size}
use Rattle.dbwalk.proofs.freelist.walk_trunks.Given as goal

abbrev pub decreases-loop-next : goal.decreases-loop-next
decreases-loop-next g l = unmarked_pages l.marks

abbrev pub invariant-loop-next : goal.invariant-loop-next
invariant-loop-next g l = record {
  walks : WalksBeside {A = Unit {0}} g.S.Source.step (Ok tt) (g.S.Source.held l.initial.source) (g.S.Source.held l.source) (g.K.Sink.held l.initial.sink)
      (g.K.Sink.held l.sink) (length l.initial.buffer) l.initial.marks l.marks (λ file. l.usable ≡ usable_size file → (from : Walk) (c : Reference)
      (tree : Tree) → IsFirstTrunk l.first c → IsNext from.visits c → IsAt file from l.initial.marks tree
      → IsOnTrunks g.K.Sink.takes file (done_below file from (Go c ∷ [])) l.initial.sink l.step (l.marks, tree) l.sink);
  trunk : l.step.mark ≡ Trunk;
  size : length l.buffer ≡ length l.initial.buffer;
}
