use Rattle.std.proofs.Common.{◌≡◌, [], ◌∷◌, length, Ok, is_some}
use Rattle.dbwalk.proofs.Common.{Go, Reference, Walk, IsChainOf, IsPlace, IsNext, WalksBeside, IsAt, done_below, Tree}
use Rattle.dbwalk.specs.Chains.{IsOnWay}
use Rattle.dbwalk.proofs.chain.walk_chain.Given as goal

abbrev pub decreases-loop-next : goal.decreases-loop-next
decreases-loop-next g l = l.place.left

abbrev pub invariant-loop-next : goal.invariant-loop-next
invariant-loop-next g l = record {
  walks : WalksBeside {A = Unit {0}} g.S.Source.step (Ok tt) (g.S.Source.held l.initial.source) (g.S.Source.held l.source) (g.K.Sink.held l.initial.sink)
      (g.K.Sink.held l.sink) (length l.initial.buffer) l.initial.marks l.marks (λ file. (from : Walk) (c : Reference) (tree : Tree)
      → IsChainOf file l.chain c → IsNext from.visits c → IsAt file from l.initial.marks tree
      → IsOnWay g.K.Sink.takes file from.visits (done_below file from (Go c ∷ [])) l.initial.sink l.chain l.place (l.marks, tree) l.sink l.initial.sieve
      l.sieve l.buffer);
  size : length l.buffer ≡ length l.initial.buffer;
  kept : is_some l.sieve ≡ is_some l.initial.sieve;
  place : IsPlace l.place;
}
