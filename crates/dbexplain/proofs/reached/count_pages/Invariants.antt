use Rattle.std.proofs.Common.{ℕ, List}
use Rattle.dbexplain.proofs.Common.{geometry, Reference, TracedFault, AreOwnersOf, IsTallyOf, IsTallyTo}
use Rattle.dbexplain.proofs.reached.count_pages.Given as goal

abbrev pub invariant-loop-index : goal.invariant-loop-index
invariant-loop-index g l =
    (file : List ℕ) (V : List Reference) (ts : List TracedFault) → AreOwnersOf l.owners file V → IsTallyOf (geometry file).pages ts l.fn.tally
    → IsTallyTo (geometry file).pages V ts l.index l.tally
