use Rattle.std.proofs.Common.{◌≡◌, List, ℕ, ◌++◌, drop}
use Rattle.dbbytes.specs.Sieve.{row_after}
use Rattle.dbbytes.proofs.sieve.RowSieve.feed.Given as goal

abbrev pub invariant-loop-i : goal.invariant-loop-i
invariant-loop-i l = (more : List ℕ) → row_after l.self (drop l.i l.piece ++ more) ≡ row_after l.initial.self (l.piece ++ more)
