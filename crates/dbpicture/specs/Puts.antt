-- Puts that leave bytes waiting.
use Rattle.std.specs.Prelude.{◌≡◌, ℕ, List, ◌++◌, Option, Result, MatchResult}
use Rattle.std.specs.Io.KnownBytes.{Appends}
use Rattle.dbsource.specs.Failures.{failures_after, is_any}
use Rattle.dbsource.specs.Outs.{Begins, OutState}

-- of some bytes the first were appended, and the others wait
pub record LeavesWaiting (old new : Option (List ℕ)) (bytes waiting : List ℕ) : Type 0 where
  pub done : List ℕ
  pub whole : done ++ waiting ≡ bytes
  pub added : Appends old new done

-- Bytes came after those that waited: at Ok all of them were appended or wait, and at Err a beginning of them was appended; and just
-- at Err a failure is counted, once.
pub record Takes {A E : Type 0} (r : Result A E) (old new : OutState) (before after bytes : List ℕ) : Type 0 where
  pub held : MatchResult r (λ _. LeavesWaiting old.bytes new.bytes (before ++ bytes) after) (λ _. Begins old.bytes new.bytes (before ++ bytes))
  pub count : new.failures ≡ failures_after is_any r old.failures
