-- What a put and a flush make of the bytes that an Out holds, where they are known.
use Rattle.std.specs.Prelude.{◌≡◌, ℕ, List, [], ◌++◌, Option, Some, Result, MatchResult, OnOk}
use Rattle.std.specs.Io.KnownBytes.{Appends, Keeps}
use Rattle.dbsource.specs.Failures.{failures_after, is_any}

-- an Out as contracts see it: the bytes that it holds, where they are known; the last of these that it has not yet
-- handed on; and how many calls failed
pub record OutState : Type 0 where
  pub bytes : Option (List ℕ)
  pub pending : List ℕ
  pub failures : ℕ

-- an Out that hands on each piece at once: what it holds, where it is known, and how many calls failed
pub record Holding : Type 0 where
  pub bytes : Option (List ℕ)
  pub failures : ℕ

-- as an Out: nothing is pending
abbrev pub at_once : Holding → OutState
at_once s = record { bytes = s.bytes; pending = []; failures = s.failures }

-- an Out that holds nothing yet
abbrev pub empty_out : Holding
empty_out = record { bytes = Some []; failures = 0 }

-- the bytes that are known grew by a beginning of these
pub record Begins (old new : Option (List ℕ)) (bytes : List ℕ) : Type 0 where
  pub part : List ℕ
  pub rest : List ℕ
  pub whole : part ++ rest ≡ bytes
  pub added : Appends old new part

-- at Ok these bytes were appended, and at Err a beginning of them
abbrev pub Writes : {A E : Type 0} → Result A E → Option (List ℕ) → Option (List ℕ) → List ℕ → Type 0
Writes r old new bytes = MatchResult r (λ _. Appends old new bytes) (λ _. Begins old new bytes)

-- the same, and just at Err a failure is counted, once
pub record Puts {A E : Type 0} (r : Result A E) (old new : OutState) (bytes : List ℕ) : Type 0 where
  pub held : Writes r old.bytes new.bytes bytes
  pub count : new.failures ≡ failures_after is_any r old.failures

-- the bytes that are known stay, at Ok none is pending, and exactly at Err one failure is counted
pub record Flushes {A E : Type 0} (r : Result A E) (old new : OutState) : Type 0 where
  pub kept : Keeps old.bytes new.bytes
  pub empty : OnOk r (new.pending ≡ [])
  pub count : new.failures ≡ failures_after is_any r old.failures
