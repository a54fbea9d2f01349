-- What a source gives, and what it keeps of what it was asked for.
use Rattle.std.specs.Prelude.{◌≡◌, ℕ, ◌+◌, ◌<◌, ◌≤◌, ◌^◌, Bool, List, [], ◌∷◌, ◌++◌, length, map, slice_index, nat_lt, Option, Some, None, IfSome}
use Rattle.std.specs.Prelude.{Result, if◌then◌else◌}
use Rattle.dbformat.specs.declared.ByteRange.{ByteRange}
use Rattle.dbsource.specs.Answers.{Answer, asked, Fits, Leads, Lengths, Step, Trail, no_trail}
use Rattle.dbsource.specs.Failures.{failures_after}

-- a source as contracts see it: its told bytes, or that it has none; what it keeps; and how many calls failed
pub record SourceState : Type 0 where
  pub bytes : Option (List ℕ)
  pub trail : Trail
  pub failures : ℕ

-- a source with these told bytes that was asked for nothing yet
abbrev pub source_of : List ℕ → SourceState
source_of bytes = record { bytes = Some bytes; trail = no_trail; failures = 0 }

-- a source without told bytes
abbrev pub untold_source : SourceState
untold_source = record { bytes = None; trail = no_trail; failures = 0 }

-- told bytes are bytes, fewer than 2 ^ 64
abbrev pub AreBytes : List ℕ → Type 0
AreBytes bytes = (length bytes < 2 ^ 64) × ((k : ℕ) → slice_index bytes k < 256)

-- There is a log of which P holds by its ranges: it leads the source's trail from old to new, and told bytes stay and
-- agree with it. Of each file that agrees with it, Q holds.
pub record HasLog (step : Step) (P : List ByteRange → Type 0) (Q : List ℕ → Type 0) (old new : SourceState) : Type 0 where
  pub log : List Answer
  pub leads : Leads step old.trail log new.trail
  pub told : new.bytes ≡ old.bytes
  pub tells : IfSome old.bytes (λ file. Fits file log)
  pub holds : P (map asked log)
  pub files : (file : List ℕ) → Fits file log → Q file

-- What a call makes of a source: of what it was asked for P holds, and of each file that agrees with what it answered Q; and
-- it failed in the call, once, exactly where the call's answer is an error of this kind.
pub record Asks {A E : Type 0} (step : Step) (P : List ByteRange → Type 0) (Q : List ℕ → Type 0) (is_failure : E → Bool)
    (r : Result A E) (old new : SourceState) : Type 0 where
  pub log : HasLog step P Q old new
  pub count : new.failures ≡ failures_after is_failure r old.failures

-- Less than a log: there is one of whose ranges P holds and that leads a trail from old to new. Of what was answered nothing
-- is said.
pub record HasRanges (step : Step) (P : List ByteRange → Type 0) (old new : Trail) : Type 0 where
  pub log : List Answer
  pub leads : Leads step old log new
  pub holds : P (map asked log)

-- a source whose lengths are known by its told bytes alone
abbrev pub any_length : Lengths
any_length trail n = Unit {0}

-- a source that keeps no trail
abbrev pub no_step : Step
no_step old a new = new ≡ old

-- a source that keeps the first 1024 ranges
abbrev pub kept_step : Step
kept_step old a new = new ≡ (if nat_lt (length old.ranges) 1024 then (record old { ranges = old.ranges ++ asked a ∷ [] }) else old)

-- Where there is room for them, the ranges that it kept in a call are the log of the call.
abbrev pub KeepsItsLog : Type 0
KeepsItsLog = (old : Trail) (log : List Answer) (new : Trail) → length old.ranges + length log ≤ 1024 → Leads kept_step old log new
    → new ≡ (record old { ranges = old.ranges ++ map asked log })
