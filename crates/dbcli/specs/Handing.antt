-- What handing on leaves of the outcome of a run.
use Rattle.std.specs.Prelude.{◌≡◌, ◌⊎◌, ℕ, ◌-◌, List, [], length, slice_get, Some, Result, Ok, Err}
use Rattle.std.specs.Io.KnownBytes.{Keeps}
use Rattle.dbformat.specs.declared.Verdict.{Verdict}
use Rattle.dbreport.specs.StatReporter.{IsFlushed, failures_of_each}
use Rattle.dbsource.specs.Failures.{HasOneMore}
use Rattle.dbsource.specs.Outs.{Flushes, OutState}
use Rattle.dbsource.specs.declared.error.RunError.{RunError}
use Rattle.dbsource.specs.declared.error.RunError.TheVariants.{Refused, WriteFailed}
use Rattle.dbcli.specs.Exit.{IsHandedOnOrFailed}

-- a piece whose last byte is a line feed
abbrev pub EndsLine : List ℕ → Type 0
EndsLine piece = slice_get piece (length piece - 1) ≡ Some 10

-- a flush of an Out was tried, once: the bytes that are known stay
pub record TriesToFlush (old new : OutState) : Type 0 where
  pub kept : Keeps old.bytes new.bytes
  pub once : IsHandedOnOrFailed 1 old new

-- The first Out was flushed and then the second, and one of the two failed. The bytes that are known stay.
pub record StopsFlushing (out out' err err' : OutState) : Type 0 where
  pub kept : Keeps out.bytes out'.bytes
  pub second_kept : Keeps err.bytes err'.bytes
  pub once : HasOneMore (failures_of_each out err) (failures_of_each out' err')
  pub first : out'.failures ≡ out.failures → out'.pending ≡ []

-- After a verdict both Outs are flushed, and where one fails the outcome is a failed write. After an error a flush of
-- the first is tried, and at a refusal nothing is done.
abbrev pub IsHanded : Result Verdict RunError → Result Verdict RunError → OutState → OutState → OutState → OutState → Type 0
IsHanded (Ok v) (Ok w) out out' err err' = (w ≡ v) × IsFlushed out out' × IsFlushed err err'
IsHanded (Ok v) (Err e) out out' err err' = (e ≡ WriteFailed) × StopsFlushing out out' err err'
IsHanded (Err (Refused e)) r out out' err err' = (r ≡ Err (Refused e)) × (out' ≡ out) × (err' ≡ err)
IsHanded (Err e) r out out' err err' = (r ≡ Err e) × TriesToFlush out out' × (err' ≡ err)

-- The same of a mend, but at a refusal: all of its text was written then, so the first Out was flushed, and where it fails the outcome is a
-- failed write.
abbrev pub IsMendHanded : Result Verdict RunError → Result Verdict RunError → OutState → OutState → OutState → OutState → Type 0
IsMendHanded (Err (Refused e)) (Ok v) out out' err err' = ⊥
IsMendHanded (Err (Refused e)) (Err f) out out' err err' =
    ((f ≡ Refused e) × IsFlushed out out' ⊎ (f ≡ WriteFailed) × Flushes {A = Unit {0}} {E = Unit {0}} (Err tt) out out') × (err' ≡ err)
IsMendHanded answer r out out' err err' = IsHanded answer r out out' err err'
