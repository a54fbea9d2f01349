-- A source that gives the bytes of a header that was read for the first bytes of the file.
use Rattle.std.specs.Prelude.{◌≡◌, ℕ, List, ◌∷◌, ◌++◌, length, take, drop, Option, Some, None, if◌then◌else◌, ◌==◌}
use Rattle.std.specs.Str.{bytes_eq}
use Rattle.dbsource.specs.Answers.{Answer, Lengths, Step, Trail, failed, given, headed_by}
use Rattle.dbsource.specs.Sources.{SourceState}

-- bytes that were read at an offset, with the header put over those of the file's beginning
abbrev pub over : List ℕ → ℕ → List ℕ → List ℕ
over head offset bytes = if offset == 0 then take (length bytes) head ++ drop 100 bytes else bytes

-- so an answer
abbrev pub over_answer : List ℕ → Answer → Answer
over_answer head (given offset bytes) = given offset (over head offset bytes)
over_answer head (failed r) = failed r

-- told bytes, where they begin with the header
abbrev pub begun : List ℕ → Option (List ℕ) → Option (List ℕ)
begun head None = None
begun head (Some file) = if bytes_eq (take 100 file) head then Some file else None

-- its trail is that of the inner source, with the header before it
abbrev pub headed_trail : ℕ → List ℕ → Option (List ℕ) → Trail → Trail
headed_trail name head told trail = record { fronts = headed_by name head told ∷ trail.fronts; ranges = trail.ranges }

abbrev pub headed : ℕ → List ℕ → SourceState → SourceState
headed name head s = record { bytes = begun head s.bytes; trail = headed_trail name head s.bytes s.trail; failures = s.failures }

-- A step of it: one of the inner source, whose answer it gives with the header over it.
pub record HeadedStep (step : Step) (old : Trail) (a : Answer) (new : Trail) : Type 0 where
  pub name : ℕ
  pub head : List ℕ
  pub told : Option (List ℕ)
  pub before : Trail
  pub after : Trail
  pub raw : Answer
  pub was : old ≡ headed_trail name head told before
  pub is : new ≡ headed_trail name head told after
  pub given_as : a ≡ over_answer head raw
  pub moved : step before raw after

-- a length of it: one of the inner source
pub record HeadedLength (lengths : Lengths) (trail : Trail) (n : ℕ) : Type 0 where
  pub name : ℕ
  pub head : List ℕ
  pub told : Option (List ℕ)
  pub before : Trail
  pub was : trail ≡ headed_trail name head told before
  pub length : lengths before n
