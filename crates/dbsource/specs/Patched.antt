-- A source that gives the bytes of another one, with changes.
use Rattle.std.specs.Prelude.{◌≡◌, ℕ, List, ◌∷◌, Option, IfSome, option_map}
use Rattle.dbsource.specs.Answers.{Answer, FitsAnswer, Lengths, Step, Trail, changed_by, failed, given}
use Rattle.dbsource.specs.Changes.{Change, changed_from, patched}
use Rattle.dbsource.specs.Sources.{SourceState}

-- a source, and the changes that are put over what it gives
pub record Over (S : Type 0) : Type 0 where
  pub changes : List Change
  pub source : S

-- an answer with changes
abbrev pub changed_answer : List Change → Answer → Answer
changed_answer changes (given offset bytes) = given offset (changed_from changes offset bytes)
changed_answer changes (failed r) = failed r

-- its trail is that of the inner source, with the changes before it
abbrev pub changed_trail : List Change → Option (List ℕ) → Trail → Trail
changed_trail changes told trail = record { fronts = changed_by changes told ∷ trail.fronts; ranges = trail.ranges }

-- it tells the bytes of the inner source, with the changes
abbrev pub changed : List Change → SourceState → SourceState
changed changes s = record { bytes = option_map (patched changes) s.bytes; trail = changed_trail changes s.bytes s.trail; failures = s.failures }

-- A step of it: one of the inner source, whose answer it gives with the changes. Told bytes agree with that answer.
pub record ChangedStep (step : Step) (old : Trail) (a : Answer) (new : Trail) : Type 0 where
  pub changes : List Change
  pub told : Option (List ℕ)
  pub before : Trail
  pub after : Trail
  pub raw : Answer
  pub was : old ≡ changed_trail changes told before
  pub is : new ≡ changed_trail changes told after
  pub given_as : a ≡ changed_answer changes raw
  pub moved : step before raw after
  pub fits : IfSome told (λ file. FitsAnswer file raw)

-- a length of it: one of the inner source
pub record ChangedLength (lengths : Lengths) (trail : Trail) (n : ℕ) : Type 0 where
  pub changes : List Change
  pub told : Option (List ℕ)
  pub before : Trail
  pub was : trail ≡ changed_trail changes told before
  pub length : lengths before n
