-- A source by a reference to it.
use Rattle.std.specs.Prelude.{◌≡◌, ℕ, [], ◌∷◌, None}
use Rattle.dbsource.specs.Answers.{Answer, Lengths, Step, Trail, headed_by}
use Rattle.dbsource.specs.Sources.{SourceState}

-- its trail is that of the source, with the name of the reference before it: as under a header without bytes
abbrev pub lent_trail : ℕ → Trail → Trail
lent_trail name trail = record { fronts = headed_by name [] None ∷ trail.fronts; ranges = trail.ranges }

abbrev pub lent : ℕ → SourceState → SourceState
lent name s = record { bytes = s.bytes; trail = lent_trail name s.trail; failures = s.failures }

-- A step of it: one of the source, by the same reference.
pub record LentStep (step : Step) (old : Trail) (a : Answer) (new : Trail) : Type 0 where
  pub name : ℕ
  pub before : Trail
  pub after : Trail
  pub was : old ≡ lent_trail name before
  pub is : new ≡ lent_trail name after
  pub moved : step before a after

-- a length of it: one of the source
pub record LentLength (lengths : Lengths) (trail : Trail) (n : ℕ) : Type 0 where
  pub name : ℕ
  pub before : Trail
  pub was : trail ≡ lent_trail name before
  pub length : lengths before n
