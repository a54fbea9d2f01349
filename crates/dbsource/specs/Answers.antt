-- What a source answered to the reads of a call, and which files agree with it.
use Rattle.std.specs.Prelude.{◌≡◌, ℕ, ◌+◌, ◌≤◌, List, [], ◌∷◌, length, take, drop, Option, Result, Ok, Err}
use Rattle.dbformat.specs.Log.{range}
use Rattle.dbformat.specs.declared.ByteRange.{ByteRange}
use Rattle.dbsource.specs.Changes.{Change}

-- the bytes of a range that lies in the file
abbrev pub IsRangeOf : List ℕ → ℕ → List ℕ → Type 0
IsRangeOf bytes offset piece = (offset + length piece ≤ length bytes) × (piece ≡ take (length piece) (drop offset bytes))

-- the answer to a read: these bytes, which begin at offset; or nothing, for a range
pub data Answer : Type 0 where
  given : ℕ → List ℕ → Answer
  failed : ByteRange → Answer

-- the range that it asked for
abbrev pub asked : Answer → ByteRange
asked (given offset bytes) = range offset (length bytes)
asked (failed r) = r

-- the answer to a read of as many bytes as there are in buf, which ended so
abbrev pub answer : {A E : Type 0} → Result A E → ℕ → List ℕ → Answer
answer (Ok a) offset buf = given offset buf
answer (Err e) offset buf = failed (range offset (length buf))

-- a file agrees with an answer: where bytes were given, they are the file's
abbrev pub FitsAnswer : List ℕ → Answer → Type 0
FitsAnswer file (given offset bytes) = IsRangeOf file offset bytes
FitsAnswer file (failed r) = Unit {0}

-- and with all of a log
abbrev pub Fits : List ℕ → List Answer → Type 0
Fits file [] = Unit {0}
Fits file (a ∷ log) = FitsAnswer file a × Fits file log

-- What is put over the bytes that a source gives: a header, with the name of the reference to that source; or changes. And the
-- told bytes of the source.
pub data Front : Type 0 where
  headed_by : ℕ → List ℕ → Option (List ℕ) → Front
  changed_by : List Change → Option (List ℕ) → Front

-- what a source keeps: what is put over it, which no read changes, and the requested ranges
pub record Trail : Type 0 where
  pub fronts : List Front
  pub ranges : List ByteRange

-- the trail of a source that was asked for nothing
abbrev pub no_trail : Trail
no_trail = record { fronts = []; ranges = [] }

-- from which trail to which an answer may lead
abbrev pub Step : Type 1
Step = Trail → Answer → Trail → Type 0

-- which lengths a source may answer, by its trail
abbrev pub Lengths : Type 1
Lengths = Trail → ℕ → Type 0

-- The answers of a log, one after another, lead a source's trail from old to new, each by the source's step for it.
abbrev pub Leads : Step → Trail → List Answer → Trail → Type 0
Leads step old [] new = new ≡ old
Leads step old (a ∷ log) new = (mid : Trail) × step old a mid × Leads step mid log new
