-- What a header is of a file, and what it takes to read it.
use Rattle.std.specs.Prelude.{◌≡◌, ◌<◌, ℕ, List, [], ◌∷◌, length, take, nat_le, if◌then◌else◌, Option, None, Some, IfSome, Result, Ok, Err, ◌⊎◌}
use Rattle.dbformat.specs.FixedPages.{geometry_of}
use Rattle.dbformat.specs.File.{refusal, refusal_of, geometry}
use Rattle.dbformat.specs.Log.{header_range}
use Rattle.dbformat.specs.declared.ByteRange.{ByteRange}
use Rattle.dbformat.specs.declared.Geometry.{Geometry}
use Rattle.dbformat.specs.declared.Refusal.{Refusal}
use Rattle.dbformat.specs.declared.Refusal.TheVariants.{Short}
use Rattle.dbsource.specs.Answers.{Fits, Lengths, Step}
use Rattle.dbsource.specs.Errors.{is_open_failed}
use Rattle.dbsource.specs.HeaderBytes.{HeaderBytes}
use Rattle.dbsource.specs.Sources.{Asks, SourceState}
use Rattle.dbsource.specs.declared.error.OpenError.{OpenError}
use Rattle.dbsource.specs.declared.error.OpenError.TheVariants.{Refused, ReadFailed}

-- a shape, of a file that is not refused
abbrev pub shape_unless : Option Refusal → Geometry → Option Geometry
shape_unless None g = Some g
shape_unless (Some refusal) g = None

-- the shape of a file of len bytes that begins with these, if they are a header and the file is not refused
abbrev pub shape_of : List ℕ → ℕ → Option Geometry
shape_of bytes len = if nat_le 100 (length bytes) then shape_unless (refusal_of bytes len) (geometry_of bytes len) else None

-- the header of a file that is read: its first bytes, its length, and so its shape
pub record IsHeaderOf (h : HeaderBytes) (file : List ℕ) : Type 0 where
  pub is_read : refusal file ≡ None
  pub begins : h.bytes ≡ take 100 file
  pub whole : h.file_len ≡ length file
  pub shape : geometry_of h.bytes h.file_len ≡ geometry file

-- a file is refused for this reason, if the error is no failed read
abbrev pub IsRefusalOf : OpenError → List ℕ → Type 0
IsRefusalOf (Refused r) file = refusal file ≡ Some r
IsRefusalOf ReadFailed file = Unit {0}

-- What was asked for: nothing where the answer is that the file is too short, the header once where it is another, and
-- one of both where the source failed.
abbrev pub IsOpenLog : Result HeaderBytes OpenError → List ByteRange → Type 0
IsOpenLog (Err (Refused Short)) log = log ≡ []
IsOpenLog (Err ReadFailed) log = (log ≡ []) ⊎ (log ≡ header_range ∷ [])
IsOpenLog r log = log ≡ header_range ∷ []

-- what is answered of a file: its header, or why it is refused
abbrev pub IsOpenOf : Result HeaderBytes OpenError → List ℕ → Type 0
IsOpenOf (Ok h) file = IsHeaderOf h file
IsOpenOf (Err e) file = IsRefusalOf e file

-- There is a length: one that the source answered, unless it failed at that, and that of the told bytes, where there
-- are any. The result is right for each file of this length that agrees with what was read, and there is such a file.
-- Where the length is too short for a header nothing was read.
pub record Opens (step : Step) (lengths : Lengths) (r : Result HeaderBytes OpenError) (old new : SourceState) : Type 0 where
  pub len : ℕ
  pub same : IfSome old.bytes (λ file. length file ≡ len)
  pub asks : Asks step (IsOpenLog r) (λ file. length file ≡ len → IsOpenOf r file) is_open_failed r old new
  pub there_is : (file : List ℕ) × (length file ≡ len) × Fits file asks.log.log
  pub short : len < 100 → asks.log.log ≡ []
  pub answered : lengths old.trail len ⊎ ((r ≡ Err ReadFailed) × (asks.log.log ≡ []))
