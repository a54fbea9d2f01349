-- How a log is read: once, in order, from its start.
use Rattle.std.specs.Prelude.{◌≡◌, ◌⊎◌, ℕ, ◌+◌, ◌*◌, ◌≤◌, Bool, true, false, List, []}
use Rattle.std.specs.Prelude.{◌∷◌, length, map, IfSome, Result, Ok, Err, if◌then◌else◌, IfErr, IfOk, OnOk, IsTrue}
use Rattle.std.specs.List.{All, concat}
use Rattle.dbformat.specs.declared.ByteRange.{ByteRange}
use Rattle.dbsource.specs.Answers.{Answer, Fits, IsRangeOf, Leads, Lengths, Step, asked}
use Rattle.dbsource.specs.Failures.{failures_after, one_more}
use Rattle.dbsource.specs.Sources.{SourceState}
use Rattle.dblog.specs.Indexes.{Indexed, Indexes}
use Rattle.dblog.specs.Wal.{header, is_header, known_version, version}
use Rattle.dblog.specs.declared.error.LogError.{LogError}
use Rattle.dblog.specs.declared.error.LogError.TheVariants.{OutOfMemory, ReadFailed, Version}

-- bytes that are these frames, of this size, one after another
pub record AreFrames (size : ℕ) (bytes : List ℕ) (frames : List (List ℕ)) : Type 0 where
  pub whole : concat frames ≡ bytes
  pub sized : All (λ f. length f ≡ size) frames

-- the most bytes that are read at once: 64 KiB, or a frame of a page of 64 KiB
abbrev pub longest_read : ℕ
longest_read = 65560

-- these ranges follow one another, from byte `at` on up to `end`
abbrev pub InOrder : ℕ → ℕ → List ByteRange → Type 0
InOrder at end [] = at ≡ end
InOrder at end (r ∷ rs) = (r.offset ≡ at) × (r.len ≤ longest_read) × InOrder (at + r.len) end rs

-- What was read of a source from byte `from` on: these bytes, and then perhaps a range for which it failed.
pub record Reads (step : Step) (from : ℕ) (failed : Bool) (old new : SourceState) (seen : List ℕ) : Type 0 where
  pub log : List Answer
  pub leads : Leads step old.trail log new.trail
  pub told : new.bytes ≡ old.bytes
  pub tells : IfSome old.bytes (λ file. Fits file log)
  pub end : ℕ
  pub in_order : InOrder from end (map asked log)
  pub ends : failed ≡ false → end ≡ from + length seen
  -- a file agrees with it where it has these bytes there
  pub is : (file : List ℕ) → from ≤ length file → Fits file log → IsRangeOf file from seen
  pub fits : (file : List ℕ) → IsRangeOf file from seen → Fits file log
  pub count : new.failures ≡ (if failed then one_more old.failures else old.failures)

-- whether the source failed
abbrev pub is_failed : LogError → Bool
is_failed ReadFailed = true
is_failed (OutOfMemory refused) = false
is_failed Version = false

abbrev pub has_failed : {X : Type 0} → Result X LogError → Bool
has_failed (Ok x) = false
has_failed (Err e) = is_failed e

-- What a call read of some frames from byte `from` on: frames of this size, at most `count`, and all where it went well.
pub record ReadsFrames {X : Type 0} (step : Step) (size from count : ℕ) (r : Result X LogError) (old new : SourceState) (P : List (List ℕ) → X
    → Type 0) : Type 0 where
  pub frames : List (List ℕ)
  pub sized : All (λ f. length f ≡ size) frames
  pub most : length frames ≤ count
  pub reads : Reads step from (has_failed r) old new (concat frames)
  pub within : reads.end ≤ from + count * size
  pub all : OnOk r (length frames ≡ count)
  -- no version is looked at
  pub unversioned : IfErr r (λ e. ¬ (e ≡ Version))
  pub holds : IfOk r (P frames)

-- what a reader's answer says of a log that it may have read
abbrev pub IsAnswerFor : Result Indexed LogError → List ℕ → Type 0
IsAnswerFor (Ok index) log = Indexes index log × (IsTrue (is_header (header log)) → version (header log) ≡ known_version)
IsAnswerFor (Err Version) log = IsTrue (is_header (header log)) × ¬ (version (header log) ≡ known_version)
IsAnswerFor (Err e) log = Unit {0}

-- What the reading of a log makes of its source. There is a length, which the source answered, unless it failed at that. The answers
-- to the reads lead its trail from old to new. What was asked for is the log, once, in order, from its start. There is a log of this
-- length that agrees with the answers; the result is right for each; and told bytes are one.
pub record ReadsLog (step : Step) (lengths : Lengths) (r : Result Indexed LogError) (old new : SourceState) : Type 0 where
  pub len : ℕ
  pub log : List Answer
  pub leads : Leads step old.trail log new.trail
  pub told : new.bytes ≡ old.bytes
  pub answered : lengths old.trail len ⊎ ((r ≡ Err ReadFailed) × (log ≡ []))
  pub end : ℕ
  pub in_order : InOrder 0 end (map asked log)
  pub within : end ≤ len
  pub there_is : (file : List ℕ) × (length file ≡ len) × Fits file log
  pub files : (file : List ℕ) → length file ≡ len → Fits file log → IsAnswerFor r file
  pub tells : IfSome old.bytes (λ file. (length file ≡ len) × Fits file log)
  pub count : new.failures ≡ failures_after is_failed r old.failures

-- the same of the bytes after the header h, in a log of `len` bytes
pub record ReadsRest (step : Step) (h : List ℕ) (len : ℕ) (r : Result Indexed LogError) (old new : SourceState) : Type 0 where
  pub seen : List ℕ
  pub reads : Reads step 32 (has_failed r) old new seen
  pub within : reads.end ≤ len
  pub short : 32 + length seen ≤ len
  pub files : (file : List ℕ) → length file ≡ len → header file ≡ h → IsRangeOf file 32 seen → IsAnswerFor r file
