-- What a run read of a file: a file that agrees with all of it, put together of the pages as they were when each was read.
use Rattle.std.specs.Prelude.{◌≡◌, ◌<◌, ◌⊎◌, ℕ, List, [], ◌∷◌, length, map, take, Some, IfSome}
use Rattle.dbformat.specs.Log.{IsSomeRunLog}
use Rattle.dbformat.specs.declared.ByteRange.{ByteRange}
use Rattle.dbsource.specs.Answers.{Answer, FitsAnswer, Leads, Lengths, Step, asked}
use Rattle.dbsource.specs.Changes.{Change, patched}
use Rattle.dbsource.specs.Failures.{one_more}
use Rattle.dbsource.specs.Headed.{over_answer}
use Rattle.dbsource.specs.HeaderBytes.{HeaderBytes}
use Rattle.dbsource.specs.Headers.{IsHeaderOf}
use Rattle.dbsource.specs.Patched.{ChangedLength, ChangedStep, changed}
use Rattle.dbsource.specs.Sources.{SourceState}

-- the file agrees with an answer from its byte 100 on: so it does where its own first bytes are put over the answer's
abbrev pub FitsAfterHeader : List ℕ → List Answer → Type 0
FitsAfterHeader file [] = Unit {0}
FitsAfterHeader file (a ∷ log) = FitsAnswer file (over_answer (take 100 file) a) × FitsAfterHeader file log

-- and with all that a run read: with the first answer, which is the header's, as it is, and with each later one after
-- the header
abbrev pub FitsRun : List ℕ → List Answer → Type 0
FitsRun file [] = Unit {0}
FitsRun file (a ∷ log) = FitsAnswer file a × FitsAfterHeader file log

-- There is a length: one that the source answered, unless it failed at that and nothing was read; and that of the told
-- bytes, where there are any. The answers to the reads are a log that leads the source's trail from old to new. There
-- is a file of this length that agrees with the log. Of each such file, and of the requested ranges, Q holds; and told
-- bytes are such a file. Where the length is too short for a header nothing was read.
pub record HasRead (step : Step) (lengths : Lengths) (P : List ByteRange → Type 0) (Q : List ℕ → List ByteRange → Type 0) (old new : SourceState) : Type 0 where
  -- how many bytes the file has
  pub len : ℕ
  -- the answers to the reads, in their order
  pub log : List Answer
  -- they lead the source from the trail that it had to the one that it has
  pub leads : Leads step old.trail log new.trail
  -- its told bytes, if it has any, are as they were
  pub told : new.bytes ≡ old.bytes
  -- the source answered this length; or it failed at that, and nothing was read
  pub answered : lengths old.trail len ⊎ ((log ≡ []) × (new.failures ≡ one_more old.failures))
  -- P holds of the requested ranges
  pub holds : P (map asked log)
  -- there is a file of this length that agrees with all that was read
  pub there_is : (file : List ℕ) × (length file ≡ len) × FitsRun file log
  -- Q holds of each such file and of the ranges
  pub files : (file : List ℕ) → length file ≡ len → FitsRun file log → Q file (map asked log)
  -- told bytes are such a file
  pub tells : IfSome old.bytes (λ file. (length file ≡ len) × FitsRun file log)
  -- a file too short for a header is not read
  pub short : len < 100 → log ≡ []

-- The same after a header that had been read before. There is a file of this header that agrees with the log from its
-- byte 100 on. Of each such file Q holds; and told bytes are such a file, where the header is theirs.
pub record HasReadAfterHeader (step : Step) (P : List ByteRange → Type 0) (h : HeaderBytes) (Q : List ℕ → Type 0) (old new : SourceState) : Type 0 where
  -- the answers to the reads after the header, in their order
  pub log : List Answer
  -- they lead the source from the trail that it had to the one that it has
  pub leads : Leads step old.trail log new.trail
  -- its told bytes, if it has any, are as they were
  pub told : new.bytes ≡ old.bytes
  -- P holds of the requested ranges
  pub holds : P (map asked log)
  -- there is a file of this header that agrees with all that was read
  pub there_is : (file : List ℕ) × IsHeaderOf h file × FitsAfterHeader file log
  -- Q holds of each such file
  pub files : (file : List ℕ) → IsHeaderOf h file → FitsAfterHeader file log → Q file
  -- told bytes agree, where this header is theirs
  pub tells : IfSome old.bytes (λ file. IsHeaderOf h file → FitsAfterHeader file log)

-- What a run made of a source with told bytes.
pub record HasReadTold (step : Step) (P : List ByteRange → Type 0) (Q : List ℕ → List ByteRange → Type 0) (old new : SourceState) (file : List ℕ) : Type 0 where
  -- the answers to the reads, in their order
  pub log : List Answer
  -- they lead the source from the trail that it had to the one that it has
  pub leads : Leads step old.trail log new.trail
  -- P holds of the requested ranges
  pub holds : P (map asked log)
  -- the bytes agree with all that was read
  pub fits : FitsRun file log
  -- Q holds of them and of the ranges
  pub claimed : Q file (map asked log)
  -- they do not change
  pub stay : new.bytes ≡ Some file
  -- and where they are too few for a header nothing was read
  pub unread : length file < 100 → new.trail ≡ old.trail

-- So Q holds of told bytes wherever it holds of each file that agrees with what was read.
abbrev pub ToldFileIsRead : Step → Lengths → (List ByteRange → Type 0) → (List ℕ → List ByteRange → Type 0) → SourceState → SourceState → Type 0
ToldFileIsRead step lengths P Q old new = HasRead step lengths P Q old new → IfSome old.bytes (HasReadTold step P Q old new)

-- What a run leaves of a source with told bytes, after it read this header of them.
pub record HasReadAfterTold (step : Step) (P : List ByteRange → Type 0) (Q : List ℕ → Type 0) (old new : SourceState) (file : List ℕ) : Type 0 where
  -- the answers to the reads after the header, in their order
  pub log : List Answer
  -- they lead the source from the trail that it had to the one that it has
  pub leads : Leads step old.trail log new.trail
  -- P holds of the requested ranges
  pub holds : P (map asked log)
  -- the bytes agree with all that was read, from byte 100 on
  pub fits : FitsAfterHeader file log
  -- Q holds of them
  pub claimed : Q file
  -- they do not change
  pub stay : new.bytes ≡ Some file

-- So Q holds of told bytes with this header wherever it holds of each such file that agrees with what was read.
abbrev pub ToldFileIsReadAfter : Step → (List ByteRange → Type 0) → HeaderBytes → (List ℕ → Type 0) → SourceState → SourceState → Type 0
ToldFileIsReadAfter step P h Q old new = HasReadAfterHeader step P h Q old new
    → IfSome old.bytes (λ file. IsHeaderOf h file → HasReadAfterTold step P Q old new file)

-- What a run read of a source with changes it read of the source below: of each file that agrees with that, what is claimed of a file
-- is so of the file with the changes.
abbrev pub PatchedFileIsRead : Step → Lengths → (List ByteRange → Type 0) → (List ℕ → List ByteRange → Type 0) → SourceState → SourceState → Type 0
PatchedFileIsRead step lengths P Q old new = (changes changes' : List Change) → ((ranges : List ByteRange) → P ranges → IsSomeRunLog ranges)
    → HasRead (ChangedStep step) (ChangedLength lengths) P Q (changed changes old) (changed changes' new)
    → HasRead step lengths P (λ file ranges. Q (patched changes file) ranges) old new
