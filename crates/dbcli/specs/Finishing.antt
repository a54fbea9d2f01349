-- What finishing leaves, and what a run of a line does: from a source and two Outs to what these have become, by what their
-- traits say of them.
use Rattle.std.specs.Prelude.{◌≡◌, ◌≤◌, ◌⊎◌, ℕ, List, [], ◌∷◌, All, IfSome, length, Err}
use Rattle.std.specs.Io.KnownBytes.{Keeps}
use Rattle.dbformat.specs.File.{geometry}
use Rattle.dbformat.specs.Log.{IsRunLog, IsSomeRunLog}
use Rattle.dbformat.specs.declared.Refusal.{Refusal}
use Rattle.dbsource.specs.Answers.{Lengths, Step}
use Rattle.dbsource.specs.Changes.{Change, IsInside, patched}
use Rattle.dbsource.specs.Failures.{one_more}
use Rattle.dbsource.specs.Headers.{IsOpenLog}
use Rattle.dbsource.specs.Outs.{OutState}
use Rattle.dbsource.specs.Snapshots.{HasRead, ToldFileIsRead}
use Rattle.dbsource.specs.Sources.{HasRanges, SourceState}
use Rattle.dbsource.specs.declared.error.OpenError.TheVariants as opening
use Rattle.dbsource.specs.declared.error.RunError.{RunError}
use Rattle.dbsource.specs.declared.error.RunError.TheVariants.{ReadFailed}
use Rattle.dbsource.specs.declared.out.Out.{Ghosts as OutWords}
use Rattle.dbsource.specs.declared.source.Source.{Ghosts as SourceWords}
use Rattle.dbcli.specs.ErrorLines.{error_line, unrun_line}
use Rattle.dbcli.specs.Exit.{EndsWithLine, OutHasFailed, IsFinishOf, IsHandedOn, IsHandedOnOrFailed, IsKnown, failures_at_4, first_most, second_most}
use Rattle.dbcli.specs.Requests.{WritesToFirst}
use Rattle.dbcli.specs.Status.{exit_status}
use Rattle.dbcli.specs.declared.error_lines.Unrun.TheVariants.{PastEnd}
use Rattle.dbcli.specs.declared.request.Request.{Request}

-- What finishing says of each file that agrees with what was read, it says of the bytes that a source tells.
abbrev pub ToldFilesAreFinished : Step → Lengths → Type 0
ToldFilesAreFinished step lengths = (changes : List Change) (asked : Request) (status : ℕ) (out_old out_new err_old err_new : OutState) (old new : SourceState)
    → ToldFileIsRead step lengths IsSomeRunLog
    (λ file ranges. IsRunLog (geometry (patched changes file)) ranges × IsFinishOf status asked (patched changes file) out_old out_new err_old err_new) old new

module _ {S O E : Type 0} (source : SourceWords S) (out : OutWords O) (err : OutWords E) where
  -- What was read, and what became of it, where the file is reported with these changes.
  pub record IsFinished (changes : List Change) (asked : Request) (status : ℕ) (old new : S × O × E) : Type 0 where
    -- There is a file, of the length that the source answered, that agrees with every byte that the run used; and of each such
    -- file, with the changes, the run asked for what one over that asks for, no page twice but page 1 after its header, and the
    -- status says how it ended.
    pub read : HasRead source.step source.lengths IsSomeRunLog
        (λ file ranges. IsRunLog (geometry (patched changes file)) ranges
        × IsFinishOf status asked (patched changes file) (out.held old.1) (out.held new.1) (err.held old.2) (err.held new.2))
        (source.held old.0) (source.held new.0)
    -- at 3 the header alone was asked for, once; and not even that, where the file is too short to have one
    pub refused : status ≡ 3
        → (why : Refusal) × HasRanges source.step (IsOpenLog (Err (opening.Refused why))) (source.held old.0).trail (source.held new.0).trail

  -- Who failed.
  pub record FailsByStatus (status : ℕ) (old new : S × O × E) : Type 0 where
    -- the source, once, exactly at 4
    pub reads : (source.held new.0).failures ≡ failures_at_4 status (source.held old.0).failures
    -- at 6 one of the Outs
    pub writes : status ≡ 6 → OutHasFailed (out.held old.1) (out.held new.1) ⊎ OutHasFailed (err.held old.2) (err.held new.2)

  -- What is on the first Out, beside what the status says of a file.
  pub record LeavesFirst (asked : Request) (status : ℕ) (old new : O) : Type 0 where
    -- at a verdict all was handed on, and no call of it failed
    pub whole : status ≤ 1 → IsHandedOn (out.held old) (out.held new)
    -- at a refusal it is as it was
    pub unwritten : status ≡ 3 → new ≡ old
    -- at the other errors what was pending was handed on, if that could be
    pub tried : 4 ≤ status → IsHandedOnOrFailed (first_most asked status) (out.held old) (out.held new)

  -- What is on the second.
  pub record LeavesSecond (asked : Request) (status : ℕ) (old new : E) : Type 0 where
    -- at a verdict all was handed on, and no call of it failed
    pub whole : status ≤ 1 → IsHandedOn (err.held old) (err.held new)
    -- at an error what was pending and the line of the error were handed on, if that could be
    pub tried : 3 ≤ status → IsHandedOnOrFailed (second_most status) (err.held old) (err.held new)
    -- of a check, an explanation or a map it got nothing at a verdict
    pub quiet : WritesToFirst asked → status ≤ 1 → Keeps (err.held old).bytes (err.held new).bytes
    -- and at an error the line of one with this status
    pub line : WritesToFirst asked → 3 ≤ status
        → (error : RunError) × (exit_status (Err error) ≡ status) × EndsWithLine (error_line error) (second_most status) (err.held old) (err.held new)

  -- All of this: of a source that finishing was given, and what it left of that.
  pub record Finishes (changes : List Change) (asked : Request) (status : ℕ) (old new : S × O × E) : Type 0 where
    pub read : IsFinished changes asked status old new
    pub known : IsKnown status
    pub failed : FailsByStatus status old new
    pub first : LeavesFirst asked status old.1 new.1
    pub second : LeavesSecond asked status old.2 new.2

  -- A length that the source answered. Told bytes have this length.
  pub record IsMeasured (len : ℕ) (old : S) : Type 0 where
    pub answered : source.lengths (source.held old).trail len
    pub told : IfSome (source.held old).bytes (λ file. len ≡ length file)

  -- Where a change has a byte past the end of the file.
  pub record IsPastEnd (changes : List Change) (status : ℕ) (old new : S × O × E) : Type 0 where
    -- not all of them are inside the length that the source answered
    pub len : ℕ
    pub measured : IsMeasured len old.0
    pub past : All (IsInside len) changes → ⊥
    -- nothing was read
    pub unread : source.held new.0 ≡ source.held old.0
    pub at_3 : status ≡ 3
    -- nothing was done to the first Out
    pub first : new.1 ≡ old.1
    -- the second got the line E11, and that was handed on, if it could be
    pub second : EndsWithLine (unrun_line PastEnd) 2 (err.held old.2) (err.held new.2)

  -- Where the source did not answer its length.
  pub record IsUnmeasured (status : ℕ) (old new : S × O × E) : Type 0 where
    -- it failed at that, and nothing was read
    pub unread : source.held new.0 ≡ (record (source.held old.0) { failures = one_more (source.held old.0).failures })
    pub at_4 : status ≡ 4
    pub first : new.1 ≡ old.1
    pub second : EndsWithLine (error_line ReadFailed) 2 (err.held old.2) (err.held new.2)

  -- Where all changes are inside the length that the source answered, and a run came to an end.
  pub record IsInsideRun (changes : List Change) (Ran : S × O × E → S × O × E → Type 0) (old new : S × O × E) : Type 0 where
    pub len : ℕ
    pub measured : IsMeasured len old.0
    pub inside : All (IsInside len) changes
    pub ran : Ran old new

  -- A run: of the file as it is, where there are no changes, and its length is not asked for before. Else the length was asked for,
  -- once, and there was a run only if it was answered and no change is past it.
  abbrev pub RunsInside : List Change → (S × O × E → S × O × E → Type 0) → ℕ → S × O × E → S × O × E → Type 0
  RunsInside [] Ran status old new = Ran old new
  RunsInside (c ∷ changes) Ran status old new =
      IsInsideRun (c ∷ changes) Ran old new ⊎ IsPastEnd (c ∷ changes) status old new ⊎ IsUnmeasured status old new
