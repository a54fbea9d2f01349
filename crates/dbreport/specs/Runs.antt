-- What an answer of a run says of the file, and of what was written.
use Rattle.std.specs.Prelude.{◌≡◌, ◌↔◌, ◌++◌, ℕ, true, false, List, Option, None, Some, Result, Ok, Err, IfOk, IfSome, OnOk, ⊤}
use Rattle.dbformat.specs.File.{geometry, refusal}
use Rattle.dbformat.specs.FixedPages.{geometry_of}
use Rattle.dbformat.specs.Reference.{Reference}
use Rattle.dbformat.specs.Lines.{AddsUpToAllPages, ok_line}
use Rattle.dbformat.specs.Log.{IsPageLog, IsRunLog, IsSomeRunLog}
use Rattle.dbformat.specs.Report.{Report, report}
use Rattle.dbformat.specs.Rows.{CountsEachPageOnce, CountsNoPageTwice}
use Rattle.dbformat.specs.Sound.{Sound}
use Rattle.dbformat.specs.Survey.{Survey, survey}
use Rattle.dbformat.specs.declared.Command.{Command}
use Rattle.dbformat.specs.declared.Command.TheVariants.{Check, Stat}
use Rattle.dbformat.specs.declared.Verdict.{Verdict}
use Rattle.dbformat.specs.declared.Verdict.TheVariants.{Clean}
use Rattle.dbsource.specs.Answers.{Lengths, Step, Trail}
use Rattle.dbsource.specs.Errors.{is_read_failed, is_write_failed}
use Rattle.dbsource.specs.Failures.{CountsAfter, failures_after}
use Rattle.dbsource.specs.HeaderBytes.{HeaderBytes}
use Rattle.dbsource.specs.Headers.{IsOpenLog}
use Rattle.dbsource.specs.Outs.{Writes}
use Rattle.dbsource.specs.Snapshots.{HasRead, HasReadAfterHeader, ToldFileIsRead, ToldFileIsReadAfter}
use Rattle.dbsource.specs.Sources.{HasRanges, SourceState}
use Rattle.dbsource.specs.declared.error.OpenError.TheVariants as opening
use Rattle.dbsource.specs.declared.error.RunError.{RunError}
use Rattle.dbsource.specs.declared.error.RunError.TheVariants.{Refused, ReadFailed}
use Rattle.dbsource.specs.declared.out.Out.{Ghosts as OutWords}
use Rattle.dbsource.specs.declared.source.Source.{Ghosts as SourceWords}
use Rattle.dbreport.specs.StatReporter.{failures_of_each}

-- whether a command is a check
abbrev pub IsCheck : Command → Type 0
IsCheck (Check limit) = ⊤
IsCheck (Stat aggregate all) = ⊥

-- A refused file is answered with its refusal or with a failed read, and any other file never with a refusal.
abbrev pub IsAnswerOf : {A : Type 0} → Result A RunError → List ℕ → Type 0
IsAnswerOf (Err (Refused r)) file = refusal file ≡ Some r
IsAnswerOf (Err ReadFailed) file = Unit {0}
IsAnswerOf r file = refusal file ≡ None

-- at a refusal it is as it was
abbrev pub IsUnwritten : {A X : Type 0} → Result A RunError → X → X → Type 0
IsUnwritten (Err (Refused r)) old new = new ≡ old
IsUnwritten r old new = Unit {0}

-- at a refusal only the header was asked for, once; and not even that, where the file is too short to have one
abbrev pub AsksHeaderAlone : {A : Type 0} → Step → Result A RunError → Trail → Trail → Type 0
AsksHeaderAlone step (Err (Refused r)) old new = HasRanges step (IsOpenLog (Err (opening.Refused r))) old new
AsksHeaderAlone step r old new = Unit {0}

-- The rows of all pages count each page once, and of a file that is read the column `pgsize` adds up to the size of all
-- pages. The rows of trees alone count no page twice.
abbrev pub CountsPages : Command → List ℕ → List Reference → Type 0
CountsPages (Stat aggregate true) file V =
    CountsEachPageOnce (record { aggregate = aggregate; all = true }) file V
    × (refusal file ≡ None → AddsUpToAllPages (record { aggregate = aggregate; all = true }) file V)
CountsPages (Stat aggregate false) file V = CountsNoPageTwice (record { aggregate = aggregate; all = false }) file V
CountsPages (Check limit) file V = Unit {0}

-- What an Out got, where it tells its bytes, is the line `ok` exactly where the file is sound.
abbrev pub SaysOk : List ℕ → Option (List ℕ) → Option (List ℕ) → Type 0
SaysOk file old new = IfSome old (λ had. new ≡ Some (had ++ ok_line) ↔ Sound file)

-- so it is of a check
abbrev pub SaysOkWhereSound : Command → List ℕ → Option (List ℕ) → Option (List ℕ) → Type 0
SaysOkWhereSound (Check limit) file old new = SaysOk file old new
SaysOkWhereSound (Stat aggregate all) file old new = Unit {0}

-- What a run left, by a survey of a file whose report this is: on each Out its part of the report, at an error a beginning of it;
-- and the verdict.
pub record IsReportedBy (whole : Report) (r : Result Verdict RunError) (out_old out_new err_old err_new : Option (List ℕ)) : Type 0 where
  pub out : Writes r out_old out_new whole.out
  pub err : Writes r err_old err_new whole.err
  pub verdict : IfOk r (λ v. whole.answer ≡ Ok v)

-- the same of the report of a command
abbrev pub IsReported : Command → List ℕ → List Reference → Result Verdict RunError → Option (List ℕ) → Option (List ℕ) → Option (List ℕ)
    → Option (List ℕ) → Type 0
IsReported command file V r out_old out_new err_old err_new = IsReportedBy (report command file V) r out_old out_new err_old err_new

-- A run left this of a file, where `rep` is the report of a file by its survey: the file has a survey, and by any survey of it
-- that is its report. The answer is `Clean` exactly for a sound file.
pub record IsRunBy (rep : List ℕ → List Reference → Report) (file : List ℕ) (r : Result Verdict RunError)
    (out_old out_new err_old err_new : Option (List ℕ)) : Type 0 where
  pub survey : Survey file (survey file)
  pub reported : (V : List Reference) → Survey file V → IsReportedBy (rep file V) r out_old out_new err_old err_new
  pub answer : IsAnswerOf r file
  pub sound : IfOk r (λ v. v ≡ Clean ↔ Sound file)

-- The same of a run of a command; its rows count the pages of the file, and a check at Ok says whether the file is sound.
pub record IsRunOf (command : Command) (file : List ℕ) (r : Result Verdict RunError) (out_old out_new err_old err_new : Option (List ℕ)) : Type 0 where
  pub run : IsRunBy (report command) file r out_old out_new err_old err_new
  pub counts : (V : List Reference) → Survey file V → CountsPages command file V
  pub ok : OnOk r (SaysOkWhereSound command file out_old out_new)

-- ---- from a source and an Out to their states after the run, by what their traits say of them

module _ {S O : Type 0} (source : SourceWords S) (out : OutWords O) where
  -- Whatever the source answered: there is a file, of the length that it answered, that agrees with every byte that the run used;
  -- and of each such file this was the run, what it asked for is what a run over that file asks for, and no other Out was used.
  abbrev pub HasRunBy : (List ℕ → List Reference → Report) → Result Verdict RunError → S × O → S × O → Type 0
  HasRunBy rep r old new = HasRead source.step source.lengths IsSomeRunLog
      (λ file ranges. IsRunLog (geometry file) ranges × ((err : Option (List ℕ)) → IsRunBy rep file r (out.held old.1).bytes (out.held new.1).bytes err err))
      (source.held old.0) (source.held new.0)

  -- The answer says who failed: the source, once, exactly at a failed read, and the Out, once, exactly at a failed write.
  pub record FailsOnce (r : Result Verdict RunError) (old new : S × O) : Type 0 where
    pub reads : (source.held new.0).failures ≡ failures_after is_read_failed r (source.held old.0).failures
    pub writes : (out.held new.1).failures ≡ failures_after is_write_failed r (out.held old.1).failures

  -- At a refusal nothing but the header was asked for, and nothing was done to the Out.
  pub record IsUntouched (r : Result Verdict RunError) (old new : S × O) : Type 0 where
    pub asked : AsksHeaderAlone source.step r (source.held old.0).trail (source.held new.0).trail
    pub unwritten : IsUnwritten r old.1 new.1

-- ---- and from a source and two Outs

module _ {S O E : Type 0} (source : SourceWords S) (out : OutWords O) (err : OutWords E) where
  -- Whatever the source answered: there is a file, of the length that it answered, that agrees with every byte that the run used;
  -- and of each such file this was the run, and what it asked for is what a run over that file asks for.
  abbrev pub HasRun : Command → Result Verdict RunError → S × O × E → S × O × E → Type 0
  HasRun command r old new = HasRead source.step source.lengths IsSomeRunLog
      (λ file ranges. IsRunLog (geometry file) ranges
      × IsRunOf command file r (out.held old.1).bytes (out.held new.1).bytes (err.held old.2).bytes (err.held new.2).bytes)
      (source.held old.0) (source.held new.0)

  -- The same after a header that had been read before: there is a file of this header that agrees, and so on.
  abbrev pub HasRunAfterHeader : HeaderBytes → Command → Result Verdict RunError → S × O × E → S × O × E → Type 0
  HasRunAfterHeader h command r old new = HasReadAfterHeader source.step (IsPageLog (geometry_of h.bytes h.file_len)) h
      (λ file. IsRunOf command file r (out.held old.1).bytes (out.held new.1).bytes (err.held old.2).bytes (err.held new.2).bytes)
      (source.held old.0) (source.held new.0)

  -- The answer says who failed: the source, once, exactly at a failed read; exactly one of the Outs, once, exactly at a failed
  -- write. Of a check that is the first Out.
  pub record FailsAsAnswered (command : Command) (r : Result Verdict RunError) (old new : S × O × E) : Type 0 where
    pub reads : (source.held new.0).failures ≡ failures_after is_read_failed r (source.held old.0).failures
    pub writes : CountsAfter is_write_failed r (failures_of_each (out.held old.1) (err.held old.2)) (failures_of_each (out.held new.1) (err.held new.2))
    pub first : IsCheck command → (out.held new.1).failures ≡ failures_after is_write_failed r (out.held old.1).failures

  -- At a refusal nothing but the header was asked for, and nothing was done to either Out.
  pub record IsLeftAlone (r : Result Verdict RunError) (old new : S × O × E) : Type 0 where
    pub asked : AsksHeaderAlone source.step r (source.held old.0).trail (source.held new.0).trail
    pub first : IsUnwritten r old.1 new.1
    pub second : IsUnwritten r old.2 new.2

-- ---- what holds of a source with told bytes, in each case where it holds of each file that agrees with what was read

-- what `run` says
abbrev pub ToldRunsAreRead : Step → Lengths → Type 0
ToldRunsAreRead step lengths = (command : Command) (r : Result Verdict RunError) (out_old out_new err_old err_new : Option (List ℕ)) (old new : SourceState)
    → ToldFileIsRead step lengths IsSomeRunLog (λ file ranges. IsRunLog (geometry file) ranges × IsRunOf command file r out_old out_new err_old err_new) old new

-- what `run_on` says
abbrev pub ToldRunsOnAreRead : Step → Type 0
ToldRunsOnAreRead step = (h : HeaderBytes) (command : Command) (r : Result Verdict RunError) (out_old out_new err_old err_new : Option (List ℕ))
    (old new : SourceState)
    → ToldFileIsReadAfter step (IsPageLog (geometry_of h.bytes h.file_len)) h (λ file. IsRunOf command file r out_old out_new err_old err_new) old new

-- what a run says that writes another report, as `HasRunBy` does
abbrev pub ToldReportsAreRead : Step → Lengths → Type 0
ToldReportsAreRead step lengths = (rep : List ℕ → List Reference → Report)
    (r : Result Verdict RunError) (out_old out_new : Option (List ℕ)) (old new : SourceState)
    → ToldFileIsRead step lengths IsSomeRunLog (λ file ranges. IsRunLog (geometry file) ranges
    × ((err : Option (List ℕ)) → IsRunBy rep file r out_old out_new err err)) old new
