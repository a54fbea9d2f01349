-- What a reporter has received when its report is to end, and what a run makes of it.
use Rattle.std.specs.Prelude.{◌≡◌, ◌⊎◌, ℕ, List, Result, Err}
use Rattle.dbsurvey.specs.Moves.{Moves, MovesBySome}
use Rattle.dbformat.specs.Log.{IsPageLog}
use Rattle.dbformat.specs.Reference.{Reference}
use Rattle.dbformat.specs.Survey.{Survey}
use Rattle.dbformat.specs.declared.Verdict.{Verdict}
use Rattle.dbsource.specs.Errors.{is_read_failed}
use Rattle.dbsource.specs.Failures.{failures_after}
use Rattle.dbsource.specs.Headers.{IsHeaderOf}
use Rattle.dbsource.specs.Snapshots.{HasReadAfterHeader}
use Rattle.dbsource.specs.Sources.{Asks}
use Rattle.dbsource.specs.declared.error.RunError.{RunError}
use Rattle.dbsource.specs.declared.source.Source.{Ghosts as SourceWords}
use Rattle.dbmarks.specs.Marking.{AreMarksOf}
use Rattle.dbscan.specs.Roots.{AreListed}
use Rattle.dbwalk.specs.Reporting.{SinkState}
use Rattle.dbscan.specs.Desks.{DeskView, shape_of}
use Rattle.dbscan.specs.Kept.{KeepsHeader, KeepsRoots}
use Rattle.dbscan.specs.Looks.{IsUnmarked, ReadsRising}
use Rattle.dbscan.specs.Notices.{Notice, run_notices}

-- What is on a desk is of this file and its survey: the header, the marks of the visits, and the rows of the schema.
pub record IsDeskOf (d : DeskView) (file : List ℕ) (V : List Reference) : Type 0 where
  pub header : IsHeaderOf d.header file
  pub survey : Survey file V
  pub marks : AreMarksOf file V d.marks
  pub rows : AreListed file V d.roots.rows

-- A reporter has received all that is reported of the file whose survey is on a desk.
pub record HasReceived {K : Type 0} (receives : K → Notice → K → Type 0) (d : DeskView) (file : List ℕ) (V : List Reference) (first now : K) : Type 0 where
  pub desk : IsDeskOf d file V
  pub received : Moves receives first (run_notices file V) now

-- What the end of a report makes of a reporter, whatever the source answered. Pages that were not visited may be read, each
-- once. Of each file that agrees with what was read, and whose notices were all that the reporter had received, this is what a run
-- leaves. The answer says who failed.
pub record HasFinished {S K : Type 0} (source : SourceWords S) (receives : K → Notice → K → Type 0) (held : K → SinkState)
    (leaves : List ℕ → List Reference → Result Verdict RunError → K → K → Type 0)
    (r : Result Verdict RunError) (before after : DeskView) (old new : S × K) : Type 0 where
  pub asks : Asks source.step (ReadsRising (shape_of before).page_size (IsUnmarked before.marks))
      (λ file. (V : List Reference) → (first : K) → HasReceived receives before file V first old.1 → leaves file V r first new.1)
      is_read_failed r (source.held old.0) (source.held new.0)
  pub keeps : KeepsRoots r before after (held old.1) (held new.1)

-- What a run leaves of a reporter: what a reporter leaves at the end of the file; or, if an error stopped it before, what it is
-- after a beginning of the notices.
abbrev pub Leaves : {K : Type 0} → (K → Notice → K → Type 0) → (List ℕ → List Reference → Result Verdict RunError → K → K → Type 0)
    → List ℕ → List Reference → Result Verdict RunError → K → K → Type 0
Leaves receives leaves file V r s t = leaves file V r s t ⊎ ((e : RunError) × (r ≡ Err e) × MovesBySome receives s (run_notices file V) t)

-- What a run over a desk makes of a reporter, whatever the source answered: there is a file of the desk's header that agrees
-- with all that was read after it, and of each such file, by any survey, this is what a run leaves. The answer says who failed.
pub record HasReported {S K : Type 0} (source : SourceWords S) (held : K → SinkState)
    (leaves : List ℕ → List Reference → Result Verdict RunError → K → K → Type 0)
    (r : Result Verdict RunError) (before after : DeskView) (old new : S × K) : Type 0 where
  pub read : HasReadAfterHeader source.step (IsPageLog (shape_of before)) before.header (λ file. (V : List Reference) → Survey file V
      → leaves file V r old.1 new.1)
      (source.held old.0) (source.held new.0)
  pub reads : (source.held new.0).failures ≡ failures_after is_read_failed r (source.held old.0).failures
  pub keeps : KeepsHeader r before after (held old.1) (held new.1)
