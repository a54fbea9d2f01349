-- What a scan of a file leaves, of every survey.
use Rattle.std.specs.Prelude.{ℕ, List, Result, OnOk}
use Rattle.dbformat.specs.Reference.{Reference}
use Rattle.dbformat.specs.SchemaRow.{SchemaRow}
use Rattle.dbsource.specs.declared.error.RunError.{RunError}
use Rattle.dbmarks.specs.Marking.{AreMarksOf}
use Rattle.dbmarks.specs.declared.marks.Mark.{Mark}
use Rattle.dbscan.specs.Roots.{AreListed}
use Rattle.dbwalk.specs.Reporting.{Reports}
use Rattle.dbscan.specs.Notices.{Notice, run_notices}

-- All that a run reports was received, or after an error a beginning of it. At Ok the survey is marked, and a list has the rows of the
-- schema with a root page.
pub record IsScanned {S A : Type 0} (receives : S → Notice → S → Type 0)
    (file : List ℕ) (V : List Reference) (r : Result A RunError) (marks : List Mark) (rows : List SchemaRow) (before after : S) : Type 0 where
  pub reported : Reports receives r before (run_notices file V) after
  pub marked : OnOk r (AreMarksOf file V marks)
  pub listed : OnOk r (AreListed file V rows)
