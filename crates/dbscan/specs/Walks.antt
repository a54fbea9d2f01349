-- The walks from the starts, one after another, as a reporter receives them.
use Rattle.std.specs.Prelude.{◌≡◌, ℕ, Bool, ◌||◌, List, [], ◌∷◌, ◌++◌, Result, Ok, Err, IfOk, OnOk}
use Rattle.std.specs.List.{list_any}
use Rattle.dbsurvey.specs.Moves.{Moves}
use Rattle.dbsurvey.specs.InOrder.{IsPast}
use Rattle.dbsurvey.specs.Story.{AreErrandsApart, Errand, Go}
use Rattle.dbformat.specs.Address.{schema_start, start_of}
use Rattle.dbformat.specs.EndFaults.{has_rows}
use Rattle.dbformat.specs.Reference.{Way, Reference}
use Rattle.dbformat.specs.SchemaRow.{SchemaRow}
use Rattle.dbformat.specs.Story.{Event, start_errands}
use Rattle.dbformat.specs.Survey.{Survey}
use Rattle.dbsource.specs.declared.error.RunError.{RunError}
use Rattle.dbtrace.specs.Finding.{reported_below, visited_below}
use Rattle.dbmarks.specs.Marking.{AreMarksOf}
use Rattle.dbmarks.specs.declared.marks.Mark.{Mark}
use Rattle.dbwalk.specs.Taking.{gives, readable_rows}
use Rattle.dbwalk.specs.Reporting.{Reports}
use Rattle.dbwalk.specs.declared.taker.Taken.{Taken}
use Rattle.dbscan.specs.Roots.{AreListed}
use Rattle.dbscan.specs.Findings.{is_schema_row}
use Rattle.dbscan.specs.Notices.{Notice, errands_left, tree_notices, later_notices, start_notices}
use Rattle.dbscan.specs.Starts.{At, IsSchemaOf, at_schema, schema_reference}
use Rattle.dbscan.specs.declared.notifier.Notifier.{Notifier}

-- Of the starts of a survey, those `left` are still to be walked from, after the visits of U, which are marked.
pub record IsAtStarts (file : List ℕ) (V U : List Reference) (left : List (Errand Way Event)) (marks : List Mark) : Type 0 where
  pub marked : AreMarksOf file U marks
  pub past : IsPast U left
  pub apart : AreErrandsApart left
  pub visits : U ++ visited_below file U left ≡ visited_below file [] (start_errands file V)

-- The walk over the tree of a root: what is below it is marked and was received, and that it ended; or a beginning of it was received.
pub record IsTreeWalked {S A : Type 0} (receives : S → Notice → S → Type 0)
    (at : At) (file : List ℕ) (W : List Reference) (c : Reference) (r : Result A RunError) (marks : List Mark) (before after : S) : Type 0 where
  pub marked : OnOk r (AreMarksOf file (W ++ visited_below file W (Go c ∷ [])) marks)
  pub reported : Reports receives r before (tree_notices at file W c) after

-- The same of the tree of a root with a notifier, which then knows whether a row of the schema was reported. If the tree is the
-- schema's, the taker was given the rows that can be read.
pub record IsWalkedOver {S T A : Type 0} (receives : S → Notice → S → Type 0) (keeps : T → SchemaRow → Taken → T → Type 0)
    (file : List ℕ) (W : List Reference) (c : Reference) (r : Result A RunError)
    (marks : List Mark) (before after : Notifier S) (first t : T) : Type 0 where
  pub tree : IsTreeWalked receives before.start.now file W c r marks before.reporter.now after.reporter.now
  pub has_rows : OnOk r (after.has_rows ≡ (before.has_rows || list_any is_schema_row (reported_below file W (Go c ∷ []))))
  pub given : start_of c.address ≡ schema_start → OnOk r (Moves (gives keeps) first (readable_rows file (W ++ visited_below file W (Go c ∷ []))) t)

-- The walk over the schema's tree, and what it has found, of every survey.
pub record IsSchemaWalked {S : Type 0} (receives : S → Notice → S → Type 0)
    (file : List ℕ) (r : Result Bool RunError) (marks : List Mark) (rows : List SchemaRow) (before after : S) : Type 0 where
  pub tree : IsTreeWalked receives at_schema file [] schema_reference r marks before after
  pub schema : (V : List Reference) → Survey file V → IfOk r (IsSchemaOf file V rows)

-- Between two starts: what was received, and then what is still to be received, is all that there is to report of them.
pub record IsBetweenStarts {S : Type 0} (receives : S → Notice → S → Type 0)
    (file : List ℕ) (V : List Reference) (before : S) (left : List (ℕ × SchemaRow)) (marks : List Mark) (now : S) : Type 0 where
  pub visits : List Reference
  pub at : IsAtStarts file V visits (errands_left file left) marks
  pub notices : List Notice
  pub reported : Moves receives before notices now
  pub rest : notices ++ later_notices file visits left ≡ start_notices file V

-- these are left, or an error stopped it
abbrev pub StopsReporting : {S : Type 0} → (S → Notice → S → Type 0) → List ℕ → List Reference → S → List (ℕ × SchemaRow)
    → Result (Unit {0}) RunError → List Mark → S → Type 0
StopsReporting receives file V before left (Ok u) marks now = IsBetweenStarts receives file V before left marks now
StopsReporting receives file V before left (Err e) marks now = Reports {A = Unit {0}} receives (Err e) before (start_notices file V) now

-- The walks from all starts: the survey is marked, and what there is to report of it was received; or after an error a beginning was.
pub record AreReported {S A : Type 0} (receives : S → Notice → S → Type 0)
    (file : List ℕ) (V : List Reference) (r : Result A RunError) (marks : List Mark) (before after : S) : Type 0 where
  pub marked : OnOk r (AreMarksOf file V marks)
  pub reported : Reports receives r before (start_notices file V) after

-- It is also known whether the schema has a row, and a list has its rows with a root page.
pub record AreWalked {S : Type 0} (receives : S → Notice → S → Type 0)
    (file : List ℕ) (V : List Reference) (r : Result Bool RunError) (marks : List Mark) (rows : List SchemaRow) (before after : S) : Type 0 where
  pub all : AreReported receives file V r marks before after
  pub has_rows : IfOk r (λ any. any ≡ has_rows file V)
  pub listed : OnOk r (AreListed file V rows)
