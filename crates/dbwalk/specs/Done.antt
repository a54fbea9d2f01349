-- What a whole walk has done, by the visits and findings of the definitions.
use Rattle.std.specs.Prelude.{◌≤◌, ℕ, List, [], ◌∷◌, ◌++◌, Result, OnOk}
use Rattle.dbsurvey.specs.Story.{Errand, Go}
use Rattle.dbformat.specs.Address.{start_of}
use Rattle.dbformat.specs.Reference.{Way, Reference}
use Rattle.dbformat.specs.SchemaRow.{SchemaRow}
use Rattle.dbformat.specs.Story.{Event}
use Rattle.dbsource.specs.declared.error.RunError.{RunError}
use Rattle.dbmarks.specs.declared.marks.Mark.{Mark}
use Rattle.dbmarks.specs.Marking.{AreMarksOf}
use Rattle.dbtrace.specs.Finding.{Finding, reported_below, visited_below}
use Rattle.dbwalk.specs.Reporting.{Reports}
use Rattle.dbwalk.specs.Underway.{tree_walk}
use Rattle.dbwalk.specs.Watching.{Handed, fails, watches}
use Rattle.dbwalk.specs.declared.taker.Taken.{Taken}

-- At Ok the marks are those of W and of all that is visited below the errands. What is reported below them was given to the
-- sink: all of it at Ok, a beginning after an error.
pub record IsDone {S A : Type 0} (takes : S → Finding → S → Type 0) (file : List ℕ) (W : List Reference) (errands : List (Errand Way Event))
    (r : Result A RunError) (marks : List Mark) (before after : S) : Type 0 where
  pub marked : OnOk r (AreMarksOf file (W ++ visited_below file W errands) marks)
  pub reported : Reports takes r before (reported_below file W errands) after

-- What the walk over a whole tree leaves. At Ok the marks are those of W and of all that is visited below the root. The items of
-- the walk (`IsFold` says what they are) were handed to sink and taker: all of them at Ok, after an error a beginning. So in a
-- tree that is not the schema's, which has no rows, all that is found below the root was reported.
pub record IsTreeDone {S T : Type 0} (takes : S → Finding → S → Type 0) (keeps : T → SchemaRow → Taken → T → Type 0)
    (refuses : T → SchemaRow → T → Type 0) (file : List ℕ) (W : List Reference) (c : Reference) (r : Result (Unit {0}) RunError)
    (marks : List Mark) (before after : S × T) : Type 0 where
  pub marked : OnOk r (AreMarksOf file (W ++ visited_below file W (Go c ∷ [])) marks)
  pub handed : Handed (watches takes keeps) (fails refuses) r before (tree_walk file W c).items after
  pub others : 1 ≤ start_of c.address → Reports takes r before.0 (reported_below file W (Go c ∷ [])) after.0
