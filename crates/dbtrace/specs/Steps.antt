-- A walk step by step, for a program with a list of errands that are still to be done.
use Rattle.std.specs.Prelude.{◌≡◌, ℕ, true, false, List, [], ◌∷◌, ◌++◌, map, None}
use Rattle.dbsurvey.specs.InOrder.{AreQuiet}
use Rattle.dbsurvey.specs.Story.{Reported, Errand, Go, Due, errands_of}
use Rattle.dbsurvey.specs.Traverse.{is_followed}
use Rattle.dbformat.specs.Reference.{Way, Reference, role_of, tree_kind}
use Rattle.dbformat.specs.Story.{Event, at_page, at_refused, own_visit, story_of}
use Rattle.dbformat.specs.Survey.{rules_of}
use Rattle.dbtrace.specs.Finding.{reported_below, visited_below}
use Rattle.dbtrace.specs.Item.{found}
use Rattle.dbtrace.specs.Walk.{Walk, bare, advance, run_below}

-- Nothing left; an event; a reference that is refused; one that is followed, where what its page leads to is to be done next;
-- and errands that are done in one go.
pub record HasSteps (file : List ℕ) : Type 0 where
  pub none : (now : Walk) → run_below file now [] ≡ now
  pub event : (now : Walk) (t : Reported Event) (es : List (Errand Way Event)) → own_visit t.event ≡ None
      → run_below file now (Due t ∷ es) ≡ run_below file (advance file now t.event) es
  pub refused : (now : Walk) (c : Reference) (es : List (Errand Way Event)) → is_followed (rules_of file) now.visits c ≡ false
      → run_below file now (Go c ∷ es) ≡ run_below file (advance file now (at_refused c)) es
  pub visit : (now : Walk) (c : Reference) (es : List (Errand Way Event)) → is_followed (rules_of file) now.visits c ≡ true
      → run_below file now (Go c ∷ es) ≡ run_below file (advance file now (at_page c)) (errands_of (story_of file) c ++ es)
  pub join : (now : Walk) (es fs : List (Errand Way Event)) → AreQuiet own_visit es
      → run_below file now (es ++ fs) ≡ run_below file (run_below file now es) fs
  pub visits : (now : Walk) (es : List (Errand Way Event)) → AreQuiet own_visit es
      → (run_below file now es).visits ≡ now.visits ++ visited_below file now.visits es
  pub items : (now : Walk) (es : List (Errand Way Event))
      → (run_below file now es).items ≡ now.items ++ (run_below file (bare now) es).items
  pub state : (now : Walk) (es : List (Errand Way Event)) → (run_below file now es).state ≡ (run_below file (bare now) es).state

-- What is below a reference to a page that is in no tree, as an overflow chain or the freelist, leaves the progress as
-- it is, gives no row, and reports what the definitions give by the visits.
pub record IsAside (file : List ℕ) (now : Walk) (c : Reference) : Type 0 where
  pub state : (run_below file now (Go c ∷ [])).state ≡ now.state
  pub items : (run_below file now (Go c ∷ [])).items ≡ now.items ++ map found (reported_below file now.visits (Go c ∷ []))

-- so it is below each
abbrev pub AreAside : List ℕ → Type 0
AreAside file = (now : Walk) (c : Reference) → tree_kind (role_of c) ≡ None → IsAside file now c
