-- Trunks of the freelist, and their leaves.
use Rattle.std.specs.Prelude.{ℕ, List, map, Result, Ok, Err, ◌≡◌, [], ◌∷◌, Option, Some, None, false, ◌==◌, if◌then◌else◌}
use Rattle.std.specs.List.{range_with_len}
use Rattle.dbsurvey.specs.Story.{Errand}
use Rattle.dbformat.specs.Errands.{leaf_errand, go}
use Rattle.dbformat.specs.Reference.{Way, Reference, trunk, next_trunk, role_of, from_of, item_of}
use Rattle.dbformat.specs.Story.{Event}
use Rattle.dbsource.specs.declared.error.RunError.{RunError}
use Rattle.dbmarks.specs.declared.marks.Mark.{Mark}
use Rattle.dbtrace.specs.Finding.{Finding}
use Rattle.dbtrace.specs.Walk.{Walk}
use Rattle.dbwalk.specs.Underway.{HasDone, IsUnderway}
use Rattle.dbwalk.specs.Watching.{fed, never}
use Rattle.dbformat.specs.Address.{freelist_start}
use Rattle.dbformat.specs.File.{page_bytes}
use Rattle.dbwalk.specs.declared.entering.Step.{Step}
use Rattle.dbwalk.specs.declared.state.Tree.{Tree}
use Rattle.dbmarks.specs.declared.marks.Mark.TheVariants.{Trunk}
use Rattle.dbtrace.specs.declared.Cause.TheVariants.{Itself}
use Rattle.dbwalk.specs.Beside.{IsAtStep}

-- The leaves of a trunk as a program enters them.

-- n leaves of a trunk's page, from leaf j on
abbrev pub leaves_from : Reference → List ℕ → ℕ → ℕ → List (Errand Way Event)
leaves_from d page j n = map (leaf_errand d page) (range_with_len j n)

-- by the answer something is left at some point of a whole walk, or an error stopped it
abbrev pub LeavesErrands : {S A : Type 0} → (S → Finding → S → Type 0) → List ℕ → Walk → S → (A → List (Errand Way Event)) → Result A RunError
    → List Mark × Tree → S → Type 0
LeavesErrands takes file whole before left (Ok a) state s = (now : Walk) × IsUnderway (fed takes) file whole before now (left a) state s
LeavesErrands takes file whole before left (Err e) state s = HasDone {A = Unit {0}} (fed takes) never file whole (Err e) state before s

-- The trunks of the freelist as a program walks them.

-- the step to a trunk
abbrev pub trunk_step : ℕ → ℕ → ℕ → Step
trunk_step page from item = record { page = page; mark = Trunk; from = from; item = item; is_too_deep = false }

-- the step to the next one, if there is one
abbrev pub next_step : ℕ → ℕ → ℕ → Option Step
next_step page from item = if page == 0 then None else Some (trunk_step page from item)

-- the reference of the list of starts to the first trunk
pub record IsFirstTrunk (first : ℕ) (c : Reference) : Type 0 where
  pub page : c.page ≡ first
  pub role : role_of c ≡ trunk
  pub from : from_of c ≡ 0
  pub item : item_of c ≡ freelist_start

-- that reference
abbrev pub freelist_reference : ℕ → Reference
freelist_reference first = record { address = freelist_start ∷ []; page = first; role = record { role = trunk; from = 0; item = freelist_start } }

-- On the way along the trunks: this one is left.
pub record IsOnTrunks {S : Type 0} (takes : S → Finding → S → Type 0) (file : List ℕ) (whole : Walk) (before : S) (place : Step)
    (state : List Mark × Tree) (s : S) : Type 0 where
  pub at : IsAtStep takes file whole before place Itself state s
  pub role : role_of at.d ≡ trunk

-- a trunk is open: the next one is left, from this item
abbrev pub OpensTrunk : {S : Type 0} → (S → Finding → S → Type 0) → List ℕ → Walk → S → Reference → Result ℕ RunError → List Mark × Tree → S → Type 0
OpensTrunk takes file whole before d = LeavesErrands takes file whole before (λ item. map (go d) (next_trunk d.page (page_bytes file d.page) item))
