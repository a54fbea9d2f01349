-- Trials of edits, and what they show.
use Rattle.std.specs.Prelude.{◌≡◌, ◌<◌, ◌≤◌, ◌⊎◌, ℕ, List, [], ◌∷◌, ◌++◌, length, Option, Some, Ok}
use Rattle.dbsource.specs.Answers.{given}
use Rattle.dbsource.specs.Changes.{Change}
use Rattle.dbmend.specs.Deeds.{Deed, looked, tried}
use Rattle.dbmend.specs.declared.count.Count.{Count}

-- a deed is among some
abbrev pub Among : Deed → List Deed → Type 0
Among d [] = ⊥
Among d (e ∷ deeds) = (e ≡ d) ⊎ Among d deeds

-- A run with some changes and one more found this, and its pages are those of a database.
pub record WasTried (before : List Change) (change : Change) (count : Count) (deeds : List Deed) : Type 0 where
  pub run : Among (tried (before ++ change ∷ []) (Ok count)) deeds
  pub size : 512 ≤ count.page_size

-- and fewer faults than there were
pub record IsTrial (before : List Change) (change : Change) (count : Count) (faults : ℕ) (deeds : List Deed) : Type 0 where
  pub tried : WasTried before change count deeds
  pub fewer : count.faults < faults

-- A look at the place of a change gave these bytes, as many as it has.
pub record WasThere (change : Change) (was : List ℕ) (deeds : List Deed) : Type 0 where
  pub look : Among (looked (given change.offset was)) deeds
  pub long : length was ≡ length change.bytes

-- A change after some others: a run with all of them found this, fewer faults than there were before it, and these bytes were there.
pub record IsStep (before : List Change) (faults : ℕ) (change : Change) (was : List ℕ) (count : Count) (deeds : List Deed) : Type 0 where
  pub trial : IsTrial before change count faults deeds
  pub there : WasThere change was deeds

-- The better of two trials is that of before, or the one at hand, which found fewer faults than there were.
abbrev pub IsBetter : {T F : Type 0} → (T → Change) → (T → F) → (F → Count) → Option T → Change → Option F → ℕ → Option T → Type 0
IsBetter {T} {F} edit_of found_of count_of best edit found faults better =
    (better ≡ best) ⊎ ((t : T) × (better ≡ Some t) × (found ≡ Some (found_of t)) × (edit_of t ≡ edit) × ((count_of (found_of t)).faults < faults))
