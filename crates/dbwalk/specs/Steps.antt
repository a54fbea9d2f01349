-- What an undamaged interior page has at a step.
use Rattle.std.specs.Prelude.{◌≡◌, ℕ, ◌<◌, ◌≤◌, List, Option, Some, None, Ok, Err, ℤ, slice_get}
use Rattle.dbformat.specs.Address.{overflow_step, child_step, key_step}
use Rattle.dbformat.specs.Cell.{Cell, cell, count, overflow_size, child_number}
use Rattle.dbformat.specs.Head.{View, undamaged}
use Rattle.dbformat.specs.declared.CellFault.{CellFault}
use Rattle.dbformat.specs.declared.TreeKind.{TreeKind}
use Rattle.dbtrace.specs.Causes.{key_before, left_key}
use Rattle.dbtrace.specs.declared.RowidBounds.{RowidBounds}
use Rattle.dbwalk.specs.declared.steps.Next.{Next}
use Rattle.dbwalk.specs.declared.steps.Next.TheVariants.{End, Nothing, Key, Chain, Child}

-- the overflow chain of cell n: its first page, with the number of payload bytes on overflow pages, and the cell's rowid
pub record IsChainAt (v : View) (s first left : ℕ) (rowid : Option ℤ) : Type 0 where
  pub n : ℕ
  pub step : s ≡ overflow_step n
  pub low : n < count v
  pub x : Cell
  pub read : cell v n ≡ Ok x
  pub page : x.overflow ≡ Some first
  pub rest : left ≡ overflow_size x
  pub key : rowid ≡ x.key

-- the page of child n, and the key of the cell whose left child it is
pub record IsChildAt (v : View) (s page : ℕ) (key : Option ℤ) : Type 0 where
  pub n : ℕ
  pub step : s ≡ child_step n
  pub low : n ≤ count v
  pub number : child_number v n ≡ Some page
  pub left : key ≡ left_key v n

-- the key of cell n
pub record IsKeyAt (v : View) (s : ℕ) (value : ℤ) : Type 0 where
  pub n : ℕ
  pub step : s ≡ key_step n
  pub low : n < count v
  pub x : Cell
  pub read : cell v n ≡ Ok x
  pub key : x.key ≡ Some value

-- no chain, no child, no readable cell, or one without a key
pub data IsEmptyAt (v : View) (s : ℕ) : Type 0 where
  no_chain : (n : ℕ) → s ≡ overflow_step n → n ≤ count v → ((x : Cell) → n < count v → cell v n ≡ Ok x → x.overflow ≡ None) → IsEmptyAt v s
  no_child : (n : ℕ) → s ≡ child_step n → n ≤ count v → child_number v n ≡ None → IsEmptyAt v s
  unreadable : (n : ℕ) (f : CellFault) → s ≡ key_step n → n < count v → cell v n ≡ Err f → IsEmptyAt v s
  without_key : (n : ℕ) (x : Cell) → s ≡ key_step n → n < count v → cell v n ≡ Ok x → x.key ≡ None → IsEmptyAt v s

-- a child, if there is one
abbrev pub child_of : Option ℕ → Option ℤ → Next
child_of None key = Nothing
child_of (Some page) key = Child page key

-- what the page has at the step
abbrev pub IsNextStep : View → ℕ → Next → Type 0
IsNextStep v s End = child_step (count v) < s
IsNextStep v s Nothing = IsEmptyAt v s
IsNextStep v s (Key value) = IsKeyAt v s value
IsNextStep v s (Chain first left rowid) = IsChainAt v s first left rowid
IsNextStep v s (Child page key) = IsChildAt v s page key

-- the same for the page at a level, which has at most 32768 cells
pub record HasNext (usable : ℕ) (kind : TreeKind) (levels : List (List ℕ)) (level page s : ℕ) (next : Next) : Type 0 where
  pub few : (bytes : List ℕ) (v : View) → slice_get levels level ≡ Some bytes → undamaged kind page usable bytes ≡ Some v → count v ≤ 32768
  pub stands : (bytes : List ℕ) (v : View) → slice_get levels level ≡ Some bytes → undamaged kind page usable bytes ≡ Some v → IsNextStep v s next

-- at the steps from one up to another the page has nothing
pub record AreEmpty (usable : ℕ) (kind : TreeKind) (levels : List (List ℕ)) (level page start end : ℕ) : Type 0 where
  pub rise : start ≤ end
  pub empty : (s : ℕ) → start ≤ s → s < end → HasNext usable kind levels level page s Nothing

-- the key of the cell before cell n of the page at a level
pub record HasKeyBefore (usable : ℕ) (kind : TreeKind) (levels : List (List ℕ)) (level page n : ℕ) (key : Option ℤ) : Type 0 where
  pub is : (bytes : List ℕ) (v : View) → slice_get levels level ≡ Some bytes → undamaged kind page usable bytes ≡ Some v → n < count v
      → key ≡ key_before v n

-- the rows left of cell n, which has this key
pub record HasLeft (usable : ℕ) (kind : TreeKind) (levels : List (List ℕ)) (level page n : ℕ) (key : ℤ) (rows : RowidBounds) : Type 0 where
  pub above : HasKeyBefore usable kind levels level page n rows.above
  pub up_to : rows.up_to ≡ Some key
