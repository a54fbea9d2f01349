-- What is read of a leaf: its cells; its keys, if the cells have nothing else to look at; and the greatest key so far.
use Rattle.std.specs.Prelude.{◌≡◌, ℕ, zero, suc, ◌+◌, ◌-◌, ◌<◌, ◌≤◌, List, Option, Some, None, ℤ, Bool, false, int_lt, int_le}
use Rattle.std.specs.Prelude.{if◌then◌else◌, ◌==◌, not, pos, true, [], ◌∷◌, IfSome, option_map, option_and_then}
use Rattle.std.specs.Option.{option_or, option_map_or}
use Rattle.dbformat.specs.Head.{View}
use Rattle.dbformat.specs.Cell.{count, cell, overflow_size}
use Rattle.dbpage.specs.Packed.{HasRisingKeys, IsAboveLast, IsAllLocal, key_at}
use Rattle.dbwalk.specs.declared.state.KeySpan.{KeySpan}
use Rattle.dbsurvey.specs.Address.{IsIn, Address, IsBefore}
use Rattle.dbformat.specs.Reference.{Reference, Way, first_overflow, link}
use Rattle.std.specs.Result.{result_ok}
use Rattle.dbformat.specs.Payload.{most_payload}
use Rattle.dbsurvey.specs.Story.{Errand}
use Rattle.dbformat.specs.Address.{overflow_step}
use Rattle.dbformat.specs.Errands.{go}
use Rattle.dbformat.specs.Faults.{fault}
use Rattle.dbformat.specs.Story.{Event}
use Rattle.dbformat.specs.Tests.{reported_if}
use Rattle.dbtrace.specs.Causes.{leaf_cause}
use Rattle.dbtrace.specs.Finding.{Finding, reported_fault}
use Rattle.dbtrace.specs.Progress.{key_value, greater_key, depth_of}
use Rattle.dbtrace.specs.declared.CellKey.{CellKey}
use Rattle.dbtrace.specs.declared.RowidBounds.{RowidBounds}
use Rattle.dbtrace.specs.declared.TreeLeaf.{TreeLeaf}
use Rattle.dbtrace.specs.declared.Cause.{Cause}
use Rattle.dbtrace.specs.declared.Cause.TheVariants as cause
use Rattle.dbformat.specs.declared.FaultCode.TheVariants.{T05, T06}

-- the cells of a page are readable and have no overflow pages, and their keys rise from the first to the last
pub record HasSpan (v : View) (keys : KeySpan) : Type 0 where
  pub whole : (i : ℕ) → i < count v → IsAllLocal v i
  pub rising : HasRisingKeys v (count v)
  pub first_is : 0 < count v → key_at v 0 ≡ keys.first
  pub last_is : (i : ℕ) → i + 1 ≡ count v → key_at v i ≡ keys.last
  pub none : count v ≡ 0 → keys.last ≡ None
  pub cells_are : keys.cells ≡ count v

-- a key of a cell, if it has one, with its place
abbrev pub placed : ℕ → ℕ → Option ℤ → Option CellKey
placed page item key = option_map (λ value. record { page = page; item = item; value = value }) key

-- In a tree that is not the schema's, the keys of such a leaf come after the greatest so far, and the last of them is the
-- greatest then.
pub record ArePassed (page start : ℕ) (greatest : Option CellKey) (keys : KeySpan) (after : Option CellKey) : Type 0 where
  pub other : 1 ≤ start
  pub above : IsAboveLast (key_value greatest) keys.first
  pub after_is : after ≡ option_or (placed page (keys.cells - 1) keys.last) greatest

-- This many cells from one on are readable and have no overflow pages, and their keys rise from above the greatest before them.
-- The greatest after them is the last of these keys, if there is one.
abbrev pub AreRisingFrom : ℕ → View → ℕ → ℕ → Option CellKey → Option CellKey → Type 0
AreRisingFrom page v from zero greatest after = after ≡ greatest
AreRisingFrom page v from (suc n) greatest after = (before : Option CellKey) × AreRisingFrom page v from n greatest before × IsAllLocal v (from + n)
    × IsAboveLast (key_value before) (key_at v (from + n)) × (after ≡ option_or (placed page (from + n) (key_at v (from + n))) before)

-- The greatest key of a walk so far, and visits before a place.

-- all visits so far are before the place
abbrev pub AreBefore : List Reference → Address → Type 0
AreBefore W p = (u : Reference) → IsIn u W → IsBefore u.address p

-- whether a key is out of order after keys of which this is the greatest
abbrev pub is_late : Bool → Option ℤ → ℤ → Bool
is_late is_rowid None value = false
is_late is_rowid (Some top) value = if is_rowid then int_le value top else int_lt value top

-- the first overflow page of cell i of a page, with the number of payload bytes on overflow pages, and its key
pub record HasCell (v : View) (i : ℕ) (overflow : Option (ℕ × ℕ)) (key : Option ℤ) : Type 0 where
  pub most : IfSome overflow (λ o. o.1 ≤ most_payload)
  pub chain : overflow ≡ option_and_then (λ c. option_map (λ p. (p, overflow_size c)) c.overflow) (result_ok (cell v i))
  pub key_is : key ≡ option_and_then (λ c. c.key) (result_ok (cell v i))

-- what a cell's first overflow page, with the number of payload bytes on overflow pages, leads to
abbrev pub overflow_errands : Reference → ℕ → Option (ℕ × ℕ) → List (Errand Way Event)
overflow_errands c i None = []
overflow_errands c i (Some o) = go c (link c.page (overflow_step i) i (first_overflow o.1) o.0) ∷ []

-- the cause of a key out of order: the greatest key so far, with the rows of its left child
abbrev pub key_cause : Option RowidBounds → Option CellKey → Cause
key_cause left top = option_map_or (λ k. cause.Key k left) top cause.Itself

-- the fault of a key, or of a rowid, after keys of which this is the greatest, with its cause
abbrev pub order_reported : Bool → Option RowidBounds → Option CellKey → ℕ → ℕ → ℤ → List Finding
order_reported is_rowid left top page item key = reported_if (is_late is_rowid (key_value top) key)
    (reported_fault (fault T06 page item key) (key_cause left top))

-- that of the rowid of a cell, if it has one
abbrev pub late_reported : Option CellKey → ℕ → ℕ → Option ℤ → List Finding
late_reported top page item None = []
late_reported top page item (Some key) = order_reported true None top page item key

-- the first leaf of a tree, after a leaf with these rowids, this page and this depth
abbrev pub first_of : RowidBounds → Option TreeLeaf → ℕ → ℕ → TreeLeaf
first_of rowids leaf page depth = option_map_or (λ l. l) leaf (record { page = page; depth = depth; rowids = rowids })

-- the fault of a leaf whose depth differs from that of the first leaf, with its cause
abbrev pub depth_reported : RowidBounds → Option TreeLeaf → ℕ → ℕ → List Finding
depth_reported rowids leaf page depth =
    reported_if (not (depth == depth_of leaf depth)) (reported_fault (fault T05 page 0 (pos depth)) (leaf_cause rowids leaf))

-- the greatest key after that of a cell
abbrev pub top_after : Option CellKey → ℕ → ℕ → Option ℤ → Option CellKey
top_after top page item None = top
top_after top page item (Some key) = greater_key top (record { page = page; item = item; value = key })
