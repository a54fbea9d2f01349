-- A table of notes says where items end, by where they begin.
use Rattle.std.specs.Prelude.{◌≡◌, ℕ, zero, suc, ◌+◌, ◌-◌, ◌*◌, ◌/◌, ◌%◌, ◌<◌, ◌≤◌, true, false, ◌&&◌, ◌==◌, List, length, slice_index, nat_le, if◌then◌else◌}
use Rattle.dbformat.specs.Head.{View, content_start}
use Rattle.dbformat.specs.Cell.{count}
use Rattle.dbformat.specs.Coverage.{Span, is_held, is_overlapping}
use Rattle.dbpage.specs.Marking.{ShareNoByte, cells_upto}
use Rattle.dbpage.specs.Packed.{AddUpTo}
use Rattle.dbpage.specs.declared.common_cells.MarkedCells.{MarkedCells}

-- what is noted for four bytes: the length of the item that begins in them, and in which of them
abbrev pub note_of : List ℕ → ℕ → ℕ
note_of table group = slice_index table (2 * group) + 256 * slice_index table (2 * group + 1)

-- where the item ends that begins at an offset of a content area, or 0
abbrev pub end_at : List ℕ → ℕ → ℕ → ℕ → ℕ
end_at table start end at = let note = note_of table ((at - start) / 4) in
    if nat_le start at && nat_le ((at - start) / 4) ((end - start) / 4) && nat_le 4 note && (note % 4 == (at - start) % 4) then at + note / 4 else 0

-- how many bytes the items hold that begin before n
abbrev pub bytes_below : (ℕ → ℕ) → ℕ → ℕ
bytes_below ends zero = 0
bytes_below ends (suc n) = bytes_below ends n + (ends n - n)

-- of the items that begin before n, each ends before the next begins
abbrev pub Rise : (ℕ → ℕ) → ℕ → Type 0
Rise ends n = (a b : ℕ) → a < b → b < n → 0 < ends a → 0 < ends b → ends a ≤ b

-- an item is noted, where none was
pub record Notes (old new : ℕ → ℕ) (at end : ℕ) : Type 0 where
  pub was_free : old at ≡ 0
  pub is_noted : new at ≡ end
  pub others : (a : ℕ) → (a ≡ at → ⊥) → new a ≡ old a

-- an item begins fewer than four bytes away
pub record HasNear (ends : ℕ → ℕ) (at : ℕ) : Type 0 where
  pub place : ℕ
  pub from_on : place < at + 4
  pub below : at < place + 4
  pub some : 0 < ends place

-- an item holds a byte
pub record Covers (ends : ℕ → ℕ) (byte : ℕ) : Type 0 where
  pub place : ℕ
  pub from_on : place ≤ byte
  pub below : byte < ends place

-- no two spans share a byte
abbrev pub AreApart : List Span → Type 0
AreApart spans = (k : ℕ) → k < length spans → is_overlapping spans k ≡ false

-- each item holds four bytes of the content area
abbrev pub AreInside : (ℕ → ℕ) → ℕ → ℕ → Type 0
AreInside ends start end = (a : ℕ) → 0 < ends a → (start ≤ a) × (a + 4 ≤ ends a) × (ends a ≤ end)

-- these spans are noted, which hold `held` bytes of a content area if no two share one
pub record AreNoted (spans : List Span) (start end : ℕ) (ends : ℕ → ℕ) (held : ℕ) : Type 0 where
  pub inside : AreInside ends start end
  pub covers : (byte : ℕ) → start ≤ byte → byte < end → is_held spans byte ≡ true → Covers ends byte
  pub held_by : (a byte : ℕ) → a ≤ byte → byte < ends a → is_held spans byte ≡ true
  pub rising : AreApart spans → Rise ends end
  pub apart : Rise ends end → ShareNoByte spans start end held
  pub counted : bytes_below ends end ≡ held

-- a walk came to an offset, and met items of `seen` bytes
pub record Walked (ends : ℕ → ℕ) (end at seen : ℕ) : Type 0 where
  pub few : seen ≤ bytes_below ends at
  pub past : seen ≡ bytes_below ends at → (a : ℕ) → a < at → 0 < ends a → ends a ≤ at
  pub rising : seen ≡ bytes_below ends at → Rise ends at
  pub all : Rise ends end → seen ≡ bytes_below ends at

-- the same of the spans of a page
abbrev pub AreNotedIn : View → List Span → List ℕ → ℕ → Type 0
AreNotedIn v spans table held = AreNoted spans (content_start v.number v.bytes) v.usable (end_at table (content_start v.number v.bytes) v.usable) held

-- These are the first cells, their sums, and how many bytes they hold, which are noted.
pub record HaveNotes (v : View) (table : List ℕ) (m : MarkedCells) : Type 0 where
  pub few : m.cells ≤ count v
  pub read : AddUpTo v m.cells m.sums
  pub noted : AreNotedIn v (cells_upto v m.cells) table m.held
  pub small : m.held ≤ m.cells * 16384
