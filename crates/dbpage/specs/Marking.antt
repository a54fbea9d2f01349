-- What the marks of a table say of the items that were marked in it.
use Rattle.std.specs.Prelude.{◌≡◌, ℕ, ◌+◌, ◌-◌, ◌/◌, ◌%◌, ◌<◌, ◌≤◌, ◌⊎◌, Bool, true, false, not, ◌&&◌, List, length, map, count_by, slice_index}
use Rattle.std.specs.Prelude.{nat_lt, nat_le, ◌==◌}
use Rattle.std.specs.Int.{bit_at}
use Rattle.std.specs.List.{range_with_len}
use Rattle.dbformat.specs.Head.{View, content_start}
use Rattle.dbformat.specs.Cell.{cell, count}
use Rattle.dbformat.specs.Coverage.{Span, held_by, is_held, is_overlapping}

-- The mark of a byte is a bit of the table: the marks of eight bytes are in one byte of it, the first in its lowest bit.
abbrev pub mark_bit : List ℕ → ℕ → ℕ
mark_bit table byte = bit_at (slice_index table (byte / 8)) (byte % 8)

-- whether the byte is marked
abbrev pub is_claimed : List ℕ → ℕ → Bool
is_claimed table byte = not (mark_bit table byte == 0)

-- whether the byte is one of these
abbrev pub is_within : ℕ → ℕ → ℕ → Bool
is_within from to byte = nat_le from byte && nat_lt byte to

-- the bytes from one offset up to another were free and are marked now, and no other byte has changed
pub record Marks (old : List ℕ) (from to : ℕ) (new : List ℕ) : Type 0 where
  pub were_free : (byte : ℕ) → from ≤ byte → byte < to → is_claimed old byte ≡ false
  pub are_marked : (byte : ℕ) → from ≤ byte → byte < to → is_claimed new byte ≡ true
  pub others : (byte : ℕ) → is_within from to byte ≡ false → is_claimed new byte ≡ is_claimed old byte

-- one of the bytes is marked
pub record HasMarked (table : List ℕ) (from to : ℕ) : Type 0 where
  pub byte : ℕ
  pub from_on : from ≤ byte
  pub below : byte < to
  pub marked : is_claimed table byte ≡ true

-- one of these bytes of a table is not this one
pub record HasOther (table : List ℕ) (one from to : ℕ) : Type 0 where
  pub place : ℕ
  pub from_on : from ≤ place
  pub below : place < to
  pub other : (slice_index table place == one) ≡ false
  pub fits : slice_index table place < 256

-- how many of the bytes from start up to end no span holds
abbrev pub unheld_by : List Span → ℕ → ℕ → ℕ
unheld_by spans start end = count_by (λ byte. not (is_held spans byte)) (range_with_len start (end - start))

-- no two spans share a byte, and they hold `held` of the bytes from start up to end
pub record ShareNoByte (spans : List Span) (start end held : ℕ) : Type 0 where
  pub apart : (k : ℕ) → k < length spans → is_overlapping spans k ≡ false
  pub counted : held + unheld_by spans start end ≡ end - start

-- the marked bytes of a content area are those that the spans hold, `held` in all, and no two spans share a byte
pub record AreMarked (spans : List Span) (start end : ℕ) (table : List ℕ) (held : ℕ) : Type 0 where
  pub marked : (byte : ℕ) → start ≤ byte → byte < end → is_claimed table byte ≡ is_held spans byte
  pub apart : (k : ℕ) → k < length spans → is_overlapping spans k ≡ false
  pub counted : held + unheld_by spans start end ≡ end - start

-- a span right before or right after some bytes, and all of them together
abbrev pub AreAdjoining : ℕ → ℕ → ℕ → ℕ → ℕ → ℕ → Type 0
AreAdjoining from to offset len first last =
    ((offset + len ≡ from) × (first ≡ offset) × (last ≡ to)) ⊎ ((offset ≡ to) × (first ≡ from) × (last ≡ offset + len))

-- what the first n cells hold
abbrev pub cells_upto : View → ℕ → List Span
cells_upto v n = map (λ i. held_by v i (cell v i)) (range_with_len 0 n)

-- what all cells hold
abbrev pub cell_spans : View → List Span
cell_spans v = cells_upto v (count v)

-- cell i is readable, and holds these bytes of the content area
pub record Holds (v : View) (i offset len : ℕ) : Type 0 where
  pub held : held_by v i (cell v i) ≡ record { offset = offset; len = len }
  pub from_start : content_start v.number v.bytes ≤ offset
  pub ends : offset + len ≤ v.usable

-- cell i is not readable
abbrev pub HoldsNothing : View → ℕ → Type 0
HoldsNothing v i = (held_by v i (cell v i)).len ≡ 0
