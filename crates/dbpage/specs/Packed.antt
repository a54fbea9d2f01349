-- Packed pages: those whose cells need only one reading.
use Rattle.std.specs.Prelude.{◌≡◌, ℕ, ◌+◌, ◌*◌, ◌<◌, ◌≤◌, true, List, length, map, max, fold, filter_map, Option, Some, None, is_some}
use Rattle.std.specs.Prelude.{option_and_then, option_map, Ok, IsOk, ℤ, ◌<ℤ◌, sum_by, MatchBool}
use Rattle.std.specs.List.{range_with_len}
use Rattle.std.specs.Result.{result_ok}
use Rattle.dbformat.specs.Head.{View}
use Rattle.dbformat.specs.Cell.{Cell, cell, cells, count}
use Rattle.dbformat.specs.Coverage.{coverage}
use Rattle.dbformat.specs.declared.Coverage.TheVariants.{Unheld}
use Rattle.dbpage.specs.declared.packed.CellSums.{CellSums}
use Rattle.dbpage.specs.declared.packed.Packed.{Packed}

-- the readable cells of the first n, each with its number
abbrev pub first_cells : View → ℕ → List (ℕ × Cell)
first_cells v n = filter_map (λ i. option_map (λ c. (i, c)) (result_ok (cell v i))) (range_with_len 0 n)

-- how many bytes of payloads are in these cells
abbrev pub payload_of : List (ℕ × Cell) → ℕ
payload_of cells = sum_by (λ (i, c). length c.local) cells

-- the bytes of the greatest of their payloads
abbrev pub greatest_of : List (ℕ × Cell) → ℕ
greatest_of cells = fold max 0 (map (λ (i, c). c.size) cells)

-- cell i is readable, and has no overflow page
pub record IsAllLocal (v : View) (i : ℕ) : Type 0 where
  pub whole : Cell
  pub readable : cell v i ≡ Ok whole
  pub here : whole.overflow ≡ None

-- one of the first n cells is readable, and has an overflow page
pub record HasOverflow (v : View) (n : ℕ) : Type 0 where
  pub place : ℕ
  pub within : place < n
  pub found : Cell
  pub readable : cell v place ≡ Ok found
  pub some : is_some found.overflow ≡ true

-- the key of cell i, where it is readable and has one
abbrev pub key_at : View → ℕ → Option ℤ
key_at v i = option_and_then (λ c. c.key) (result_ok (cell v i))

-- the keys of the first n cells rise
abbrev pub HasRisingKeys : View → ℕ → Type 0
HasRisingKeys v n = (i : ℕ) (a b : ℤ) → i + 1 < n → key_at v i ≡ Some a → key_at v (i + 1) ≡ Some b → a <ℤ b

-- a key is greater than the last, or one of them is missing
abbrev pub IsAboveLast : Option ℤ → Option ℤ → Type 0
IsAboveLast last key = (a b : ℤ) → last ≡ Some a → key ≡ Some b → a <ℤ b

-- the first n cells are readable, and their keys rise; these are their sums, with the key of the first cell of the page
pub record AddUpTo (v : View) (n : ℕ) (sums : CellSums) : Type 0 where
  pub readable : (i : ℕ) → i < n → IsOk (cell v i)
  pub rising : HasRisingKeys v n
  pub first_is : 0 < count v → key_at v 0 ≡ sums.first
  pub last_is : (i : ℕ) → i + 1 ≡ n → key_at v i ≡ sums.last
  pub empty : count v ≡ 0 → sums.first ≡ None
  pub unread : n ≡ 0 → sums.last ≡ None
  pub payload_is : sums.payload ≡ payload_of (first_cells v n)
  pub greatest_is : sums.greatest ≡ greatest_of (first_cells v n)
  pub overflow_is : MatchBool sums.has_overflow (HasOverflow v n) ((i : ℕ) → i < n → IsAllLocal v i)
  pub few : sums.payload ≤ n * 65536

-- all cells are readable, with rising keys, and no two items share a byte; these are the sums of the cells, and how many bytes are unheld
pub record IsPacked (v : View) (p : Packed) : Type 0 where
  pub read : AddUpTo v (count v) p.sums
  pub payload_is : p.sums.payload ≡ payload_of (cells v)
  pub greatest_is : p.sums.greatest ≡ greatest_of (cells v)
  pub coverage_is : coverage v ≡ Unheld p.unheld

-- no numbers are such: a cell is not readable, or keys do not rise, or two items share a byte
abbrev pub IsUnpacked : View → Type 0
IsUnpacked v = (p : Packed) → IsPacked v p → ⊥
