-- Ranges of bytes, byte by byte.
use Rattle.std.proofs.Common.{◌≡◌, ℕ, ◌<◌, ◌≤◌, ◌+◌, ◌*◌, ◌/◌, ◌%◌, List, length, take, drop, get_or, sym, ap, ◌∙◌, arith}
use Rattle.std.specs.Prelude.{slice_index}
use Rattle.std.proofs.Math.Nat.{div-add-mod}
use Rattle.std.proofs.lemmas.Grind.{same_number_lists}
use Rattle.std.proofs.lemmas.List.{get_or-drop, get_or-take, length-drop, length-take}
use Rattle.std.proofs.lemmas.List.FromFn.{get_or-map-range_with_len, length-map-range_with_len}
use Rattle.std.proofs.lemmas.Nat.{div-mul-add}
use Rattle.dbsource.specs.Answers.{IsRangeOf}
use Rattle.dblog.specs.Placed.{Placed, byte_through, placed_len, through}

-- a range is that of a file if its bytes are
pub range_by_bytes : (file : List ℕ) (at : ℕ) (piece : List ℕ) → at + length piece ≤ length file
    → ((k : ℕ) → k < length piece → slice_index piece k ≡ slice_index file (at + k)) → IsRangeOf file at piece
range_by_bytes file at piece l h = (
  l,
  same_number_lists piece (take (length piece) (drop at file)) (sym (by_length)) (λ k m. h k m ∙ sym (get_or-take (length piece) (drop at file) k 0 m
      ∙ get_or-drop at file k 0)),
)
  where
    by_length : length (take (length piece) (drop at file)) ≡ length piece
    by_length = length-take (length piece) (drop at file) ∙ omega (arith, length-drop at file)

-- and its bytes are those of the file
pub byte_of_range : (file : List ℕ) (at : ℕ) (piece : List ℕ) → IsRangeOf file at piece → (k : ℕ) → k < length piece
    → slice_index piece k ≡ slice_index file (at + k)
byte_of_range file at piece (l, e) k m =
    ap (λ xs. get_or xs k 0) e ∙ get_or-take (length piece) (drop at file) k 0 m ∙ get_or-drop at file k 0

-- ---- places in a page

-- a place, and one after it in the same page
pub same_page : (size at k : ℕ) → 0 < size → at % size + k < size → (at + k) / size ≡ at / size
same_page size at k some l =
    let e : at + k ≡ at / size * size + (at % size + k) = omega (arith, div-add-mod at size) in
    ap (λ n. n / size) e ∙ div-mul-add (at / size) size (at % size + k) l

pub page_place : (size at k : ℕ) → 0 < size → at % size + k < size → (at + k) % size ≡ at % size + k
page_place size at k some l =
    let e = same_page size at k some l in
    let a : size * ((at + k) / size) + (at + k) % size ≡ at + k = div-add-mod (at + k) size in
    let b : size * (at / size) + at % size ≡ at = div-add-mod at size in
    let c : size * ((at + k) / size) ≡ size * (at / size) = ap (λ n. size * n) e in
    omega (arith, a, b, c)

-- ---- the database

pub through_length : (p : Placed) (base log : List ℕ) → length (through p base log) ≡ placed_len p
through_length p base log = length-map-range_with_len (byte_through p base log) 0 (placed_len p)

pub through_byte : (p : Placed) (base log : List ℕ) (i : ℕ) → i < placed_len p → slice_index (through p base log) i ≡ byte_through p base log i
through_byte p base log i l = get_or-map-range_with_len (byte_through p base log) 0 (placed_len p) i i 0 l (omega arith)
