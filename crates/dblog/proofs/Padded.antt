-- A range of a file, with zeros past its end.
use Rattle.std.proofs.Common.{◌≡◌, ℕ, ◌<◌, ◌≤◌, ◌+◌, ◌-◌, true, false, List, [], ◌∷◌, ◌++◌, length, refl, ap, ◌∙◌, arith, inl, inr}
use Rattle.std.specs.Prelude.{◌⊎◌, min, nat_lt, IfSome, Ok, Err, slice_index}
use Rattle.std.proofs.lemmas.Bool.Decides.{nat_tests}
use Rattle.std.proofs.lemmas.List.{get_or_append_left}
use Rattle.dbformat.specs.Log.{range}
use Rattle.dbsource.specs.Answers.{IsRangeOf, Step, failed, given}
use Rattle.dbsource.specs.Failures.{one_more}
use Rattle.dbsource.specs.Sources.{SourceState}
use Rattle.dbsource.proofs.Told.{if_told, told_all}
use Rattle.dblog.specs.Beside.{ReadsPadded}
use Rattle.dblog.specs.Placed.{padded_byte, padded_ranges}
use Rattle.dblog.proofs.Ranges.{byte_of_range}

-- what is asked for is what the file has of the range
padded_asked : (len offset count n : ℕ) → offset < len → count ≡ min (len - offset) n → range offset count ∷ [] ≡ padded_ranges len (range offset n)
padded_asked len offset count n l e =
    let test : nat_lt offset len ≡ true = grind (arith, nat_tests) in
    rw test (ap (λ m. range offset m ∷ []) e)

-- it could not be read
pub padded_failed : {E : Type 0} {step : Step} (e : E) (len offset count : ℕ) (read buf : List ℕ) (s t : SourceState) → offset < len
    → count ≡ min (len - offset) (length buf) → length read ≡ count
    → t.bytes ≡ s.bytes → step s.trail (failed (range offset (length read))) t.trail → t.failures ≡ one_more s.failures
    → ReadsPadded step len offset (Err e) buf s t
padded_failed e len offset count read buf s t l m n b k f = record {
  told = b;
  log = failed (range offset (length read)) ∷ [];
  leads = (t.trail, k, refl);
  tells = told_all s.bytes (λ file. (tt, tt));
  gives = tt;
  ranges = ap (λ n. range offset n ∷ []) n ∙ padded_asked len offset count (length buf) l m;
  fails = refl;
  count = f;
}

-- it was read
pub padded_given : {E : Type 0} {step : Step} (len offset count : ℕ) (read rest buf : List ℕ) (s t : SourceState) → offset < len
    → count ≡ min (len - offset) (length buf) → length read ≡ count
    → ((k : ℕ) → k < count → slice_index buf k ≡ slice_index (read ++ rest) k) → ((k : ℕ) → count ≤ k → k < length buf → slice_index buf k ≡ 0)
    → t.bytes ≡ s.bytes → step s.trail (given offset read) t.trail → t.failures ≡ s.failures
    → IfSome s.bytes (λ bytes. IsRangeOf bytes offset read)
    → ReadsPadded {E = E} step len offset (Ok (tt {0})) buf s t
padded_given len offset count read rest buf s t l m n kept cleared b k f fits = record {
  told = b;
  log = given offset read ∷ [];
  leads = (t.trail, k, refl);
  tells = if_told s.bytes (λ file r. (r, tt)) fits;
  gives = λ file h i j. by_place file h.0 i j (cases_lt i count);
  ranges = ap (λ n. range offset n ∷ []) n ∙ padded_asked len offset count (length buf) l m;
  fails = tt;
  count = f;
}
  where
    cases_lt : (a b : ℕ) → (a < b) ⊎ (b ≤ a)
    cases_lt a b = grind arith

    by_place : (file : List ℕ) → IsRangeOf file offset read → (i : ℕ) → i < length buf → (i < count) ⊎ (count ≤ i)
        → slice_index buf i ≡ padded_byte len file (offset + i)
    by_place file r i j (inl h) =
        let test : nat_lt (offset + i) len ≡ true = (let q : offset + i < len = omega arith in grind (arith, nat_tests)) in
        rw test (kept i h ∙ get_or_append_left read rest 0 i (omega (arith, n)) ∙ byte_of_range file offset read r i (omega (arith, n)))
    by_place file r i j (inr h) =
        let test : nat_lt (offset + i) len ≡ false = (let q : len ≤ offset + i = omega arith in grind (arith, nat_tests)) in
        rw test (cleared i h j)
