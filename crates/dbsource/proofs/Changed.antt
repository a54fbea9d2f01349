-- Bytes with those of changes in their places.
use Rattle.std.proofs.Common.{◌≡◌, ℕ, ◌+◌, ◌-◌, ◌<◌, ◌≤◌, Bool, true, false, cond, List, [], ◌∷◌, ◌++◌, length, take, drop, refl, sym, suc, ap, ap₂, subst, ◌∙◌}
use Rattle.std.proofs.Common.{arith, rules, slice_index, inl, inr, length-append, zero, Option, Some, None, ◌^◌, ◌||◌}
use Rattle.std.specs.Prelude.{All, IfSome, min, nat_lt, ◌⊎◌, option_map}
use Rattle.std.specs.List.{list_any}
use Rattle.std.proofs.Math.ListN.{drop_of_length-le}
use Rattle.std.proofs.lemmas.Bool.{cases_Bool}
use Rattle.std.proofs.lemmas.Bool.Decides.{nat_tests}
use Rattle.std.proofs.lemmas.List.{take-append-drop, length-take, length-drop, drop-drop, drop_more}
use Rattle.std.proofs.lemmas.List.Elements.{All-cons, All-head, All-nil, All-push, All-tail}
use Rattle.std.proofs.lemmas.List.Quantifiers.{all_pairs_push}
use Rattle.dbsource.specs.Answers.{IsRangeOf}
use Rattle.dbsource.specs.Changes.{AreChanges, Change, IsChange, byte_with, changed_from, has_byte, overlaps, patched, with_change}
use Rattle.dbsource.specs.Sources.{AreBytes}

-- ---- one change

with_length : (c : Change) (place : ℕ) (xs : List ℕ) → length (with_change place xs c) ≡ length xs
with_length c place [] = refl
with_length c place (x ∷ xs) = ap suc (with_length c (place + 1) xs)

with_append : (c : Change) (place : ℕ) (xs ys : List ℕ) → with_change place (xs ++ ys) c ≡ with_change place xs c ++ with_change (place + length xs) ys c
with_append c place [] ys = let z : place ≡ place + 0 = omega arith in ap (λ n. with_change n ys c) z
with_append c place (x ∷ xs) ys =
    let next : place + 1 + length xs ≡ place + suc (length xs) = omega arith in
    ap (λ l. byte_with c place x ∷ l) (with_append c (place + 1) xs ys ∙ ap (λ n. with_change (place + 1) xs c ++ with_change n ys c) next)

-- bytes before its first one stay
with_before : (c : Change) (place : ℕ) (xs : List ℕ) → place + length xs ≤ c.offset → with_change place xs c ≡ xs
with_before c place [] h = refl
with_before c place (x ∷ xs) h =
    let l : place < c.offset = omega arith in
    let away : has_byte c place ≡ false = grind (arith, nat_tests) in
    rw away (ap (λ l. x ∷ l) (with_before c (place + 1) xs (omega arith)))

-- and so do bytes after its last one
with_after : (c : Change) (place : ℕ) (xs : List ℕ) → c.offset + length c.bytes ≤ place → with_change place xs c ≡ xs
with_after c place [] h = refl
with_after c place (x ∷ xs) h =
    let away : has_byte c place ≡ false = grind (arith, nat_tests) in
    rw away (ap (λ l. x ∷ l) (with_after c (place + 1) xs (omega arith)))

-- between these they are its own
with_own : (c : Change) (place from : ℕ) (xs : List ℕ) → place ≡ c.offset + from → from + length xs ≤ length c.bytes
    → with_change place xs c ≡ take (length xs) (drop from c.bytes)
with_own c place from [] e h = refl
with_own c place from (x ∷ xs) e h =
    let l : from < length c.bytes = omega arith in
    let here : has_byte c place ≡ true = grind (arith, nat_tests) in
    let k : place - c.offset ≡ from = omega arith in
    rw here (ap₂ (λ n l. slice_index c.bytes n ∷ l) k (with_own c (place + 1) (from + 1) xs (omega arith) (omega arith))
    ∙ ap (take (suc (length xs))) (sym (drop_more c.bytes from 0 l)))

-- nothing of it is there
pub put_none : (c : Change) (place skipped passed : ℕ) (buf : List ℕ) → skipped ≡ c.offset - place → passed ≡ place - c.offset
    → (length buf ≤ skipped) ⊎ (length c.bytes ≤ passed) → 1 ≤ length c.bytes → buf ≡ with_change place buf c
put_none c place skipped passed [] s p h some = refl
put_none c place skipped passed (x ∷ xs) s p (inl h) some = sym (with_before c place (x ∷ xs) (omega arith))
put_none c place skipped passed (x ∷ xs) s p (inr h) some = sym (with_after c place (x ∷ xs) (omega arith))

-- or a copy of what it has of the range
pub put_parts : (c : Change) (place skipped passed count size : ℕ) (buf piece : List ℕ) → skipped ≡ c.offset - place → passed ≡ place - c.offset
    → skipped < length buf → passed < length c.bytes → count ≡ min (length c.bytes - passed) (length buf - skipped)
    → piece ≡ take count (drop passed c.bytes) → size ≡ count
    → take skipped buf ++ (piece ++ drop size (drop skipped buf)) ≡ with_change place buf c
put_parts c place skipped passed count size buf piece s p in_buf in_bytes n e same =
    let fore = take skipped buf in
    let own = take count (drop skipped buf) in
    let rest = drop count (drop skipped buf) in
    let fore_length : length fore ≡ skipped = simp length-take (omega arith) in
    let own_length : length own ≡ count = simp (length-take, length-drop) (omega arith) in
    let parts : fore ++ (own ++ rest) ≡ buf =
    ap (λ l. fore ++ l) (take-append-drop count (drop skipped buf)) ∙ take-append-drop skipped buf in
    let mid : with_change (place + skipped) own c ≡ piece = with_own c (place + skipped) passed own (omega arith) (omega arith)
    ∙ ap (λ n. take n (drop passed c.bytes)) own_length ∙ sym e in
    sym (ap (λ l. with_change place l c) (sym parts) ∙ with_append c place fore (own ++ rest)
    ∙ ap₂ (λ a n. a ++ with_change (place + n) (own ++ rest) c) (by_order (cases_Bool (nat_lt c.offset place))) fore_length
    ∙ ap (λ l. fore ++ l) (with_append c (place + skipped) own rest ∙ ap₂ (λ a n. a ++ with_change (place + skipped + n) rest c) mid own_length)
    ∙ ap (λ l. fore ++ (piece ++ l)) (by_rest (cases_Bool (nat_lt (skipped + count) (length buf))))
    ∙ ap (λ n. fore ++ (piece ++ drop n (drop skipped buf))) (sym same))
  where
    by_order : (nat_lt c.offset place ≡ true) ⊎ (nat_lt c.offset place ≡ false) → with_change place (take skipped buf) c ≡ take skipped buf
    by_order (inl h) =
        let l : c.offset < place = grind (arith, nat_tests) in
        let z : skipped ≡ 0 = omega arith in
        ap (λ n. with_change place (take n buf) c) z ∙ ap (λ n. take n buf) (sym z)
    by_order (inr h) =
        let l : place ≤ c.offset = grind (arith, nat_tests) in
        with_before c place (take skipped buf) (simp length-take (omega arith))

    by_rest : (nat_lt (skipped + count) (length buf) ≡ true) ⊎ (nat_lt (skipped + count) (length buf) ≡ false)
        → with_change (place + skipped + count) (drop count (drop skipped buf)) c ≡ drop count (drop skipped buf)
    by_rest (inl h) =
        let l : skipped + count < length buf = grind (arith, nat_tests) in
        with_after c (place + skipped + count) (drop count (drop skipped buf)) (omega arith)
    by_rest (inr h) =
        let l : length buf ≤ skipped + count = grind (arith, nat_tests) in
        let z : drop count (drop skipped buf) ≡ [] = drop-drop count skipped buf ∙ drop_of_length-le buf {i = skipped + count} l in
        ap (λ l. with_change (place + skipped + count) l c) z ∙ sym z

-- ---- all changes

pub changed_length : (changes : List Change) (place : ℕ) (xs : List ℕ) → length (changed_from changes place xs) ≡ length xs
changed_length [] place xs = refl
changed_length (c ∷ changes) place xs = changed_length changes place (with_change place xs c) ∙ with_length c place xs

with_take : (c : Change) (n place : ℕ) (xs : List ℕ) → take n (with_change place xs c) ≡ with_change place (take n xs) c
with_take c zero place xs = refl
with_take c (suc n) place [] = refl
with_take c (suc n) place (x ∷ xs) = ap (λ l. byte_with c place x ∷ l) (with_take c n (place + 1) xs)

with_drop : (c : Change) (n place : ℕ) (xs : List ℕ) → drop n (with_change place xs c) ≡ with_change (place + n) (drop n xs) c
with_drop c zero place xs = let z : place ≡ place + 0 = omega arith in ap (λ p. with_change p xs c) z
with_drop c (suc n) place [] = refl
with_drop c (suc n) place (x ∷ xs) =
    let next : place + 1 + n ≡ place + suc n = omega arith in
    with_drop c n (place + 1) xs ∙ ap (λ p. with_change p (drop n xs) c) next

pub changed_take : (changes : List Change) (n place : ℕ) (xs : List ℕ) → take n (changed_from changes place xs) ≡ changed_from changes place (take n xs)
changed_take [] n place xs = refl
changed_take (c ∷ changes) n place xs = changed_take changes n place (with_change place xs c) ∙ ap (changed_from changes place) (with_take c n place xs)

pub changed_drop : (changes : List Change) (n place : ℕ) (xs : List ℕ) → drop n (changed_from changes place xs) ≡ changed_from changes (place + n) (drop n xs)
changed_drop [] n place xs = refl
changed_drop (c ∷ changes) n place xs =
    changed_drop changes n place (with_change place xs c) ∙ ap (changed_from changes (place + n)) (with_drop c n place xs)

pub changed_append : (changes : List Change) (place : ℕ) (xs ys : List ℕ)
    → changed_from changes place (xs ++ ys) ≡ changed_from changes place xs ++ changed_from changes (place + length xs) ys
changed_append [] place xs ys = refl
changed_append (c ∷ changes) place xs ys =
    ap (changed_from changes place) (with_append c place xs ys) ∙ changed_append changes place (with_change place xs c) (with_change (place + length xs) ys c)
    ∙ ap (λ n. changed_from changes place (with_change place xs c) ++ changed_from changes (place + n) (with_change (place + length xs) ys c))
    (with_length c place xs)

-- a range of the file, with the changes, is one of the changed file
pub changed_range : (changes : List Change) (file : List ℕ) (offset : ℕ) (piece : List ℕ) → IsRangeOf file offset piece
    → IsRangeOf (patched changes file) offset (changed_from changes offset piece)
changed_range changes file offset piece (fits, is) =
    let size = changed_length changes offset piece in
    let from : 0 + offset ≡ offset = omega arith in (
      omega (arith, fits, size, changed_length changes 0 file),
      ap (changed_from changes offset) is ∙ sym (changed_take changes (length piece) offset (drop offset file))
          ∙ ap (λ p. take (length piece) (changed_from changes p (drop offset file))) (sym from)
          ∙ ap (take (length piece)) (sym (changed_drop changes offset 0 file)) ∙ ap (λ n. take n (drop offset (patched changes file))) (sym size),
    )

-- told bytes with the changes
pub told_changed : (f : List ℕ → List ℕ) (P Q : List ℕ → Type 0) (o : Option (List ℕ)) → ((file : List ℕ) → P file → Q (f file)) → IfSome o P
    → IfSome (option_map f o) Q
told_changed f P Q None h k = tt
told_changed f P Q (Some file) h k = h file k

-- ---- each byte is one

with_below : (c : Change) (place : ℕ) (xs : List ℕ) → IsChange c → ((k : ℕ) → slice_index xs k < 256) → (k : ℕ)
    → slice_index (with_change place xs c) k < 256
with_below c place [] is h k = h k
with_below c place (x ∷ xs) is h zero = by_test (has_byte c place)
  where
    by_test : (b : Bool) → cond b (slice_index c.bytes (place - c.offset)) x < 256
    by_test true = is.bytes (place - c.offset)
    by_test false = h 0
with_below c place (x ∷ xs) is h (suc k) = with_below c (place + 1) xs is (λ k. h (suc k)) k

changed_below : (changes : List Change) (place : ℕ) (xs : List ℕ) → All IsChange changes → ((k : ℕ) → slice_index xs k < 256) → (k : ℕ)
    → slice_index (changed_from changes place xs) k < 256
changed_below [] place xs are h k = h k
changed_below (c ∷ changes) place xs are h k =
    changed_below changes place (with_change place xs c) (All-tail IsChange c changes are) (with_below c place xs (All-head IsChange c changes are) h) k

pub changed_bytes : (changes : List Change) (file : List ℕ) → AreChanges changes → AreBytes file → AreBytes (patched changes file)
changed_bytes changes file are (size, below) = (
  subst (λ n. n < 2 ^ 64) (sym (changed_length changes 0 file)) size,
  changed_below changes 0 file are.each below,
)

-- ---- one more

overlaps_either : (c d : Change) → overlaps c d ≡ false → overlaps d c ≡ false
overlaps_either c d h = search (rules, nat_tests)

none_overlaps : (changes : List Change) (c : Change) → list_any (overlaps c) changes ≡ false → All (λ d. overlaps d c ≡ false) changes
none_overlaps [] c none = All-nil _
none_overlaps (d ∷ changes) c none = by_first (overlaps c d) refl none (none_overlaps changes c)
  where
    by_first : (b : Bool) → b ≡ overlaps c d → (b || list_any (overlaps c) changes) ≡ false
        → (list_any (overlaps c) changes ≡ false → All (λ d. overlaps d c ≡ false) changes) → All (λ d. overlaps d c ≡ false) (d ∷ changes)
    by_first true e none rest = absurd cc
    by_first false e none rest = All-cons (λ d. overlaps d c ≡ false) d changes (overlaps_either c d (sym e)) (rest none)

pub changes_one_more : (changes : List Change) (c : Change) → AreChanges changes → IsChange c → length changes < 16
    → list_any (overlaps c) changes ≡ false → AreChanges (changes ++ c ∷ [])
changes_one_more changes c are is room none = record {
  few = simp length-append (omega arith);
  each = All-push IsChange changes c are.each is;
  apart = all_pairs_push (λ c d. overlaps c d ≡ false) changes c are.apart (none_overlaps changes c none);
}
