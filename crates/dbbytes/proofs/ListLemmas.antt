-- Lists that come in two parts.
use Rattle.std.proofs.Common.{◌≡◌, ℕ, zero, suc, ◌+◌, ◌-◌, ◌<◌, List, [], ◌∷◌, ◌++◌, length, take, drop, min, refl, sym, ap, ◌∙◌, arith, append_assoc}
use Rattle.std.proofs.Common.{length-set, set}
use Rattle.std.proofs.lemmas.Grind.{common_steps}
use Rattle.std.proofs.lemmas.List.{length-drop, take_min, take_all}

-- the first n of two parts
pub take-append : (n : ℕ) (xs ys : List ℕ) → take n (xs ++ ys) ≡ take n xs ++ take (n - length xs) ys
take-append n [] ys = grind (arith, common_steps)
take-append zero (x ∷ xs) ys = let e : 0 - length (x ∷ xs) ≡ 0 = omega arith in rw e refl
take-append (suc n) (x ∷ xs) ys = let e : suc n - suc (length xs) ≡ n - length xs = omega arith in rw e (ap (λ w. x ∷ w) (take-append n xs ys))

-- what is left of two parts after the first n
pub drop-append : (n : ℕ) (xs ys : List ℕ) → drop n (xs ++ ys) ≡ drop n xs ++ drop (n - length xs) ys
drop-append n [] ys = grind (arith, common_steps)
drop-append zero (x ∷ xs) ys = let e : 0 - length (x ∷ xs) ≡ 0 = omega arith in rw e refl
drop-append (suc n) (x ∷ xs) ys = let e : suc n - suc (length xs) ≡ n - length xs = omega arith in rw e (drop-append n xs ys)

dropped : (n m : ℕ) (xs : List ℕ) → m ≡ min n (length xs) → drop m xs ≡ drop n xs
dropped n m [] e = grind (arith, common_steps)
dropped zero m (x ∷ xs) e = let z : m ≡ 0 = omega arith in rw z refl
dropped (suc n) zero (x ∷ xs) e = absurd (omega arith)
dropped (suc n) (suc m) (x ∷ xs) e = dropped n m xs (omega arith)

counted : (n m : ℕ) (xs : List ℕ) → m ≡ min n (length xs) → take m xs ≡ take n xs
counted n m xs e = rw e (take_min n xs)

-- the bytes of a column that are kept, of the record's next bytes and those after them
pub kept_more : (gap want skip count : ℕ) (bytes piece more : List ℕ) → skip ≡ min gap (length piece) → count ≡ min want (length piece - skip)
    → (bytes ++ take count (drop skip piece)) ++ take (want - count) (drop (gap - skip) more) ≡ bytes ++ take want (drop gap (piece ++ more))
kept_more gap want skip count bytes piece more e f =
    let x = drop gap piece in
    let len : length x ≡ length piece - gap = length-drop gap piece in
    let cut : drop skip piece ≡ x = dropped gap skip piece e in
    let taken : take count x ≡ take want x = counted want count x (omega arith) in
    let after : gap - skip ≡ gap - length piece = omega arith in
    let rest : want - count ≡ want - length x = omega arith in
    rw (drop-append gap piece more, take-append want x (drop (gap - length piece) more), cut, taken, after, rest)
    (append_assoc bytes (take want x) (take (want - length x) (drop (gap - length piece) more)))

-- the items before a place, with one more
pub pushed : (count value : ℕ) (xs : List ℕ) → count < length xs → take (count + 1) (set xs count value) ≡ take count xs ++ value ∷ []
pushed count value xs h = grind (arith, common_steps)

-- the items with the last
pub filled : (count value : ℕ) (xs : List ℕ) → length xs ≡ count + 1 → set xs count value ≡ take count xs ++ value ∷ []
filled count value xs h =
    let all : take (count + 1) (set xs count value) ≡ set xs count value =
    take_all (count + 1) (set xs count value) (omega (arith, length-set xs count value)) in
    sym all ∙ pushed count value xs (omega arith)

-- a slice from a place on
pub tail : (at : ℕ) (xs : List ℕ) → take (length xs - at) (drop at xs) ≡ drop at xs
tail at xs = take_all (length xs - at) (drop at xs) (omega (arith, length-drop at xs))
