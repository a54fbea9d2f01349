-- How often a page occurs in a list.
use Rattle.std.proofs.Common.{arith, ◌≡◌, ◌⊎◌, ℕ, zero, suc, ◌+◌, ◌≤◌, inl, inr, Bool, true, false, cond, List, [], ◌∷◌, ◌++◌, refl, sym, ap, subst, ◌∙◌}
use Rattle.std.specs.Prelude.{filter, sum_by, ◌==◌, IsPermutation}
use Rattle.std.specs.List.{range_with_len}
use Rattle.std.proofs.lemmas.List.Sums.{sum_by-append, sum_by-cons}
use Rattle.std.proofs.lemmas.List.Sorted.{sum_by-IsPermutation}
use Rattle.std.proofs.lemmas.Bool.{cases_Bool, eqb-true}
use Rattle.std.proofs.lemmas.Bool.Decides.{nat_tests}
use Rattle.dbsurvey.specs.Address.{IsIn}
use Rattle.dbsurvey.proofs.Elements.{IsOnce, IsIn-range, IsIn-from_range}
use Rattle.dbsurvey.proofs.Lists.{filter-has, filter-from}

-- how often p occurs in a list
abbrev one_at : ℕ → ℕ → ℕ
one_at p x = cond (x == p) 1 0

pub times : ℕ → List ℕ → ℕ
times p xs = sum_by (one_at p) xs

same_one : (p : ℕ) → one_at p p ≡ 1
same_one p = let e : (p == p) ≡ true = grind (arith, nat_tests) in ap (λ b. cond b 1 0) e

times-cons : (p x : ℕ) (xs : List ℕ) → times p (x ∷ xs) ≡ one_at p x + times p xs
unfolding times
times-cons p x xs = sum_by-cons (one_at p) x xs

times-none : (p : ℕ) → times p [] ≡ 0
unfolding times
times-none p = refl

times-of : (p : ℕ) (xs : List ℕ) → IsIn p xs → 1 ≤ times p xs
times-of p [] i = absurd i
times-of p (x ∷ xs) (inl e) = let c = times-cons p x xs in let o : one_at p x ≡ 1 = subst (λ y. one_at p y ≡ 1) e (same_one p) in omega arith
times-of p (x ∷ xs) (inr i) = let c = times-cons p x xs in let h = times-of p xs i in omega arith

of-times : (p : ℕ) (xs : List ℕ) → 1 ≤ times p xs → IsIn p xs
of-times p [] h = let e = times-none p in absurd (omega arith)
of-times p (x ∷ xs) h = elim (cases_Bool (x == p)) [
  | inl e ↦ inl (sym (eqb-true x p e))
  | inr e ↦ inr (of-times p xs (let c = times-cons p x xs in let o : one_at p x ≡ 0 = ap (λ b. cond b 1 0) e in omega arith))
]

few_times : (p x n : ℕ) → (x ≡ p → n ≡ 0) → n ≤ 1 → one_at p x + n ≤ 1
few_times p x n h l = elim (cases_Bool (x == p)) [
  | inl e ↦ (let z = h (eqb-true x p e) in let o : one_at p x ≡ 1 = ap (λ b. cond b 1 0) e in omega arith)
  | inr e ↦ (let o : one_at p x ≡ 0 = ap (λ b. cond b 1 0) e in omega arith)
]

range_once : (a n p : ℕ) → times p (range_with_len a n) ≤ 1
range_once a zero p = let e = times-none p in omega arith
range_once a (suc n) p = let c = times-cons p a (range_with_len (a + 1) n) in
    let f = few_times p a (times p (range_with_len (a + 1) n)) none (range_once (a + 1) n p) in omega arith
  where
    none : a ≡ p → times p (range_with_len (a + 1) n) ≡ 0
    none e = elim (least (times p (range_with_len (a + 1) n))) [
      | inl z ↦ z
      | inr m ↦ (let h = IsIn-from_range (a + 1) n p (of-times p (range_with_len (a + 1) n) m) in let l = h.0 in absurd (omega arith))
    ]
      where
        least : (k : ℕ) → (k ≡ 0) ⊎ (1 ≤ k)
        least k = grind arith

-- each once
once_pairs : (xs : List ℕ) → ((p : ℕ) → times p xs ≤ 1) → IsOnce xs
once_pairs [] h = tt
once_pairs (x ∷ xs) h = (
  (λ y i e. let c = times-cons x x xs in let o = same_one x in let l = h x in let t = times-of x xs (subst (λ z. IsIn z xs) (sym e) i) in omega arith),
  once_pairs xs (λ p. let c = times-cons p x xs in let l = h p in omega arith),
)

-- Some pages and those of fixed use are all pages from 1 on, each once.
module _ (pages : List ℕ) (fixed : ℕ → Bool) (n : ℕ) (once : IsPermutation (pages ++ filter fixed (range_with_len 1 n)) (range_with_len 1 n)) where
  counted : (p : ℕ) → times p (range_with_len 1 n) ≡ times p pages + times p (filter fixed (range_with_len 1 n))
  unfolding times
  counted p = sum_by-IsPermutation (one_at p) (pages ++ filter fixed (range_with_len 1 n)) (range_with_len 1 n) once
      ∙ sum_by-append (one_at p) pages (filter fixed (range_with_len 1 n))

  pub page_in_range : (p : ℕ) → IsIn p pages → (1 ≤ p) × (p ≤ n)
  page_in_range p i =
      let t = times-of p pages i in
      let c = counted p in
      let h = IsIn-from_range 1 n p (of-times p (range_with_len 1 n) (omega arith)) in
      let l = h.0 in let m = h.1 in (l, omega arith)

  pub page_not_fixed : (p : ℕ) → IsIn p pages → fixed p ≡ false
  page_not_fixed p i = elim (cases_Bool (fixed p)) [
    | inr e ↦ e
    | inl e ↦ (
        let t = times-of p pages i in
        let c = counted p in
        let o = range_once 1 n p in
        let r = page_in_range p i in
        let l = r.0 in
        let m = r.1 in
        let f = times-of p (filter fixed (range_with_len 1 n)) (filter-has fixed (range_with_len 1 n) p (IsIn-range 1 n p l (omega arith)) e) in
        absurd (omega arith))
  ]

  pub pages_once : IsOnce pages
  pages_once = once_pairs pages (λ p. let c = counted p in let o = range_once 1 n p in omega arith)

  pub page_or_fixed : (p : ℕ) → IsIn p (range_with_len 1 n) → IsIn p pages ⊎ (fixed p ≡ true)
  page_or_fixed p i = elim (least (times p pages)) [
    | inr m ↦ inl (of-times p pages m)
    | inl z ↦ inr ((filter-from fixed (range_with_len 1 n) p
        (of-times p (filter fixed (range_with_len 1 n)) (let t = times-of p (range_with_len 1 n) i in let c = counted p in omega arith))).1)
  ]
    where
      least : (k : ℕ) → (k ≡ 0) ⊎ (1 ≤ k)
      least k = grind arith
