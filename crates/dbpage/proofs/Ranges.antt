-- Tests of the numbers of a range.
use Rattle.std.proofs.Common.{◌≡◌, ℕ, zero, suc, ◌+◌, ◌<◌, ◌≤◌, inl, inr, Bool, true, false, ◌||◌, List, ◌∷◌, Some, None, refl, sym, subst, ap, ◌∙◌, arith}
use Rattle.std.specs.Prelude.{find}
use Rattle.std.specs.List.{range_with_len, list_any}
use Rattle.std.proofs.lemmas.Bool.{cases_eq, cases_lt}

find_hit : (p : ℕ → Bool) (x : ℕ) (xs : List ℕ) → p x ≡ true → find p (x ∷ xs) ≡ Some x
find_hit p x xs h = rw h refl

find_miss : (p : ℕ → Bool) (x : ℕ) (xs : List ℕ) → p x ≡ false → find p (x ∷ xs) ≡ find p xs
find_miss p x xs h = rw h refl

-- the first number of a range that passes
pub find_first : (p : ℕ → Bool) (a n i : ℕ) → a ≤ i → i < a + n → ((j : ℕ) → a ≤ j → j < i → p j ≡ false) → p i ≡ true
    → find p (range_with_len a n) ≡ Some i
find_first p a zero i low high before at = absurd (omega arith)
find_first p a (suc n) i low high before at =
    elim (cases_eq a i) [
      | inl same ↦ subst (λ (k : ℕ). find p (range_with_len a (suc n)) ≡ Some k) same (find_hit p a (range_with_len (a + 1) n) (ap p same ∙ at))
      | inr other ↦ find_miss p a (range_with_len (a + 1) n) (before a (omega arith) (omega arith))
          ∙ find_first p (a + 1) n i (omega arith) (omega arith) (λ j l h. before j (omega arith) h) at
    ]

pub find_none : (p : ℕ → Bool) (a n : ℕ) → ((j : ℕ) → a ≤ j → j < a + n → p j ≡ false) → find p (range_with_len a n) ≡ None
find_none p a zero fails = refl
find_none p a (suc n) fails =
    find_miss p a (range_with_len (a + 1) n) (fails a (omega arith) (omega arith))
    ∙ find_none p (a + 1) n (λ j l h. fails j (omega arith) (omega arith))

pub find_any : (p : ℕ → Bool) (a n k : ℕ) → a ≤ k → k < a + n → p k ≡ true → find p (range_with_len a n) ≡ None → ⊥
find_any p a zero k low high at none = absurd (omega (arith, low, high))
find_any p a (suc n) k low high at none = by_case (p a) refl (λ later rest. find_any p (a + 1) n k later (omega (arith, high)) at rest)
  where
    some_not_none : (i : ℕ) → Some i ≡ None → ⊥
    some_not_none i h = cc

    both : p k ≡ true → p k ≡ false → ⊥
    both h e = cc

    by_case : (b : Bool) → p a ≡ b → (a + 1 ≤ k → find p (range_with_len (a + 1) n) ≡ None → ⊥) → ⊥
    by_case true e more = some_not_none a (sym (find_hit p a (range_with_len (a + 1) n) e) ∙ none)
    by_case false e more = elim (cases_lt a k) [
      | inl less ↦ more (omega (arith, less)) (sym (find_miss p a (range_with_len (a + 1) n) e) ∙ none)
      | inr over ↦ let same : k ≡ a = omega (arith, low, over) in both at (ap p same ∙ e)
    ]

any_step : (p : ℕ → Bool) (a : ℕ) (xs : List ℕ) → p a ≡ false → list_any p (a ∷ xs) ≡ list_any p xs
any_step p a xs h = rw h refl

any_here : (p : ℕ → Bool) (a : ℕ) (xs : List ℕ) → p a ≡ true → list_any p (a ∷ xs) ≡ true
any_here p a xs h = rw h refl

-- some number of a range passes
pub any_at : (p : ℕ → Bool) (a n k : ℕ) → a ≤ k → k < a + n → p k ≡ true → list_any p (range_with_len a n) ≡ true
any_at p a zero k low high at = absurd (omega arith)
any_at p a (suc n) k low high at =
    elim (cases_eq a k) [
      | inl same ↦ any_here p a (range_with_len (a + 1) n) (ap p same ∙ at)
      | inr other ↦ or_true (p a) (any_at p (a + 1) n k (omega arith) (omega arith) at)
    ]
  where
    or_true : (b : Bool) {c : Bool} → c ≡ true → (b || c) ≡ true
    or_true true h = refl
    or_true false h = h

-- no number of a range passes
pub any_none : (p : ℕ → Bool) (a n : ℕ) → ((k : ℕ) → a ≤ k → k < a + n → p k ≡ false) → list_any p (range_with_len a n) ≡ false
any_none p a zero fails = refl
any_none p a (suc n) fails =
    any_step p a (range_with_len (a + 1) n) (fails a (omega arith) (omega arith))
    ∙ any_none p (a + 1) n (λ k l h. fails k (omega arith) (omega arith))
