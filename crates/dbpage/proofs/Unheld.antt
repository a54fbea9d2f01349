-- How many numbers of a range fail a test, when more of them pass.
use Rattle.std.proofs.Common.{◌≡◌, ℕ, zero, suc, ◌+◌, ◌-◌, ◌<◌, ◌≤◌, min, max, ◌⊎◌, inl, inr, Bool, true, false, cond, not, List, ◌∷◌, refl, ap, arith}
use Rattle.std.specs.Prelude.{count_by}
use Rattle.std.specs.List.{range_with_len}
use Rattle.std.proofs.lemmas.Bool.{cases_lt}
use Rattle.std.proofs.lemmas.List.Sums.{sum_by-cons}

-- the numbers from f up to e pass now, and did not before; the others answer as before
abbrev pub PassMore : (ℕ → Bool) → (ℕ → Bool) → ℕ → ℕ → Type 0
PassMore old new f e =
    ((k : ℕ) → f ≤ k → k < e → old k ≡ false) × ((k : ℕ) → f ≤ k → k < e → new k ≡ true) × ((k : ℕ) → (k < f) ⊎ (e ≤ k) → new k ≡ old k)

abbrev one_unless : Bool → ℕ
one_unless b = cond (not b) 1 0

count_by-cons : (p : ℕ → Bool) (a : ℕ) (xs : List ℕ) → count_by (λ k. not (p k)) (a ∷ xs) ≡ one_unless (p a) + count_by (λ k. not (p k)) xs
count_by-cons p a xs = sum_by-cons (λ k. one_unless (p k)) a xs

pub fewer_fail : (old new : ℕ → Bool) (f e a n : ℕ) → PassMore old new f e
    → count_by (λ k. not (new k)) (range_with_len a n) + (min (a + n) e - max a f) ≡ count_by (λ k. not (old k)) (range_with_len a n)
fewer_fail old new f e a zero h = omega arith
fewer_fail old new f e a (suc n) h =
    let now = count_by-cons new a (range_with_len (a + 1) n) in
    let was = count_by-cons old a (range_with_len (a + 1) n) in
    let rest = fewer_fail old new f e (a + 1) n h in
    elim (cases_lt a f) [
      | inl below ↦ omega (arith, now, was, rest, ap one_unless (h.2 a (inl below)))
      | inr from ↦ elim (cases_lt a e) [
        | inl within ↦ omega (arith, now, was, rest, ap one_unless (h.0 a from within), ap one_unless (h.1 a from within))
        | inr past ↦ omega (arith, now, was, rest, ap one_unless (h.2 a (inr past)))
      ]
    ]

-- where no number passes, all fail
pub none_held : (a n : ℕ) → count_by (λ k. not false) (range_with_len a n) ≡ n
none_held a zero = refl
none_held a (suc n) = omega (arith, count_by-cons (λ k. false) a (range_with_len (a + 1) n), none_held (a + 1) n)
