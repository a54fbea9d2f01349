-- The least of a list of numbers: it is one of them, and none is less.
use Rattle.std.proofs.Common.{◌≡◌, ◌⊎◌, ℕ, ◌≤◌, List, [], ◌∷◌, Some, inl, inr, refl, ◌∙◌, subst, arith, min}
use Rattle.std.specs.Prelude.{fold}
use Rattle.std.specs.List.{reduce}
use Rattle.dbsurvey.specs.Address.{IsIn}

pub fold_least : (a : ℕ) (xs : List ℕ) → fold min a xs ≤ a
fold_least a [] = omega arith
fold_least a (x ∷ xs) = let h = fold_least (min a x) xs in omega arith

pub fold_less : (a : ℕ) (xs : List ℕ) (x : ℕ) → IsIn x xs → fold min a xs ≤ x
fold_less a [] x i = absurd i
fold_less a (y ∷ xs) x (inl e) = let h = fold_least (min a y) xs in omega arith
fold_less a (y ∷ xs) x (inr i) = fold_less (min a y) xs x i

pub least_of : (xs : List ℕ) (x : ℕ) → IsIn x xs → (least : ℕ) × (reduce min xs ≡ Some least) × (least ≤ x)
least_of [] x i = absurd i
least_of (y ∷ xs) x (inl e) = (fold min y xs, refl, let h = fold_least y xs in omega arith)
least_of (y ∷ xs) x (inr i) = (fold min y xs, refl, fold_less y xs x i)

pub least_in : (a : ℕ) (xs : List ℕ) → IsIn (fold min a xs) (a ∷ xs)
least_in a [] = inl refl
least_in a (x ∷ xs) = elim (least_in (min a x) xs) [
  | inl e ↦ (elim (one_of a x) [ inl f ↦ inl (e ∙ f) | inr f ↦ inr (inl (e ∙ f)) ])
  | inr i ↦ inr (inr i)
]
  where
    one_of : (a x : ℕ) → (min a x ≡ a) ⊎ (min a x ≡ x)
    one_of a x = grind arith

pub reduced_in : (xs : List ℕ) (n : ℕ) → reduce min xs ≡ Some n → IsIn n xs
reduced_in [] n e = cc
reduced_in (x ∷ xs) n e = let same : fold min x xs ≡ n = cc in subst (λ m. IsIn m (x ∷ xs)) same (least_in x xs)
