-- Two lists that have the same elements, each once, are one list in two orders.
use Rattle.std.proofs.Common.{◌≡◌, ◌≤◌, ◌⊎◌, inl, inr, List, [], ◌∷◌, ◌++◌, length, refl, sym, ap, subst, arith, length-append}
use Rattle.std.specs.Prelude.{IsPermutation}
use Rattle.std.proofs.lemmas.List.Sorted.{IsPermutation-refl, IsPermutation-sym, IsPermutation-trans, IsPermutation-cons, IsPermutation-middle}
use Rattle.dbsurvey.specs.Address.{IsIn}
use Rattle.dbsurvey.proofs.Order.{IsIn-left, IsIn-right, IsIn-cases, EachPair-append, EachPair-left, EachPair-right, EachPair-across}
use Rattle.dbsurvey.proofs.Elements.{IsOnce}

-- the place of an element
pub parted : {X : Type 0} (x : X) (ys : List X) → IsIn x ys → (front : List X) × (back : List X) × (ys ≡ front ++ x ∷ back)
parted x [] i = absurd i
parted x (y ∷ ys) (inl e) = ([], ys, ap (λ z. z ∷ ys) (sym e))
parted x (y ∷ ys) (inr i) = let p = parted x ys i in (y ∷ p.0, p.1, ap (λ l. y ∷ l) p.2)

-- without one of its elements
once_without : {X : Type 0} (front : List X) (x : X) (back : List X) → IsOnce (front ++ x ∷ back) → IsOnce (front ++ back)
once_without {X} front x back h = EachPair-append (λ x y. x ≡ y → ⊥) front back
    (EachPair-left (λ x y. x ≡ y → ⊥) front (x ∷ back) h)
    (EachPair-right (λ x y. x ≡ y → ⊥) front (x ∷ back) h).1
    (λ u w i j. EachPair-across (λ x y. x ≡ y → ⊥) front (x ∷ back) h u w i (inr j))

not_within : {X : Type 0} (front : List X) (x : X) (back : List X) → IsOnce (front ++ x ∷ back) → IsIn x (front ++ back) → ⊥
not_within {X} front x back h i = elim (IsIn-cases x front back i) [
  | inl j ↦ EachPair-across (λ x y. x ≡ y → ⊥) front (x ∷ back) h x x j (inl refl) refl
  | inr j ↦ (EachPair-right (λ x y. x ≡ y → ⊥) front (x ∷ back) h).0 x j refl
]

in_rest : {X : Type 0} (front : List X) (x z : X) (back : List X) → IsIn z (front ++ x ∷ back) → (z ≡ x) ⊎ IsIn z (front ++ back)
in_rest front x z back i = elim (IsIn-cases z front (x ∷ back) i) [
  | inl j ↦ inr (IsIn-left z front back j)
  | inr j ↦ (elim j [ inl e ↦ inl e | inr k ↦ inr (IsIn-right z front back k) ])
]

in_whole : {X : Type 0} (front : List X) (x z : X) (back : List X) → IsIn z (front ++ back) → IsIn z (front ++ x ∷ back)
in_whole front x z back i = elim (IsIn-cases z front back i) [
  | inl j ↦ IsIn-left z front (x ∷ back) j
  | inr j ↦ IsIn-right z front (x ∷ back) (inr j)
]

pub rearranged : {X : Type 0} (xs ys : List X) → IsOnce xs → IsOnce ys → ((x : X) → IsIn x xs → IsIn x ys) → ((x : X) → IsIn x ys → IsIn x xs)
    → IsPermutation xs ys
rearranged [] [] a b h k = IsPermutation-refl []
rearranged [] (y ∷ ys) a b h k = absurd (k y (inl refl))
rearranged {X} (x ∷ xs) ys a b h k =
    let p = parted x ys (h x (inl refl)) in
    let b' = subst IsOnce p.2 b in
    let inner = rearranged xs (p.0 ++ p.1) a.1 (once_without p.0 x p.1 b')
    (λ z i. elim (in_rest p.0 x z p.1 (subst (λ l. IsIn z l) p.2 (h z (inr i)))) [ inl e ↦ absurd (a.0 z i (sym e)) | inr j ↦ j ])
    (λ z i. elim (k z (subst (λ l. IsIn z l) (sym p.2) (in_whole p.0 x z p.1 i))) [
      | inl e ↦ absurd (not_within p.0 x p.1 b' (subst (λ z. IsIn z (p.0 ++ p.1)) e i))
      | inr j ↦ j
    ]) in
    subst (λ l. IsPermutation (x ∷ xs) l) (sym p.2)
    (IsPermutation-trans (x ∷ xs) (x ∷ (p.0 ++ p.1)) (p.0 ++ x ∷ p.1)
    (IsPermutation-cons x xs (p.0 ++ p.1) inner)
    (IsPermutation-sym (p.0 ++ x ∷ p.1) (x ∷ (p.0 ++ p.1)) (IsPermutation-middle p.0 x p.1)))

-- a list without repetition whose elements are all in another is no longer than that one
pub no_longer : {X : Type 0} (xs ys : List X) → IsOnce xs → ((x : X) → IsIn x xs → IsIn x ys) → length xs ≤ length ys
no_longer [] ys a h = omega arith
no_longer (x ∷ xs) ys a h =
    let p = parted x ys (h x (inl refl)) in
    let rest = no_longer xs (p.0 ++ p.1) a.1
    (λ z i. elim (in_rest p.0 x z p.1 (subst (λ l. IsIn z l) p.2 (h z (inr i)))) [ inl e ↦ absurd (a.0 z i (sym e)) | inr j ↦ j ]) in
    rw p.2 (omega (arith, rest, length-append p.0 p.1, length-append p.0 (x ∷ p.1)))
