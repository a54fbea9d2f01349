-- Lists in which each element occurs once, and ranges of numbers.
use Rattle.std.proofs.Common.{◌≡◌, ℕ, zero, suc, ◌+◌, ◌<◌, ◌≤◌, ◌⊎◌, inl, inr, Bool, true, false, cond, List, [], ◌∷◌, map, ◌∙◌, refl, sym, ap, arith, flat_map}
use Rattle.std.proofs.Common.{subst}
use Rattle.std.specs.Prelude.{filter, All, Contains}
use Rattle.std.specs.List.{range_with_len}
use Rattle.std.proofs.lemmas.List.Elements.{All-nil, All-cons, All-contains}
use Rattle.dbsurvey.specs.Address.{IsIn, EachPair}
use Rattle.dbsurvey.proofs.Ordering.{IsIn-from_map, IsIn-from_flat_map}
use Rattle.dbsurvey.proofs.Lists.{filter-from}
use Rattle.dbsurvey.proofs.Order.{EachPair-append}

-- no element occurs twice
abbrev pub IsOnce : {X : Type 0} → List X → Type 0
IsOnce {X} xs = EachPair (λ x y. x ≡ y → ⊥) xs

pub EachPair-filter : {X : Type 0} (rel : X → X → Type 0) (p : X → Bool) (xs : List X) → EachPair rel xs → EachPair rel (filter p xs)
EachPair-filter rel p [] h = tt
EachPair-filter {X} rel p (x ∷ xs) h = by_case (p x) (EachPair-filter rel p xs h.1)
  where
    by_case : (b : Bool) → EachPair rel (filter p xs) → EachPair rel (cond b (x ∷ filter p xs) (filter p xs))
    by_case true k = ((λ y i. h.0 y (filter-from p xs y i).0), k)
    by_case false k = k

pub IsIn-range : (a n p : ℕ) → a ≤ p → p < a + n → IsIn p (range_with_len a n)
IsIn-range a zero p h k = absurd (let f : ⊥ = omega arith in f)
IsIn-range a (suc n) p h k = elim (cases a p h) [ inl e ↦ inl e | inr l ↦ inr (IsIn-range (a + 1) n p l (omega arith)) ]
  where
    cases : (a p : ℕ) → a ≤ p → (p ≡ a) ⊎ (a + 1 ≤ p)
    cases a p h = grind arith

pub IsIn-from_range : (a n p : ℕ) → IsIn p (range_with_len a n) → (a ≤ p) × (p < a + n)
IsIn-from_range a zero p i = absurd i
IsIn-from_range a (suc n) p (inl e) = (omega arith, omega arith)
IsIn-from_range a (suc n) p (inr i) = let h = IsIn-from_range (a + 1) n p i in (omega (arith, h.0), omega (arith, h.1))

pub range_once : (a n : ℕ) → IsOnce (range_with_len a n)
range_once a zero = tt
range_once a (suc n) = ((λ y i e. let h = IsIn-from_range (a + 1) n y i in let l = h.0 in let f : ⊥ = omega arith in f), range_once (a + 1) n)

-- what holds of each element, by cases
pub All-from_each : {X : Type 0} (P : X → Type 0) (xs : List X) → ((x : X) → IsIn x xs → P x) → All P xs
All-from_each P [] h = All-nil P
All-from_each P (x ∷ xs) h = All-cons P x xs (h x (inl refl)) (All-from_each P xs (λ y i. h y (inr i)))

-- elements, and those of a list by their numbers
pub contains : {X : Type 0} (xs : List X) (x : X) → IsIn x xs → Contains xs x
contains [] x i = absurd i
contains (y ∷ ys) x (inl e) = (0, omega arith, sym e)
contains (y ∷ ys) x (inr i) = let c = contains ys x i in let l = c.1 in (suc c.0, omega arith, c.2)

pub from_contains : {X : Type 0} (xs : List X) (x : X) → Contains xs x → IsIn x xs
from_contains xs x h = All-contains (λ y. IsIn y xs) xs x (All-from_each (λ y. IsIn y xs) xs (λ y i. i)) h

-- numbers of elements that differ in them
pub map_once : {X : Type 0} (f : X → ℕ) (xs : List X) → EachPair (λ x y. f x ≡ f y → ⊥) xs → IsOnce (map f xs)
map_once f [] h = tt
map_once f (x ∷ xs) h = ((λ p i e. let m = IsIn-from_map f xs p i in h.0 m.0 m.1 (e ∙ m.2)), map_once f xs h.1)

pub one_by : {X : Type 0} (f : X → ℕ) (xs : List X) → EachPair (λ x y. f x ≡ f y → ⊥) xs → (x y : X) → IsIn x xs → IsIn y xs → f x ≡ f y → x ≡ y
one_by f [] h x y i j e = absurd i
one_by f (z ∷ xs) h x y (inl g) (inl k) e = g ∙ sym k
one_by f (z ∷ xs) h x y (inl g) (inr j) e = absurd (h.0 y j (ap f (sym g) ∙ e))
one_by f (z ∷ xs) h x y (inr i) (inl k) e = absurd (h.0 x i (ap f (sym k) ∙ sym e))
one_by f (z ∷ xs) h x y (inr i) (inr j) e = one_by f xs h.1 x y i j e

-- what follows for the lists of some elements, one after another
pub each_list : {X Y : Type 0} (rel : Y → Y → Type 0) (f : X → List Y) (xs : List X) → ((x : X) → EachPair rel (f x))
    → EachPair (λ x y. (u w : Y) → IsIn u (f x) → IsIn w (f y) → rel u w) xs → EachPair rel (flat_map f xs)
each_list rel f [] h k = tt
each_list rel f (x ∷ xs) h k = EachPair-append rel (f x) (flat_map f xs) (h x) (each_list rel f xs h k.1)
    (λ u w i j. let m = IsIn-from_flat_map f xs w j in k.0 m.0 m.1 u w i m.2)

pub each_map : {X Y : Type 0} (rel : Y → Y → Type 0) (f : X → Y) (xs : List X) → EachPair (λ x y. rel (f x) (f y)) xs → EachPair rel (map f xs)
each_map rel f [] h = tt
each_map rel f (x ∷ xs) h = ((λ y i. let m = IsIn-from_map f xs y i in subst (rel (f x)) (sym m.2) (h.0 m.0 m.1)), each_map rel f xs h.1)

pub each_weaker : {X : Type 0} (rel also : X → X → Type 0) (xs : List X) → ((x y : X) → rel x y → also x y) → EachPair rel xs → EachPair also xs
each_weaker rel also [] h k = tt
each_weaker rel also (x ∷ xs) h k = ((λ y i. h x y (k.0 y i)), each_weaker rel also xs h k.1)

-- so where all elements are of the list
pub each_within : {X : Type 0} (rel also : X → X → Type 0) (xs : List X) → ((x y : X) → IsIn x xs → IsIn y xs → rel x y → also x y) → EachPair rel xs
    → EachPair also xs
each_within rel also [] h each = tt
each_within rel also (x ∷ xs) h each = ((λ y i. h x y (inl refl) (inr i) (each.0 y i)), each_within rel also xs (λ y z i j. h y z (inr i) (inr j)) each.1)
