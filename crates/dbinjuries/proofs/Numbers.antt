-- A list with one element changed.
use Rattle.std.proofs.Common.{◌≡◌, ℕ, zero, suc, ◌<◌, ◌≤◌, List, [], ◌∷◌, length, map, take, drop, get_or, set, refl, ap, arith}
use Rattle.std.specs.List.{sum_by}
use Rattle.std.proofs.lemmas.List.Sums.{sum_by-cons}
use Rattle.dbinjuries.specs.Listing.{changed_at}

pub take-changed : {X : Type 0} (f : X → X) (n i : ℕ) (xs : List X) → take n (changed_at f i xs) ≡ changed_at f i (take n xs)
take-changed f zero i [] = refl
take-changed f (suc n) i [] = refl
take-changed f zero zero (x ∷ xs) = refl
take-changed f zero (suc i) (x ∷ xs) = refl
take-changed f (suc n) zero (x ∷ xs) = refl
take-changed f (suc n) (suc i) (x ∷ xs) = ap (λ l. x ∷ l) (take-changed f n i xs)

-- past the end nothing changes
pub changed-length : {X : Type 0} (f : X → X) (i : ℕ) (xs : List X) → length (changed_at f i xs) ≡ length xs
changed-length f i [] = refl
changed-length f zero (x ∷ xs) = refl
changed-length f (suc i) (x ∷ xs) = ap suc (changed-length f i xs)

pub changed-past : {X : Type 0} (f : X → X) (i : ℕ) (xs : List X) → length xs ≤ i → changed_at f i xs ≡ xs
changed-past f i [] h = refl
changed-past f zero (x ∷ xs) h = absurd (let no : ⊥ = omega arith in no)
changed-past f (suc i) (x ∷ xs) h = ap (λ l. x ∷ l) (changed-past f i xs (omega arith))

-- what comes after it stays
pub drop-changed : {X : Type 0} (f : X → X) (n i : ℕ) (xs : List X) → i < n → drop n (changed_at f i xs) ≡ drop n xs
drop-changed f n i [] h = refl
drop-changed f zero i (x ∷ xs) h = absurd (let no : ⊥ = omega arith in no)
drop-changed f (suc n) zero (x ∷ xs) h = refl
drop-changed f (suc n) (suc i) (x ∷ xs) h = drop-changed f n i xs (omega arith)

pub map-changed : {X Y : Type 0} (g : X → Y) (f : X → X) (h : Y → Y) → ((x : X) → g (f x) ≡ h (g x)) → (i : ℕ) (xs : List X)
    → map g (changed_at f i xs) ≡ changed_at h i (map g xs)
map-changed g f h e i [] = refl
map-changed g f h e zero (x ∷ xs) = ap (λ y. y ∷ map g xs) (e x)
map-changed g f h e (suc i) (x ∷ xs) = ap (λ l. g x ∷ l) (map-changed g f h e i xs)

-- one more in all
pub sum-changed : {X : Type 0} (g : X → ℕ) (f : X → X) → ((x : X) → g (f x) ≡ suc (g x)) → (i : ℕ) (xs : List X) → i < length xs
    → sum_by g (changed_at f i xs) ≡ suc (sum_by g xs)
sum-changed g f e i [] h = absurd (let no : ⊥ = omega arith in no)
sum-changed g f e zero (x ∷ xs) h =
    let a = sum_by-cons g (f x) xs in let b = sum_by-cons g x xs in let c = e x in omega (arith, a, b, c)
sum-changed g f e (suc i) (x ∷ xs) h =
    let a = sum_by-cons g x (changed_at f i xs) in let b = sum_by-cons g x xs in let c = sum-changed g f e i xs (omega arith) in omega (arith, a, b, c)

-- as a store
pub changed-set : {X : Type 0} (f : X → X) (i : ℕ) (xs : List X) (d : X) → i < length xs → changed_at f i xs ≡ set xs i (f (get_or xs i d))
changed-set f i [] d h = refl
changed-set f zero (x ∷ xs) d h = refl
changed-set f (suc i) (x ∷ xs) d h = ap (λ l. x ∷ l) (changed-set f i xs d (omega arith))
