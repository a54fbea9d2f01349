-- Lists that are filtered, searched, joined and counted, by their elements.
use Rattle.std.proofs.Common.{◌≡◌, Bool, true, false, cond, List, [], ◌∷◌, ◌++◌, Option, ◌||◌, length, map, Some, None, ◌≤◌, inl, inr, refl, sym, ap, ◌∙◌}
use Rattle.std.proofs.Common.{arith, length-append, count_by, ℕ, ◌+◌, zero-add, ◌<◌}
use Rattle.std.specs.Prelude.{filter, filter_map, find, flat_map}
use Rattle.std.specs.List.{list_any, cons_option}
use Rattle.std.proofs.lemmas.List.{map-append}
use Rattle.std.proofs.lemmas.Grind.{flat_map-append}
use Rattle.dbsurvey.specs.Address.{IsIn}
use Rattle.std.proofs.lemmas.List.Sums.{sum_by-append}

module _ {X : Type 0} (p : X → Bool) where
  pub filter-all : (xs : List X) → ((x : X) → IsIn x xs → p x ≡ true) → filter p xs ≡ xs
  filter-all [] h = refl
  filter-all (x ∷ xs) h = let e = h x (inl refl) in let f = filter-all xs (λ y i. h y (inr i)) in rw e (ap (λ l. x ∷ l) f)

  pub filter-none : (xs : List X) → ((x : X) → IsIn x xs → p x ≡ false) → filter p xs ≡ []
  filter-none [] h = refl
  filter-none (x ∷ xs) h = let e = h x (inl refl) in let f = filter-none xs (λ y i. h y (inr i)) in rw e f

  pub filter-from : (xs : List X) (x : X) → IsIn x (filter p xs) → IsIn x xs × (p x ≡ true)
  filter-from [] x i = absurd i
  filter-from (y ∷ xs) x i = by_case (p y) refl (filter-from xs x) i
    where
      by_case : (b : Bool) → p y ≡ b → (IsIn x (filter p xs) → IsIn x xs × (p x ≡ true)) → IsIn x (cond b (y ∷ filter p xs) (filter p xs)) → IsIn x (y ∷ xs)
          × (p x ≡ true)
      by_case true e more (inl f) = (inl f, ap p f ∙ e)
      by_case true e more (inr j) = let k = more j in (inr k.0, k.1)
      by_case false e more j = let k = more j in (inr k.0, k.1)

  pub filter-has : (xs : List X) (x : X) → IsIn x xs → p x ≡ true → IsIn x (filter p xs)
  filter-has [] x i e = absurd i
  filter-has (y ∷ xs) x (inl f) e = let g : p y ≡ true = sym (ap p f) ∙ e in rw g (inl f)
  filter-has (y ∷ xs) x (inr i) e = by_case (p y) (filter-has xs x i e)
    where
      by_case : (b : Bool) → IsIn x (filter p xs) → IsIn x (cond b (y ∷ filter p xs) (filter p xs))
      by_case true j = inr j
      by_case false j = j

pub flat_map-same : {X Y : Type 0} (f g : X → List Y) (xs : List X) → ((x : X) → IsIn x xs → f x ≡ g x) → flat_map f xs ≡ flat_map g xs
flat_map-same f g [] h = refl
flat_map-same f g (x ∷ xs) h = let e = h x (inl refl) in let k = flat_map-same f g xs (λ y i. h y (inr i)) in rw (e, k) refl

-- each part is at most as long as all together
pub length-of_part : {X Y : Type 0} (f : X → List Y) (xs : List X) (x : X) → IsIn x xs → length (f x) ≤ length (flat_map f xs)
length-of_part f [] x i = absurd i
length-of_part f (y ∷ xs) x (inl e) = let k = ap (λ z. length (f z)) e in omega (arith, k, length-append (f y) (flat_map f xs))
length-of_part f (y ∷ xs) x (inr i) = let k = length-of_part f xs x i in omega (arith, length-append (f y) (flat_map f xs))

pub both_empty : {X : Type 0} (xs ys : List X) → xs ++ ys ≡ [] → (xs ≡ []) × (ys ≡ [])
both_empty [] ys e = (refl, e)
both_empty (x ∷ xs) ys e = cc

pub flat_map-flat_map : {X Y Z : Type 0} (f : X → List Y) (g : Y → List Z) (xs : List X) → flat_map g (flat_map f xs) ≡ flat_map (λ x. flat_map g (f x)) xs
flat_map-flat_map f g [] = refl
flat_map-flat_map f g (x ∷ xs) = flat_map-append g (f x) (flat_map f xs) ∙ ap (λ l. flat_map g (f x) ++ l) (flat_map-flat_map f g xs)

pub flat_map-none : {X Y : Type 0} (f : X → List Y) (xs : List X) → ((x : X) → IsIn x xs → f x ≡ []) → flat_map f xs ≡ []
flat_map-none f [] h = refl
flat_map-none f (x ∷ xs) h = let e = h x (inl refl) in let k = flat_map-none f xs (λ y i. h y (inr i)) in rw (e, k) refl

pub none_of : {X Y : Type 0} (f : X → List Y) (xs : List X) → flat_map f xs ≡ [] → (x : X) → IsIn x xs → f x ≡ []
none_of f [] e x i = absurd i
none_of f (y ∷ ys) e x (inl k) = ap f k ∙ (both_empty (f y) (flat_map f ys) e).0
none_of f (y ∷ ys) e x (inr i) = none_of f ys (both_empty (f y) (flat_map f ys) e).1 x i

pub map-flat_map : {X Y Z : Type 0} (f : X → List Y) (g : Y → Z) (xs : List X) → map g (flat_map f xs) ≡ flat_map (λ x. map g (f x)) xs
map-flat_map f g [] = refl
map-flat_map f g (x ∷ xs) = map-append g (f x) (flat_map f xs) ∙ ap (λ l. map g (f x) ++ l) (map-flat_map f g xs)

-- an element that is found, and whether there is any
pub find-none : {X : Type 0} (p : X → Bool) (xs : List X) → find p xs ≡ None → (x : X) → IsIn x xs → p x ≡ false
find-none p [] e x i = absurd i
find-none {X} p (y ∷ xs) e x i = by_case (p y) refl e i (λ f. find-none p xs f x)
  where
    by_case : (b : Bool) → p y ≡ b → cond b (Some y) (find p xs) ≡ None → IsIn x (y ∷ xs) → (find p xs ≡ None → IsIn x xs → p x ≡ false) → p x ≡ false
    by_case true f e i h = cc
    by_case false f e (inl k) h = ap p k ∙ f
    by_case false f e (inr j) h = h e j

pub find-some : {X : Type 0} (p : X → Bool) (xs : List X) (x : X) → find p xs ≡ Some x → IsIn x xs × (p x ≡ true)
find-some p [] x e = cc
find-some {X} p (y ∷ xs) x e = by_case (p y) refl e (find-some p xs x)
  where
    by_case : (b : Bool) → p y ≡ b → cond b (Some y) (find p xs) ≡ Some x → (find p xs ≡ Some x → IsIn x xs × (p x ≡ true)) → IsIn x (y ∷ xs) × (p x ≡ true)
    by_case true f e h = let g : x ≡ y = cc in (inl g, ap p g ∙ f)
    by_case false f e h = let k = h e in (inr k.0, k.1)

pub any_true : {X : Type 0} (p : X → Bool) (xs : List X) (x : X) → IsIn x xs → p x ≡ true → list_any p xs ≡ true
any_true p [] x i e = absurd i
any_true {X} p (y ∷ xs) x i e = by_case (p y) refl i (λ j. any_true p xs x j e)
  where
    by_case : (b : Bool) → p y ≡ b → IsIn x (y ∷ xs) → (IsIn x xs → list_any p xs ≡ true) → (b || list_any p xs) ≡ true
    by_case true f i h = refl
    by_case false f (inl k) h = let g = sym e ∙ ap p k ∙ f in cc
    by_case false f (inr j) h = h j

pub any_one : {X : Type 0} (p : X → Bool) (xs : List X) → list_any p xs ≡ true → (x : X) × IsIn x xs × (p x ≡ true)
any_one {X} p [] e = cc
any_one {X} p (y ∷ xs) e = by_case (p y) refl (any_one p xs) e
  where
    by_case : (b : Bool) → p y ≡ b → (list_any p xs ≡ true → (x : X) × IsIn x xs × (p x ≡ true)) → (b || list_any p xs) ≡ true → (x : X) × IsIn x (y ∷ xs)
        × (p x ≡ true)
    by_case true f on e = (y, inl refl, f)
    by_case false f on e = let h = on e in (h.0, inr h.1, h.2)

pub any_none : {X : Type 0} (p : X → Bool) (xs : List X) → ((x : X) → IsIn x xs → p x ≡ false) → list_any p xs ≡ false
any_none p [] h = refl
any_none p (x ∷ xs) h = rw (h x (inl refl)) (any_none p xs (λ y i. h y (inr i)))

-- what a list gives, element by element
module _ {X Y : Type 0} (g : X → Option Y) where
  pub filter_map-from : (xs : List X) (y : Y) → IsIn y (filter_map g xs) → (x : X) × IsIn x xs × (g x ≡ Some y)
  filter_map-from [] y i = absurd i
  filter_map-from (x ∷ xs) y i = by_case (g x) refl (filter_map-from xs y) i
    where
      by_case : (o : Option Y) → g x ≡ o → (IsIn y (filter_map g xs) → (x : X) × IsIn x xs × (g x ≡ Some y)) → IsIn y (cons_option o (filter_map g xs))
          → (z : X) × IsIn z (x ∷ xs) × (g z ≡ Some y)
      by_case None e more i = let h = more i in (h.0, inr h.1, h.2)
      by_case (Some w) e more (inl f) = (x, inl refl, e ∙ ap (λ w. Some w) (sym f))
      by_case (Some w) e more (inr i) = let h = more i in (h.0, inr h.1, h.2)

  pub filter_map-has : (xs : List X) (x : X) (y : Y) → IsIn x xs → g x ≡ Some y → IsIn y (filter_map g xs)
  filter_map-has [] x y i e = absurd i
  filter_map-has (z ∷ xs) x y (inl f) e = let h : g z ≡ Some y = ap g (sym f) ∙ e in rw h (inl refl)
  filter_map-has (z ∷ xs) x y (inr i) e = by_case (g z) (filter_map-has xs x y i e)
    where
      by_case : (o : Option Y) → IsIn y (filter_map g xs) → IsIn y (cons_option o (filter_map g xs))
      by_case None i = i
      by_case (Some w) i = inr i

pub count_more : {X : Type 0} (p : X → Bool) (x : X) (xs : List X) → count_by p (x ∷ xs) ≡ cond (p x) 1 0 + count_by p xs
count_more p x xs = sum_by-append (λ x. cond (p x) 1 0) (x ∷ []) xs ∙ ap (λ n. n + count_by p xs) (zero-add (cond (p x) 1 0))

pub count_all : {X : Type 0} (p : X → Bool) (xs : List X) → ((x : X) → IsIn x xs → p x ≡ true) → count_by p xs ≡ length xs
count_all p [] h = refl
count_all p (x ∷ xs) h =
    let m = count_more p x xs in
    let a : cond {A = ℕ} (p x) 1 0 ≡ 1 = ap (λ b. cond b 1 0) (h x (inl refl)) in
    let r = count_all p xs (λ y i. h y (inr i)) in
    omega arith

pub count_none : {X : Type 0} (p : X → Bool) (xs : List X) → ((x : X) → IsIn x xs → p x ≡ false) → count_by p xs ≡ 0
count_none p [] h = refl
count_none p (x ∷ xs) h =
    let m = count_more p x xs in
    let a : cond {A = ℕ} (p x) 1 0 ≡ 0 = ap (λ b. cond b 1 0) (h x (inl refl)) in
    let r = count_none p xs (λ y i. h y (inr i)) in
    omega arith

pub count-append : {X : Type 0} (p : X → Bool) (xs ys : List X) → count_by p (xs ++ ys) ≡ count_by p xs + count_by p ys
count-append p xs ys = sum_by-append (λ x. cond (p x) 1 0) xs ys

pub list_any-false : {X : Type 0} (p : X → Bool) (xs : List X) → list_any p xs ≡ false → (x : X) → IsIn x xs → p x ≡ false
list_any-false p [] e x i = absurd i
list_any-false {X} p (y ∷ xs) e x i = by_case (p y) refl e (list_any-false p xs) i
  where
    by_case : (b : Bool) → p y ≡ b → (b || list_any p xs) ≡ false → (list_any p xs ≡ false → (x : X) → IsIn x xs → p x ≡ false) → IsIn x (y ∷ xs) → p x ≡ false
    by_case true f e more i = cc
    by_case false f e more (inl g) = ap p g ∙ f
    by_case false f e more (inr j) = more e x j

-- the elements that pass a test, each by its list
pub kept_lists : {X Y : Type 0} (p : X → Bool) (f g : X → List Y) (xs : List X) → ((x : X) → IsIn x xs → f x ≡ cond (p x) (g x) []) → flat_map f xs
    ≡ flat_map g (filter p xs)
kept_lists p f g [] h = refl
kept_lists {X} p f g (x ∷ xs) h = ap (λ l. l ++ flat_map f xs) (h x (inl refl)) ∙ by_case (p x) (kept_lists p f g xs (λ y i. h y (inr i)))
  where
    by_case : (b : Bool) → flat_map f xs ≡ flat_map g (filter p xs) → cond b (g x) [] ++ flat_map f xs ≡ flat_map g (cond b (x ∷ filter p xs) (filter p xs))
    by_case true e = ap (λ l. g x ++ l) e
    by_case false e = e

pub cons-longer : {X : Type 0} (o : Option X) (xs ys : List X) → length xs ≤ length ys → length (cons_option o xs) ≤ length (cons_option o ys)
cons-longer None xs ys h = h
cons-longer (Some x) xs ys h = omega arith

pub cons-longer-lt : {X : Type 0} (o : Option X) (xs ys : List X) → length xs < length ys → length (cons_option o xs) < length (cons_option o ys)
cons-longer-lt None xs ys h = h
cons-longer-lt (Some x) xs ys h = omega arith

pub cons-at-least : {X : Type 0} (o : Option X) (xs ys : List X) → length xs ≤ length ys → length xs ≤ length (cons_option o ys)
cons-at-least None xs ys h = h
cons-at-least (Some x) xs ys h = omega arith

pub cons-at-least-lt : {X : Type 0} (o : Option X) (xs ys : List X) → length xs < length ys → length xs < length (cons_option o ys)
cons-at-least-lt None xs ys h = h
cons-at-least-lt (Some x) xs ys h = omega arith
