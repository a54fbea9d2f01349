-- Laws of lists: what holds of each element.
use Rattle.std.proofs.Common.{arith, suc, inl, inr, List, [], ◌∷◌, ◌++◌, sym, subst}
use Rattle.std.specs.Prelude.{All}
use Rattle.dbsurvey.specs.Address.{IsIn}
use Rattle.dbsurvey.proofs.Order.{IsIn-cases, IsIn-left, IsIn-right}

-- P holds of each element
abbrev pub Each : {X : Type 0} → (X → Type 0) → List X → Type 0
Each {X} P xs = (x : X) → IsIn x xs → P x

pub Each-none : {X : Type 0} (P : X → Type 0) → Each P []
Each-none P x i = absurd i

pub Each-cons : {X : Type 0} (P : X → Type 0) (y : X) (ys : List X) → P y → Each P ys → Each P (y ∷ ys)
Each-cons P y ys h k x (inl e) = subst P (sym e) h
Each-cons P y ys h k x (inr i) = k x i

pub Each-one : {X : Type 0} (P : X → Type 0) (y : X) → P y → Each P (y ∷ [])
Each-one P y h = Each-cons P y [] h (Each-none P)

pub Each-append : {X : Type 0} (P : X → Type 0) (xs ys : List X) → Each P xs → Each P ys → Each P (xs ++ ys)
Each-append P xs ys h k x i = elim (IsIn-cases x xs ys i) [ inl j ↦ h x j | inr j ↦ k x j ]

pub Each-left : {X : Type 0} (P : X → Type 0) (xs ys : List X) → Each P (xs ++ ys) → Each P xs
Each-left P xs ys h x i = h x (IsIn-left x xs ys i)

pub Each-right : {X : Type 0} (P : X → Type 0) (xs ys : List X) → Each P (xs ++ ys) → Each P ys
Each-right P xs ys h x i = h x (IsIn-right x xs ys i)

pub Each-implies : {X : Type 0} (P Q : X → Type 0) (xs : List X) → ((x : X) → P x → Q x) → Each P xs → Each Q xs
Each-implies P Q xs f h x i = f x (h x i)

pub each_of : {X : Type 0} (P : X → Type 0) (xs : List X) → All P xs → Each P xs
each_of P [] h x i = absurd i
each_of P (y ∷ ys) h x (inl e) = subst P (sym e) (h 0 y (omega arith))
each_of P (y ∷ ys) h x (inr i) = each_of P ys (λ k d l. h (suc k) d (omega arith)) x i
