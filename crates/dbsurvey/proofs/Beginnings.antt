-- Which addresses begin with another.
use Rattle.std.proofs.Common.{◌≡◌, ℕ, true, false, [], ◌∷◌, ◌++◌, inl, inr, refl, sym, subst, ◌∙◌, eq-eqb, append_assoc, ◌≢◌}
use Rattle.std.specs.Prelude.{nat_eq}
use Rattle.std.specs.List.{starts_with}
use Rattle.std.proofs.lemmas.Bool.{and_parts, and_from, eqb-true, cases_Bool}
use Rattle.dbsurvey.specs.Address.{Address, IsLeftOf}
use Rattle.dbsurvey.proofs.Order.{IsBefore-irreflexive, IsLeftOf-longer, IsLeftOf-before}

-- the address itself, and each that goes on from it
pub begins : (a s : Address) → starts_with nat_eq (a ++ s) a ≡ true
begins [] s = refl
begins (x ∷ a) s = and_from (nat_eq x x) (starts_with nat_eq (a ++ s) a) (eq-eqb x x refl) (begins a s)

pub begins-from : (a b : Address) → starts_with nat_eq b a ≡ true → (s : Address) × (b ≡ a ++ s)
begins-from [] b h = (b, refl)
begins-from (x ∷ a) [] h = cc
begins-from (x ∷ a) (y ∷ b) h =
    let k = and_parts (nat_eq x y) (starts_with nat_eq b a) h in
    let e : x ≡ y = eqb-true x y k.0 in
    let r = begins-from a b k.1 in
    (r.0, cc (e, r.1))

-- none begins with two that are apart
pub begins-apart : (a c b : Address) → IsLeftOf a c → starts_with nat_eq b a ≡ true → starts_with nat_eq b c ≡ true → ⊥
begins-apart a c b h k l =
    let m = begins-from a b k in
    let n = begins-from c b l in
    IsBefore-irreflexive b (IsLeftOf-before b b (subst (λ d. IsLeftOf d b) (sym m.1)
    (subst (λ d. IsLeftOf (a ++ m.0) d) (sym n.1) (IsLeftOf-longer a c m.0 n.0 h))))

-- what begins with a longer address begins with its beginning
pub begins-shorter : (a s b : Address) → starts_with nat_eq b (a ++ s) ≡ true → starts_with nat_eq b a ≡ true
begins-shorter a s b h =
    let m = begins-from (a ++ s) b h in
    subst (λ d. starts_with nat_eq d a ≡ true) (sym (m.1 ∙ append_assoc a s m.0)) (begins a (s ++ m.0))

-- no address begins with a longer one
pub begins-longer : (a : Address) (x : ℕ) (s : Address) → starts_with nat_eq a (a ++ (x ∷ s)) ≡ true → ⊥
begins-longer [] x s h = cc
begins-longer (y ∷ a) x s h = begins-longer a x s (and_parts (nat_eq y y) (starts_with nat_eq a (a ++ (x ∷ s))) h).1

pub not_begins : (b a : Address) → (starts_with nat_eq b a ≡ true → ⊥) → starts_with nat_eq b a ≡ false
not_begins b a h = elim (cases_Bool (starts_with nat_eq b a)) [ inl e ↦ absurd (h e) | inr e ↦ e ]

pub begins-other : (a : Address) (s s' : ℕ) (r r' : Address) → s ≢ s' → starts_with nat_eq (a ++ (s ∷ r)) (a ++ (s' ∷ r')) ≡ false
begins-other [] s s' r r' n = elim (cases_Bool (nat_eq s' s)) [
  | inl e ↦ absurd (n (sym (eqb-true s' s e)))
  | inr e ↦ rw e refl
]
begins-other (x ∷ a) s s' r r' n = rw (eq-eqb x x refl) (begins-other a s s' r r' n)
