-- All that candidates lead to, cut by addresses: it is what is below them, one after another, and what is below each of
-- its triples is the triple and what is below its references.
use Rattle.std.proofs.Common.{◌≡◌, ℕ, ◌⊎◌, inl, inr, true, false, cond, List, [], ◌∷◌, ◌++◌, refl, sym, ap, subst, ◌∙◌, append_assoc, append-nil}
use Rattle.std.specs.Prelude.{filter, flat_map, nat_eq}
use Rattle.std.specs.List.{starts_with}
use Rattle.std.proofs.lemmas.List.Elements.{filter-append}
use Rattle.dbsurvey.specs.Address.{IsIn, Address, IsLeftOf}
use Rattle.dbsurvey.specs.Survey.{Triple, Rules, IsRising, children}
use Rattle.dbsurvey.specs.Traverse.{AreApart}
use Rattle.dbsurvey.specs.Whole.{IsWhole, nothing, all_of}
use Rattle.dbsurvey.proofs.Order.{IsIn-cases}
use Rattle.dbsurvey.proofs.Composing.{named_at-step, named_at-apart}
use Rattle.dbsurvey.proofs.Beginnings.{begins, begins-apart, begins-shorter, begins-longer, not_begins}
use Rattle.dbsurvey.proofs.Lists.{filter-all, filter-none, flat_map-same}

-- the triples at an address and below it
abbrev pub below : {R : Type 0} → List (Triple R) → Address → List (Triple R)
below V a = filter (λ r. starts_with nat_eq r.address a) V

pub below-append : {R : Type 0} (A B : List (Triple R)) (a : Address) → below (A ++ B) a ≡ below A a ++ below B a
below-append A B a = filter-append (λ t. starts_with nat_eq t.address a) A B

-- what candidates lead to, put together
pub whole_one : {R : Type 0} (rules : Rules R) (c : Triple R) (V : List (Triple R)) → rules.may c ≡ true → IsWhole rules (children rules c) V
    → IsWhole rules (c ∷ []) (c ∷ V)
whole_one rules c V m w = subst (λ U. IsWhole rules (c ∷ []) (c ∷ U)) (append-nil V) (all_of m w nothing)

pub whole_both : {R : Type 0} (rules : Rules R) (cs ds V U : List (Triple R)) → IsWhole rules cs V → IsWhole rules ds U → IsWhole rules (cs ++ ds) (V ++ U)
whole_both rules cs ds V U nothing k = k
whole_both rules cs ds V U (all_of {c} {cs = rest} {V = A} {U = B} m w u) k =
    subst (λ X. IsWhole rules (c ∷ (rest ++ ds)) (c ∷ X)) (sym (append_assoc A B U)) (all_of m w (whole_both rules rest ds B U u k))

module _ {R : Type 0} (rules : Rules R) where
  -- each triple begins with the address of a candidate
  pub whole_below : {cs U : List (Triple R)} → IsWhole rules cs U → (t : Triple R) → IsIn t U → (c : Triple R) × IsIn c cs × (s : Address)
      × (t.address ≡ c.address ++ s)
  whole_below nothing t i = absurd i
  whole_below (all_of {c = c} {cs = cs} {V = A} {U = B} m a b) t i = elim i [
    | inl e ↦ (c, inl refl, [], ap (λ t. t.address) e ∙ sym (append-nil c.address))
    | inr j ↦ (elim (IsIn-cases t A B j) [
      | inl k ↦ (let d = whole_below a t k in let n = named_at-step c.address (rules.links c.page c.role) d.0 d.1 in
          (c, inl refl, n.0 ∷ d.2, d.3 ∙ ap (λ l. l ++ d.2) n.1 ∙ append_assoc c.address (n.0 ∷ []) d.2))
      | inr k ↦ (let d = whole_below b t k in (d.0, inr d.1, d.2, d.3))
    ])
  ]

  whole_begins : {cs U : List (Triple R)} → IsWhole rules cs U → (t : Triple R) → IsIn t U → (c : Triple R) × IsIn c cs
      × (starts_with nat_eq t.address c.address ≡ true)
  whole_begins w t i = let d = whole_below w t i in (d.0, d.1, subst (λ b. starts_with nat_eq b d.0.address ≡ true) (sym d.3) (begins d.0.address d.2))

  -- where all begin with addresses that are apart from one, none begins with what begins with that
  others_apart : (U : List (Triple R)) (a : Address)
      → ((t : Triple R) → IsIn t U → (b : Address) × (IsLeftOf a b ⊎ IsLeftOf b a) × (starts_with nat_eq t.address b ≡ true)) → (s : Address) → below U (a ++ s)
      ≡ []
  others_apart U a h s = filter-none (λ t. starts_with nat_eq t.address (a ++ s)) U (λ t i.
      let d = h t i in
      not_begins t.address (a ++ s) (λ k. elim d.1 [
        | inl l ↦ begins-apart a d.0 t.address l (begins-shorter a s t.address k) d.2
        | inr l ↦ begins-apart d.0 a t.address l d.2 (begins-shorter a s t.address k)
      ]))

  module _ (rising : (page : ℕ) (role : R) → IsRising (rules.links page role)) where
    children_apart : (t : Triple R) → AreApart (children rules t)
    children_apart t = named_at-apart t.address (rules.links t.page t.role) (rising t.page t.role)

    -- all that is below one candidate begins with it
    first_begins : (c : Triple R) {A : List (Triple R)} → IsWhole rules (children rules c) A → (t : Triple R) → IsIn t (c ∷ A)
        → starts_with nat_eq t.address c.address ≡ true
    first_begins c a t (inl e) = subst (λ b. starts_with nat_eq b c.address ≡ true) (append-nil c.address ∙ sym (ap (λ t. t.address) e)) (begins c.address [])
    first_begins c a t (inr j) =
        let d = whole_below a t j in let n = named_at-step c.address (rules.links c.page c.role) d.0 d.1 in
        subst (λ b. starts_with nat_eq b c.address ≡ true) (sym (d.3 ∙ ap (λ l. l ++ d.2) n.1 ∙ append_assoc c.address (n.0 ∷ []) d.2))
        (begins c.address (n.0 ∷ d.2))

    first_all : (c : Triple R) (A : List (Triple R)) → IsWhole rules (children rules c) A → below (c ∷ A) c.address ≡ c ∷ A
    first_all c A a = filter-all (λ t. starts_with nat_eq t.address c.address) (c ∷ A) (first_begins c a)

    module _ (c : Triple R) {cs A B : List (Triple R)} (apart : AreApart (c ∷ cs)) (a : IsWhole rules (children rules c) A) (b : IsWhole rules cs B) where
      -- below the candidate there is nothing of the others
      at_first : (s : Address) → below (c ∷ (A ++ B)) (c.address ++ s) ≡ below (c ∷ A) (c.address ++ s)
      at_first s = below-append (c ∷ A) B (c.address ++ s)
          ∙ ap (λ l. below (c ∷ A) (c.address ++ s) ++ l) (others_apart B c.address
          (λ t i. let d = whole_begins b t i in (d.0.address, inl (apart.0 d.0 d.1), d.2)) s)
          ∙ append-nil (below (c ∷ A) (c.address ++ s))

      -- and further on not the candidate itself
      under_first : (x : ℕ) (s : Address) → below (c ∷ (A ++ B)) (c.address ++ (x ∷ s)) ≡ below A (c.address ++ (x ∷ s))
      under_first x s =
          let e : starts_with nat_eq c.address (c.address ++ (x ∷ s)) ≡ false = not_begins c.address (c.address ++ (x ∷ s)) (begins-longer c.address x s) in
          at_first (x ∷ s) ∙ ap (λ b. cond b (c ∷ below A (c.address ++ (x ∷ s))) (below A (c.address ++ (x ∷ s)))) e

      -- below the others there is nothing of the candidate
      at_others : (d : Triple R) → IsIn d cs → (s : Address) → below (c ∷ (A ++ B)) (d.address ++ s) ≡ below B (d.address ++ s)
      at_others d i s = below-append (c ∷ A) B (d.address ++ s) ∙ ap (λ l. l ++ below B (d.address ++ s))
          (others_apart (c ∷ A) d.address (λ t j. (c.address, inr (apart.0 d i), first_begins c a t j)) s)

      -- a candidate's own address
      itself : (d : Triple R) (U : List (Triple R)) → below U (d.address ++ []) ≡ below U d.address
      itself d U = ap (below U) (append-nil d.address)

      at_first_itself : below (c ∷ (A ++ B)) c.address ≡ c ∷ A
      at_first_itself = sym (itself c (c ∷ (A ++ B))) ∙ at_first [] ∙ itself c (c ∷ A) ∙ first_all c A a

      at_other_itself : (d : Triple R) → IsIn d cs → below (c ∷ (A ++ B)) d.address ≡ below B d.address
      at_other_itself d i = sym (itself d (c ∷ (A ++ B))) ∙ at_others d i [] ∙ itself d B

      -- a reference of a page below the first, or below the others
      under_child : (d : Triple R) → IsIn d (children rules c) → (s : Address) → below (c ∷ (A ++ B)) (d.address ++ s) ≡ below A (d.address ++ s)
      under_child d i s = let n = named_at-step c.address (rules.links c.page c.role) d i in
          subst (λ x. below (c ∷ (A ++ B)) x ≡ below A x) (sym (ap (λ l. l ++ s) n.1 ∙ append_assoc c.address (n.0 ∷ []) s)) (under_first n.0 s)

      under_in_first : (t : Triple R) → IsIn t A → (s : Address) → below (c ∷ (A ++ B)) (t.address ++ s) ≡ below A (t.address ++ s)
      under_in_first t i s = let d = whole_below a t i in
          subst (λ x. below (c ∷ (A ++ B)) x ≡ below A x) (sym (ap (λ l. l ++ s) d.3 ∙ append_assoc d.0.address d.2 s)) (under_child d.0 d.1 (d.2 ++ s))

      under_in_others : (t : Triple R) → IsIn t B → (s : Address) → below (c ∷ (A ++ B)) (t.address ++ s) ≡ below B (t.address ++ s)
      under_in_others t i s = let d = whole_below b t i in
          subst (λ x. below (c ∷ (A ++ B)) x ≡ below B x) (sym (ap (λ l. l ++ s) d.3 ∙ append_assoc d.0.address d.2 s)) (at_others d.0 d.1 (d.2 ++ s))

    -- what is below the candidates, one after another, is all
    pub by_candidates : {cs U : List (Triple R)} → IsWhole rules cs U → AreApart cs → U ≡ flat_map (λ d. below U d.address) cs
    by_candidates nothing apart = refl
    by_candidates (all_of {c = c} {cs = cs} {V = A} {U = B} m a b) apart =
        ap (λ l. c ∷ (A ++ l)) (by_candidates b apart.1 ∙ flat_map-same (λ d. below B d.address) (λ d. below (c ∷ (A ++ B)) d.address) cs
        (λ d i. sym (at_other_itself c apart a b d i)))
        ∙ ap (λ l. l ++ flat_map (λ d. below (c ∷ (A ++ B)) d.address) cs) (sym (at_first_itself c apart a b))

    -- and below each triple is the triple, and then what is below its references
    pub by_links : {cs U : List (Triple R)} → IsWhole rules cs U → AreApart cs → (t : Triple R) → IsIn t U → below U t.address ≡ t
        ∷ flat_map (λ d. below U d.address) (children rules t)
    by_links nothing apart t i = absurd i
    by_links (all_of {c = c} {cs = cs} {V = A} {U = B} m a b) apart t i = elim i [
      | inl e ↦ subst (λ t. below (c ∷ (A ++ B)) t.address ≡ t ∷ flat_map (λ d. below (c ∷ (A ++ B)) d.address) (children rules t)) (sym e)
          (at_first_itself c apart a b ∙ ap (λ l. c ∷ l) (by_candidates a (children_apart c)
          ∙ flat_map-same (λ d. below A d.address) (λ d. below (c ∷ (A ++ B)) d.address) (children rules c)
          (λ d j. sym (sym (itself c apart a b d (c ∷ (A ++ B))) ∙ under_child c apart a b d j [] ∙ itself c apart a b d A))))
      | inr j ↦ (elim (IsIn-cases t A B j) [
        | inl k ↦ through A t k (under_in_first c apart a b t k) (by_links a (children_apart c) t k)
        | inr k ↦ through B t k (under_in_others c apart a b t k) (by_links b apart.1 t k)
      ])
    ]
      where
        through : (D : List (Triple R)) (t : Triple R) → IsIn t D → ((s : Address) → below (c ∷ (A ++ B)) (t.address ++ s) ≡ below D (t.address ++ s))
            → below D t.address ≡ t ∷ flat_map (λ d. below D d.address) (children rules t)
            → below (c ∷ (A ++ B)) t.address ≡ t ∷ flat_map (λ d. below (c ∷ (A ++ B)) d.address) (children rules t)
        through D t k same e = sym (itself c apart a b t (c ∷ (A ++ B))) ∙ same [] ∙ itself c apart a b t D ∙ e
            ∙ ap (λ l. t ∷ l) (flat_map-same (λ d. below D d.address) (λ d. below (c ∷ (A ++ B)) d.address) (children rules t)
            (λ d j. let n = named_at-step t.address (rules.links t.page t.role) d j in subst (λ x. below D x ≡ below (c ∷ (A ++ B)) x) (sym n.1)
            (sym (same (n.0 ∷ [])))))

    -- what is below one candidate is all that it leads to
    pub parts_whole : {cs U : List (Triple R)} → IsWhole rules cs U → AreApart cs → (d : Triple R) → IsIn d cs → IsWhole rules (d ∷ []) (below U d.address)
    parts_whole nothing apart d i = absurd i
    parts_whole (all_of {c = c} {cs = cs} {V = A} {U = B} m a b) apart d i = elim i [
      | inl e ↦ subst (λ d. IsWhole rules (d ∷ []) (below (c ∷ (A ++ B)) d.address)) (sym e)
          (subst (IsWhole rules (c ∷ [])) (ap (λ l. c ∷ l) (append-nil A) ∙ sym (at_first_itself c apart a b)) (all_of m a nothing))
      | inr j ↦ subst (IsWhole rules (d ∷ [])) (sym (at_other_itself c apart a b d j)) (parts_whole b apart.1 d j)
    ]
