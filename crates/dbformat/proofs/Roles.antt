-- Roles below a start: no link leads to a root, and links of a trunk stay on the freelist, and those of other pages off it.
use Rattle.std.proofs.Common.{◌≡◌, ℕ, ◌-◌, inl, inr, Bool, true, false, cond, List, [], ◌∷◌, ◌++◌, map, Option, Some, None, refl, sym, ap, subst, ◌∙◌}
use Rattle.std.specs.Prelude.{flat_map, filter, option_map, option_to_list, nat_le, nat_lt, ◌==◌}
use Rattle.std.specs.List.{enumerate_from}
use Rattle.dbsurvey.specs.Address.{IsIn}
use Rattle.dbsurvey.specs.Survey.{Link, children}
use Rattle.dbsurvey.specs.Whole.{IsWhole, nothing, all_of}
use Rattle.dbsurvey.proofs.Order.{IsIn-cases}
use Rattle.dbsurvey.proofs.Ordering.{IsIn-from_map, IsIn-from_flat_map}
use Rattle.dbsurvey.proofs.Composing.{named_at-from}
use Rattle.dbformat.specs.Header.{usable_size}
use Rattle.dbformat.specs.File.{page_bytes}
use Rattle.dbformat.specs.Payload.{overflow_next}
use Rattle.dbformat.specs.Head.{View, undamaged}
use Rattle.dbformat.specs.Cell.{Cell, cells, overflow_size, right_child, count}
use Rattle.dbformat.specs.Address.{overflow_step, child_step}
use Rattle.dbformat.specs.Reference.{Role, root, child, first_overflow, later_overflow, trunk, free_leaf, Way, Reference, role_of, is_root, is_on_freelist}
use Rattle.dbformat.specs.Reference.{link, cell_links, right_links, page_links, overflow_links, trunk_links, role_links, leaf_link, next_trunk, trunk_next}
use Rattle.dbformat.specs.Reference.{leaf_count, most_leaves, free_leaves}
use Rattle.dbformat.specs.Survey.{rules_of}
use Rattle.dbformat.specs.declared.TreeKind.{TreeKind}
use Rattle.dbsurvey.proofs.Lists.{filter-none}

-- roots are off the freelist
pub root_off : (role : Role) → is_root role ≡ true → is_on_freelist role ≡ false
root_off (root kind) e = refl
root_off (child kind) e = cc
root_off (first_overflow left) e = cc
root_off (later_overflow left) e = cc
root_off trunk e = cc
root_off free_leaf e = cc

-- and nothing on the freelist is a root
pub no_root_on : (role : Role) → is_on_freelist role ≡ true → is_root role ≡ false
no_root_on (root kind) e = cc
no_root_on (child kind) e = refl
no_root_on (first_overflow left) e = refl
no_root_on (later_overflow left) e = refl
no_root_on trunk e = refl
no_root_on free_leaf e = refl

-- a link that leads to no root, on or off the freelist
abbrev LeadsOn : Bool → Link Way → Type 0
LeadsOn on l = (is_root l.role.role ≡ false) × (is_on_freelist l.role.role ≡ on)

at_option : (on : Bool) (p step item : ℕ) (role : Role) (o : Option ℕ) (l : Link Way) → LeadsOn on (link p step item role 0)
    → IsIn l (option_to_list (option_map (link p step item role) o)) → LeadsOn on l
at_option on p step item role None l h i = absurd i
at_option on p step item role (Some q) l h (inl e) = subst (LeadsOn on) (sym e) h
at_option on p step item role (Some q) l h (inr i) = absurd i

of_cell : (p : ℕ) (kind : TreeKind) (x : ℕ × Cell) (l : Link Way) → IsIn l (cell_links p kind x) → LeadsOn false l
of_cell p kind (i, c) l h = elim (IsIn-cases l (option_to_list (option_map (link p (overflow_step i) i (first_overflow (overflow_size c))) c.overflow)) _ h) [
  | inl j ↦ at_option false p (overflow_step i) i (first_overflow (overflow_size c)) c.overflow l (refl, refl) j
  | inr j ↦ at_option false p (child_step i) i (child kind) c.left l (refl, refl) j
]

of_page : (p : ℕ) (kind : TreeKind) (o : Option View) (l : Link Way) → IsIn l (page_links p kind o) → LeadsOn false l
of_page p kind None l h = absurd h
of_page p kind (Some v) l h = elim (IsIn-cases l (flat_map (cell_links p kind) (cells v)) (right_links p kind v) h) [
  | inl j ↦ (let m = IsIn-from_flat_map (cell_links p kind) (cells v) l j in of_cell p kind m.0 l m.2)
  | inr j ↦ at_option false p (child_step (count v)) (count v) (child kind) (right_child v) l (refl, refl) j
]

of_overflow : (p usable left : ℕ) (page : List ℕ) (l : Link Way) → IsIn l (overflow_links p usable left page) → LeadsOn false l
of_overflow p usable left page l h = by_case (nat_lt (usable - 4) left) h
  where
    by_case : (b : Bool) → IsIn l (cond b (link p 0 0 (later_overflow (left - (usable - 4))) (overflow_next page) ∷ []) []) → LeadsOn false l
    by_case true (inl e) = subst (LeadsOn false) (sym e) (refl, refl)
    by_case true (inr i) = absurd i
    by_case false i = absurd i

of_next : (p : ℕ) (page : List ℕ) (item : ℕ) (l : Link Way) → IsIn l (next_trunk p page item) → LeadsOn true l
of_next p page item l h = by_case (trunk_next page == 0) h
  where
    by_case : (b : Bool) → IsIn l (cond b [] (link p item item trunk (trunk_next page) ∷ [])) → LeadsOn true l
    by_case true i = absurd i
    by_case false (inl e) = subst (LeadsOn true) (sym e) (refl, refl)
    by_case false (inr i) = absurd i

of_trunk : (p usable : ℕ) (page : List ℕ) (l : Link Way) → IsIn l (trunk_links p usable page) → LeadsOn true l
of_trunk p usable page l h = by_case (nat_le (leaf_count page) (most_leaves usable)) h
  where
    by_case : (b : Bool) → IsIn l (cond b (map (leaf_link p) (enumerate_from 0 (free_leaves page)) ++ next_trunk p page (leaf_count page))
        (next_trunk p page 0)) → LeadsOn true l
    by_case true i = elim (IsIn-cases l (map (leaf_link p) (enumerate_from 0 (free_leaves page))) (next_trunk p page (leaf_count page)) i) [
      | inl j ↦ (let m = IsIn-from_map (leaf_link p) (enumerate_from 0 (free_leaves page)) l j in subst (LeadsOn true) (sym m.2) (refl, refl))
      | inr j ↦ of_next p page (leaf_count page) l j
    ]
    by_case false i = of_next p page 0 l i

of_role : (role : Role) (p usable : ℕ) (page : List ℕ) (l : Link Way) → IsIn l (role_links role p usable page) → LeadsOn (is_on_freelist role) l
of_role (root kind) p usable page l h = of_page p kind (undamaged kind p usable page) l h
of_role (child kind) p usable page l h = of_page p kind (undamaged kind p usable page) l h
of_role (first_overflow left) p usable page l h = of_overflow p usable left page l h
of_role (later_overflow left) p usable page l h = of_overflow p usable left page l h
of_role trunk p usable page l h = of_trunk p usable page l h
of_role free_leaf p usable page l h = absurd h

module _ (file : List ℕ) where
  pub child_leads : (t u : Reference) → IsIn u (children (rules_of file) t) → (is_root (role_of u) ≡ false)
      × (is_on_freelist (role_of u) ≡ is_on_freelist (role_of t))
  unfolding rules_of
  child_leads t u i =
      let m = named_at-from t.address (role_links (role_of t) t.page (usable_size file) (page_bytes file t.page)) u i in
      let h = of_role (role_of t) t.page (usable_size file) (page_bytes file t.page) m.0 m.1 in
      (ap (λ u. is_root (role_of u)) m.2 ∙ h.0, ap (λ u. is_on_freelist (role_of u)) m.2 ∙ h.1)

  -- all that candidates lead to is on the freelist, or off it, as they are
  pub all_as : (on : Bool) {cs X : List Reference} → IsWhole (rules_of file) cs X → ((c : Reference) → IsIn c cs → is_on_freelist (role_of c) ≡ on)
      → (t : Reference) → IsIn t X → is_on_freelist (role_of t) ≡ on
  all_as on nothing h t i = absurd i
  all_as on (all_of {c = c} {cs = cs} {V = A} {U = B} m a b) h t (inl e) = ap (λ t. is_on_freelist (role_of t)) e ∙ h c (inl refl)
  all_as on (all_of {c = c} {cs = cs} {V = A} {U = B} m a b) h t (inr j) = elim (IsIn-cases t A B j) [
    | inl k ↦ all_as on a (λ u i. (child_leads c u i).1 ∙ h c (inl refl)) t k
    | inr k ↦ all_as on b (λ u i. h u (inr i)) t k
  ]

  -- all that candidates lead to which are no roots is none
  no_root : {cs X : List Reference} → IsWhole (rules_of file) cs X → ((c : Reference) → IsIn c cs → is_root (role_of c) ≡ false) → (t : Reference) → IsIn t X
      → is_root (role_of t) ≡ false
  no_root nothing h t i = absurd i
  no_root (all_of {c = c} {cs = cs} {V = A} {U = B} m a b) h t (inl e) = ap (λ t. is_root (role_of t)) e ∙ h c (inl refl)
  no_root (all_of {c = c} {cs = cs} {V = A} {U = B} m a b) h t (inr j) = elim (IsIn-cases t A B j) [
    | inl k ↦ no_root a (λ u i. (child_leads c u i).0) t k
    | inr k ↦ no_root b (λ u i. h u (inr i)) t k
  ]

  -- below a root it is the only one
  pub one_root : (c : Reference) {ds X : List Reference} → ds ≡ c ∷ [] → is_root (role_of c) ≡ true → IsWhole (rules_of file) ds X
      → filter (λ r. is_root (role_of r)) X ≡ c ∷ []
  one_root c e h nothing = cc
  one_root c e h (all_of {c = d} {cs = cs} {V = A} {U = B} m a b) =
      let f : d ≡ c = cc in
      let g : cs ≡ [] = cc in
      ap (λ p. cond p (d ∷ filter (λ r. is_root (role_of r)) (A ++ B)) (filter (λ r. is_root (role_of r)) (A ++ B))) (ap (λ d. is_root (role_of d)) f ∙ h)
      ∙ ap (λ l. d ∷ l) (filter-none (λ r. is_root (role_of r)) (A ++ B) (λ t i. elim (IsIn-cases t A B i) [
        | inl j ↦ no_root a (λ u k. (child_leads d u k).0) t j
        | inr j ↦ no_root b (λ u k. absurd (subst (IsIn u) g k)) t j
      ]))
      ∙ ap (λ d. d ∷ []) f

  -- and below other starts there is none
  pub no_roots : {cs X : List Reference} → IsWhole (rules_of file) cs X → ((c : Reference) → IsIn c cs → is_root (role_of c) ≡ false)
      → filter (λ r. is_root (role_of r)) X ≡ []
  no_roots {cs} {X} w h = filter-none (λ r. is_root (role_of r)) X (λ t i. no_root w h t i)

-- counts
