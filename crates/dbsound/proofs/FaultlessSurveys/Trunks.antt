-- A freelist without faults: what its trunks lead to is a finite freelist.
use Rattle.std.proofs.Common.{◌≡◌, ◌≢◌, ℕ, ◌+◌, ◌≤◌, ◌⊎◌, inl, inr, Bool, true, false, cond, List, [], ◌∷◌, ◌++◌, map, refl, sym, ap, subst, ◌∙◌}
use Rattle.std.specs.Prelude.{nat_lt, ◌==◌}
use Rattle.std.specs.List.{enumerate_from}
use Rattle.std.proofs.lemmas.List.{append-nil}
use Rattle.std.proofs.lemmas.Bool.{le-leb, ltb-false, eqb-true, eqb-false}
use Rattle.dbsound.proofs.Common.{IsIn, Address, Link, named_at, children, IsWhole, nothing, usable_size, first_trunk, page_bytes, Role, trunk, free_leaf, Way}
use Rattle.dbsound.proofs.Common.{Reference, role_of, from_of, link, role_links, leaf_count, most_leaves, free_leaves, freelist_starts, start, freelist_start}
use Rattle.dbsound.proofs.Common.{rules_of, page_faults, role_faults, Use, use_as, Freelist, no_trunk, and_trunk, use_of}
use Rattle.dbsurvey.specs.Survey.{Rules}
use Rattle.dbsurvey.specs.Whole.{all_of}
use Rattle.dbsurvey.proofs.Order.{IsIn-left, IsIn-right}
use Rattle.dbformat.specs.Reference.{trunk_next}
use Rattle.dbformat.specs.Reference.{leaf_link, next_trunk}
use Rattle.dbformat.specs.PageFaults.{trunk_fault}

-- a trunk without fault has room for its leaves
pub room_for_leaves : (file : List ℕ) (V : List Reference) (r : Reference) → role_of r ≡ trunk → page_faults file V r ≡ []
    → leaf_count (page_bytes file r.page) ≤ most_leaves (usable_size file)
unfolding page_faults
room_for_leaves file V r e none = by_test (nat_lt (most_leaves (usable_size file)) (leaf_count (page_bytes file r.page))) refl
    (ap (λ role. role_faults role file V r) (sym e) ∙ none)
  where
    by_test : (b : Bool) → nat_lt (most_leaves (usable_size file)) (leaf_count (page_bytes file r.page)) ≡ b
        → trunk_fault (usable_size file) r.page (page_bytes file r.page) ≡ []
        → leaf_count (page_bytes file r.page) ≤ most_leaves (usable_size file)
    by_test true f h = let k = rw f at h in cc
    by_test false f h = ltb-false (most_leaves (usable_size file)) (leaf_count (page_bytes file r.page)) f

links_of_trunk : (role : Role) (p usable : ℕ) (page : List ℕ) → role ≡ trunk → leaf_count page ≤ most_leaves usable
    → role_links role p usable page ≡ map (leaf_link p) (enumerate_from 0 (free_leaves page)) ++ next_trunk p page (leaf_count page)
links_of_trunk role p usable page e h =
    let t = le-leb (leaf_count page) (most_leaves usable) h in
    ap (λ role. role_links role p usable page) e
    ∙ ap (λ b. cond b (map (leaf_link p) (enumerate_from 0 (free_leaves page)) ++ next_trunk p page (leaf_count page)) (next_trunk p page 0)) t

-- the link to trunk n, or none for 0
abbrev pub IsNext : ℕ → List (Link Way) → Type 0
IsNext n ls = ((n ≡ 0) × (ls ≡ [])) ⊎ ((n ≢ 0) × ((l : Link Way) × (ls ≡ l ∷ []) × (l.page ≡ n) × (l.role.role ≡ trunk)))

next_is : (p : ℕ) (page : List ℕ) (item : ℕ) → IsNext (trunk_next page) (next_trunk p page item)
next_is p page item = by_test (trunk_next page == 0) refl
  where
    by_test : (b : Bool) → (trunk_next page == 0) ≡ b → IsNext (trunk_next page) (cond b [] (link p item item trunk (trunk_next page) ∷ []))
    by_test true e = inl (eqb-true (trunk_next page) 0 e, refl)
    by_test false e = inr (eqb-false (trunk_next page) 0 e, (link p item item trunk (trunk_next page), refl, refl, refl))

pub start_is : (file : List ℕ) → IsNext (first_trunk file) (freelist_starts file)
start_is file = by_test (first_trunk file == 0) refl
  where
    by_test : (b : Bool) → (first_trunk file == 0) ≡ b → IsNext (first_trunk file) (cond b [] (start freelist_start trunk (first_trunk file) ∷ []))
    by_test true e = inl (eqb-true (first_trunk file) 0 e, refl)
    by_test false e = inr (eqb-false (first_trunk file) 0 e, (start freelist_start trunk (first_trunk file), refl, refl, refl))

-- the reference of a link at address a
abbrev at_link : Address → Link Way → Reference
at_link a l = record { address = a ++ (l.step ∷ []); page = l.page; role = l.role }

whole_nothing : (rules : Rules Way) {cs V : List Reference} → IsWhole rules cs V → cs ≡ [] → V ≡ []
whole_nothing rules nothing e = refl
whole_nothing rules (all_of m a b) e = cc

module _ (file : List ℕ) where
  -- what is below the leaves of a trunk from leaf k on and its next trunk
  abbrev IsListed : List Reference → ℕ → List ℕ → ℕ → Type 0
  IsListed V p leaves n = (W : List Use) × (map use_of V ≡ map (use_as free_leaf p) leaves ++ W) × Freelist file n W

  abbrev HasRoom : List Reference → Type 0
  HasRoom V = (t : Reference) → IsIn t V → role_of t ≡ trunk → leaf_count (page_bytes file t.page) ≤ most_leaves (usable_size file)

  leaf_has_none : (a : Address) (p k x : ℕ) → children (rules_of file) (at_link a (leaf_link p (k, x))) ≡ []
  unfolding rules_of
  leaf_has_none a p k x = refl

  trunk_children : (c : Reference) → role_of c ≡ trunk → leaf_count (page_bytes file c.page) ≤ most_leaves (usable_size file)
      → children (rules_of file) c ≡ named_at c.address (map (leaf_link c.page) (enumerate_from 0 (free_leaves (page_bytes file c.page)))
      ++ next_trunk c.page (page_bytes file c.page) (leaf_count (page_bytes file c.page)))
  unfolding rules_of
  trunk_children c e h = ap (named_at c.address) (links_of_trunk (role_of c) c.page (usable_size file) (page_bytes file c.page) e h)

  trunk_use : (c : Reference) → role_of c ≡ trunk → use_of c ≡ use_as trunk 0 c.page
  trunk_use c e = ap (λ role. use_as role (from_of c) c.page) e

  at_trunk : (c : Reference) (n : ℕ) (V : List Reference) → role_of c ≡ trunk → c.page ≡ n → n ≢ 0
      → leaf_count (page_bytes file c.page) ≤ most_leaves (usable_size file)
      → IsListed V c.page (free_leaves (page_bytes file c.page)) (trunk_next (page_bytes file c.page)) → IsListed (c ∷ V) 0 [] n
  at_trunk c n V role at some room h =
      let term : Freelist file c.page (use_as trunk 0 c.page ∷ map (use_as free_leaf c.page) (free_leaves (page_bytes file c.page)) ++ h.0) =
      and_trunk (λ e. some (sym at ∙ e)) room h.2 in (
        use_as trunk 0 c.page ∷ map (use_as free_leaf c.page) (free_leaves (page_bytes file c.page)) ++ h.0,
        ap (λ u. u ∷ map use_of V) (trunk_use c role) ∙ ap (λ l. use_as trunk 0 c.page ∷ l) h.1,
        subst (λ q. Freelist file q (use_as trunk 0 c.page ∷ map (use_as free_leaf c.page) (free_leaves (page_bytes file c.page)) ++ h.0)) at term,
      )

  -- a leaf, and what comes after it
  one_leaf : (a : Address) (p k x : ℕ) (c : Reference) (V U : List Reference) (W : List Use) → c ≡ at_link a (leaf_link p (k, x)) → V ≡ [] → map use_of U ≡ W
      → map use_of (c ∷ (V ++ U)) ≡ use_as free_leaf p x ∷ W
  one_leaf a p k x c V U W f e h = ap (λ X. map use_of (c ∷ (X ++ U))) e ∙ ap (λ c. use_of c ∷ map use_of U) f ∙ ap (λ l. use_as free_leaf p x ∷ l) h

  -- nothing after
  no_more : (V U : List Reference) (W : List Use) → U ≡ [] → map use_of V ≡ W → map use_of (V ++ U) ≡ W
  no_more V U W e h = ap (λ X. map use_of (V ++ X)) e ∙ ap (map use_of) (append-nil V) ∙ h

  listed : {cs V : List Reference} → IsWhole (rules_of file) cs V → (a : Address) (p k : ℕ) (leaves : List ℕ) (n : ℕ) (ls : List (Link Way))
      → IsNext n ls → cs ≡ named_at a (map (leaf_link p) (enumerate_from k leaves) ++ ls) → HasRoom V → IsListed V p leaves n
  listed nothing a p k [] n ls (inl h) e room = ([], refl, subst (λ n. Freelist file n []) (sym h.0) no_trunk)
  listed nothing a p k [] n ls (inr h) e room = let f = e ∙ ap (named_at a) h.1.1 in cc
  listed nothing a p k (x ∷ leaves) n ls next e room = cc
  listed (all_of {c = c} {cs = cs} {V = V} {U = U} m w more) a p k (x ∷ leaves) n ls next e room =
      let f : c ≡ at_link a (leaf_link p (k, x)) = cc in
      let g : cs ≡ named_at a (map (leaf_link p) (enumerate_from (k + 1) leaves) ++ ls) = cc in
      at_leaf f (listed more a p (k + 1) leaves n ls next g (λ t i. room t (inr (IsIn-right t V U i))))
    where
      at_leaf : c ≡ at_link a (leaf_link p (k, x)) → IsListed U p leaves n → IsListed (c ∷ (V ++ U)) p (x ∷ leaves) n
      at_leaf f rest = (
        rest.0,
        one_leaf a p k x c V U (map (use_as free_leaf p) leaves ++ rest.0) f
            (whole_nothing (rules_of file) w (ap (children (rules_of file)) f ∙ leaf_has_none a p k x)) rest.1,
        rest.2,
      )
  listed (all_of {c = c} {cs = cs} {V = V} {U = U} m w more) a p k [] n ls (inl h) e room = let f = e ∙ ap (named_at a) h.1 in cc
  listed (all_of {c = c} {cs = cs} {V = V} {U = U} m w more) a p k [] n ls (inr h) e room =
      let f : c ∷ cs ≡ at_link a h.1.0 ∷ [] = e ∙ ap (named_at a) h.1.1 in
      let f1 : c ≡ at_link a h.1.0 = cc in
      let f2 : cs ≡ [] = cc in
      let role : role_of c ≡ trunk = ap role_of f1 ∙ h.1.3 in
      let at : c.page ≡ n = ap (λ c. c.page) f1 ∙ h.1.2 in
      let fits = room c (inl refl) role in
      let next = next_is c.page (page_bytes file c.page) (leaf_count (page_bytes file c.page)) in
      at_next f2 role at fits (listed w c.address c.page 0 (free_leaves (page_bytes file c.page)) (trunk_next (page_bytes file c.page))
      (next_trunk c.page (page_bytes file c.page) (leaf_count (page_bytes file c.page))) next
      (trunk_children c role fits) (λ t i. room t (inr (IsIn-left t V U i))))
    where
      at_next : cs ≡ [] → role_of c ≡ trunk → c.page ≡ n → leaf_count (page_bytes file c.page) ≤ most_leaves (usable_size file)
          → IsListed V c.page (free_leaves (page_bytes file c.page)) (trunk_next (page_bytes file c.page)) → IsListed (c ∷ (V ++ U)) p [] n
      at_next f2 role at fits deep = ends (at_trunk c n V role at h.0 fits deep)
        where
          ends : IsListed (c ∷ V) 0 [] n → IsListed (c ∷ (V ++ U)) p [] n
          ends here = (here.0, no_more (c ∷ V) U here.0 (whole_nothing (rules_of file) more f2) here.1, here.2)

  -- all that the freelist's start leads to
  pub freelist_of : (U : List Reference) → IsWhole (rules_of file) (named_at [] (freelist_starts file)) U → HasRoom U
      → Freelist file (first_trunk file) (map use_of U)
  freelist_of U w room =
      let h = listed w [] 0 0 [] (first_trunk file) (freelist_starts file) (start_is file) refl room in
      subst (λ l. Freelist file (first_trunk file) l) (sym h.1) h.2
