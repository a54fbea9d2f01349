-- What is visited below a start: it has this start, and the rows of at most one tree.
use Rattle.dbreport.proofs.Common.{◌≡◌, ℕ, zero, suc, ◌+◌, ◌<◌, ◌⊎◌, inl, inr, true, false, cond, List, [], ◌∷◌, ◌++◌, map, length, Some, None, refl, sym, ap}
use Rattle.dbreport.proofs.Common.{ap₂, subst, ◌∙◌, arith, length-append, append-nil, filter, filter_map, ◌==◌, ne_eqb, geometry, Role, Way, Reference, role_of}
use Rattle.dbreport.proofs.Common.{StatRow, FormRow, stat_rows, tree_rows, rules_of, cases_Bool, cons_option, map-append, Address, IsIn, is_followed, part_of}
use Rattle.dbreport.proofs.Common.{filter-none, filter-from, filter_map-from, start_of, tree_row, row_in, trees_reached, are_rules, rows_join, rows_none}
use Rattle.std.proofs.lemmas.List.Elements.{filter-append}
use Rattle.dbsurvey.specs.Survey.{Link, IsRising, IsPart, named_at, children}
use Rattle.dbsurvey.proofs.Composing.{named_at-from, named_at-step, named_at-apart, part_below}
use Rattle.dbsurvey.proofs.Ordering.{IsIn-from_map}
use Rattle.dbsurvey.proofs.Remaining.{rest_none, rest_skip, rest_one}
use Rattle.dbsurvey.proofs.Traversal.{free_at_most, traverse_part}
use Rattle.dbformat.specs.Reference.{is_root, is_on_freelist}
use Rattle.dbformat.proofs.Roles.{child_leads, no_root_on, root_off}
use Rattle.dbsound.proofs.RowCounts.RowPages.{of_row, row_of}

-- ---- rows and roots of lists of visits

first_row : (file : List ℕ) (r : Reference) (V : List Reference) (row : StatRow) → row_in (role_of r) file r ≡ Some row → stat_rows file (r ∷ V) ≡ row
    ∷ stat_rows file V
unfolding stat_rows
first_row file r V row e = ap (λ o. cons_option o (filter_map (λ r. row_in (role_of r) file r) V)) e

-- a row has the start of a visit
row_from : (file : List ℕ) (V : List Reference) (row : StatRow) → IsIn row (stat_rows file V) → (t : Reference) × IsIn t V × (row.start ≡ start_of t.address)
unfolding stat_rows
row_from file V row i =
    let m = filter_map-from (λ r. row_in (role_of r) file r) V row i in
    (m.0, m.1, (of_row file m.0 (role_of m.0) row m.2).1)

-- where all visits are on the freelist, there is no row
no_row : (file : List ℕ) (r : Reference) (role : Role) → is_on_freelist role ≡ true → row_in role file r ≡ None
no_row file r role e = grind arith

no_rows : (file : List ℕ) (V : List Reference) → ((t : Reference) → IsIn t V → is_on_freelist (role_of t) ≡ true) → stat_rows file V ≡ []
unfolding stat_rows
no_rows file [] h = refl
no_rows file (t ∷ V) h = ap (λ o. cons_option o (filter_map (λ r. row_in (role_of r) file r) V)) (no_row file t (role_of t) (h t (inl refl)))
    ∙ no_rows file V (λ u i. h u (inr i))

trees_join : (A B : List Reference) → trees_reached (A ++ B) ≡ trees_reached A ++ trees_reached B
trees_join A B = simp (filter-append, map-append)

-- a start that was reached is that of a visit
tree_from : (V : List Reference) (k : ℕ) → IsIn k (trees_reached V) → (t : Reference) × IsIn t V × (k ≡ start_of t.address)
tree_from V k i =
    let m = IsIn-from_map (λ (r : Reference). start_of r.address) (filter (λ (r : Reference). is_root (role_of r)) V) k i in
    (m.0, (filter-from (λ (r : Reference). is_root (role_of r)) V m.0 m.1).0, m.2)

-- ---- the rows of trees, part by part

-- the row of the tree of start k, from rows of pages
abbrev pub row_of_tree : List StatRow → ℕ → FormRow
row_of_tree rows k = tree_row k (filter (λ row. row.start == k) rows)

map_same : {X Y : Type 0} (f g : X → Y) (xs : List X) → ((x : X) → IsIn x xs → f x ≡ g x) → map f xs ≡ map g xs
map_same f g [] h = refl
map_same f g (x ∷ xs) h = ap₂ (λ y ys. y ∷ ys) (h x (inl refl)) (map_same f g xs (λ y i. h y (inr i)))

-- rows of other starts change nothing
in_left : (rows more : List StatRow) (k : ℕ) → ((row : StatRow) → IsIn row more → row.start ≡ k → ⊥) → row_of_tree (rows ++ more) k ≡ row_of_tree rows k
in_left rows more k h =
    let none = filter-none (λ (row : StatRow). row.start == k) more (λ row i. ne_eqb row.start k (h row i)) in
    ap (tree_row k) (filter-append (λ (row : StatRow). row.start == k) rows more ∙ rw none (append-nil _))

in_right : (rows more : List StatRow) (k : ℕ) → ((row : StatRow) → IsIn row rows → row.start ≡ k → ⊥) → row_of_tree (rows ++ more) k ≡ row_of_tree more k
in_right rows more k h =
    let none = filter-none (λ (row : StatRow). row.start == k) rows (λ row i. ne_eqb row.start k (h row i)) in
    ap (tree_row k) (filter-append (λ (row : StatRow). row.start == k) rows more ∙ rw none refl)

-- the visits of Q have later starts than those of P
abbrev pub HasLaterStarts : List Reference → List Reference → Type 0
HasLaterStarts P Q = (t u : Reference) → IsIn t P → IsIn u Q → start_of t.address < start_of u.address

pub trees_apart : (file : List ℕ) (P Q : List Reference) → HasLaterStarts P Q → tree_rows file (P ++ Q) ≡ tree_rows file P ++ tree_rows file Q
trees_apart file P Q h =
    let rows = stat_rows file P ++ stat_rows file Q in
    ap₂ (λ ks rows. map (row_of_tree rows) ks) (trees_join P Q) (rows_join file P Q)
    ∙ map-append (row_of_tree rows) (trees_reached P) (trees_reached Q)
    ∙ ap₂ (λ a b. a ++ b) (map_same (row_of_tree rows) (row_of_tree (stat_rows file P)) (trees_reached P) of_left)
    (map_same (row_of_tree rows) (row_of_tree (stat_rows file Q)) (trees_reached Q) of_right)
  where
    of_left : (k : ℕ) → IsIn k (trees_reached P) → row_of_tree (stat_rows file P ++ stat_rows file Q) k ≡ row_of_tree (stat_rows file P) k
    of_left k i = in_left (stat_rows file P) (stat_rows file Q) k (λ row j e.
        let t = tree_from P k i in
        let u = row_from file Q row j in omega (arith, h t.0 u.0 t.1 u.1, t.2, e, u.2))

    of_right : (k : ℕ) → IsIn k (trees_reached Q) → row_of_tree (stat_rows file P ++ stat_rows file Q) k ≡ row_of_tree (stat_rows file Q) k
    of_right k i = in_right (stat_rows file P) (stat_rows file Q) k (λ row j e.
        let t = row_from file P row j in
        let u = tree_from Q k i in omega (arith, h t.0 u.0 t.1 u.1, t.2, e, u.2))

-- ---- below starts

-- The visits P have no row and reach no tree, or they reach the tree of start k alone, and have a row.
pub data IsTree (file : List ℕ) (k : ℕ) (P : List Reference) : Type 0 where
  no_tree : stat_rows file P ≡ [] → trees_reached P ≡ [] → IsTree file k P
  tree : (row : StatRow) (rows : List StatRow) → stat_rows file P ≡ row ∷ rows → trees_reached P ≡ k ∷ [] → IsTree file k P

-- a start is a root, or on the freelist
abbrev pub IsStart : Link Way → Type 0
IsStart l = (is_root l.role.role ≡ true) ⊎ (is_on_freelist l.role.role ≡ true)

module _ (file : List ℕ) where
  -- what is visited below some links, after W
  abbrev pub below_links : List Reference → Address → List (Link Way) → List Reference
  below_links W a ls = part_of (rules_of file) (geometry file).pages W (named_at a ls)

  is_part : (W : List Reference) (a : Address) (ls : List (Link Way)) → IsRising ls → IsPart (rules_of file) W (named_at a ls) (below_links W a ls)
  is_part W a ls rising = traverse_part (rules_of file) (geometry file).pages (are_rules file) (geometry file).pages W (named_at a ls)
      (free_at_most (geometry file).pages W) (named_at-apart a ls rising)

  -- a visit has the start that it is below
  start_among : (W : List Reference) (ls : List (Link Way)) → IsRising ls → (t : Reference) → IsIn t (below_links W [] ls) → (l : Link Way) × IsIn l ls
      × (start_of t.address ≡ l.step)
  start_among W ls rising t i =
      let b = part_below (rules_of file) W (named_at [] ls) (below_links W [] ls) (is_part W [] ls rising) t i in
      let m = named_at-from [] ls b.0 b.1 in
      (m.0, m.1, ap start_of b.2.1 ∙ ap (λ (c : Reference). start_of (c.address ++ b.2.0)) m.2)

  one_rising : (l : Link Way) → IsRising (l ∷ [])
  one_rising l = ((λ m i. absurd i), tt)

  pub only_start : (W : List Reference) (l : Link Way) (t : Reference) → IsIn t (below_links W [] (l ∷ [])) → start_of t.address ≡ l.step
  only_start W l t i =
      let m = start_among W (l ∷ []) (one_rising l) t i in
      let e : m.0 ≡ l = elim m.1 [ inl e ↦ e | inr j ↦ absurd j ] in
      m.2 ∙ ap (λ (l : Link Way). l.step) e

  pub later_starts_below : (W U : List Reference) (l : Link Way) (ls : List (Link Way)) → IsRising (l ∷ ls)
      → HasLaterStarts (below_links W [] (l ∷ [])) (below_links U [] ls)
  later_starts_below W U l ls rising t u i j =
      let m = start_among U ls rising.1 u j in omega (arith, only_start W l t i, m.2, rising.0 m.0 m.1)

  pub row_start : (W : List Reference) (l : Link Way) (row : StatRow) → IsIn row (stat_rows file (below_links W [] (l ∷ []))) → row.start ≡ l.step
  row_start W l row i = let m = row_from file (below_links W [] (l ∷ [])) row i in m.2 ∙ only_start W l m.0 m.1

  -- below a page there is no root
  no_root_below : (W : List Reference) (c t : Reference) → IsIn t (part_of (rules_of file) (geometry file).pages W (children (rules_of file) c))
      → is_root (role_of t) ≡ false
  no_root_below W c t i = elim (((is_part W c.address ((rules_of file).links c.page c.role) ((are_rules file).rising c.page c.role)).exact t).0 i).0 [
    | inl j ↦ (child_leads file c t j).0
    | inr u ↦ (child_leads file u.0 t u.2).0
  ]

  -- below what is on the freelist all is on it
  on_freelist : (W : List Reference) (ls : List (Link Way)) → IsRising ls → ((c : Reference) → IsIn c (named_at [] ls) → is_on_freelist (role_of c) ≡ true)
      → (n : ℕ) (t : Reference) → length t.address < n → IsIn t (below_links W [] ls) → is_on_freelist (role_of t) ≡ true
  on_freelist W ls rising h zero t l i = absurd (omega arith)
  on_freelist W ls rising h (suc n) t l i = elim (((is_part W [] ls rising).exact t).0 i).0 [
    | inl j ↦ h t j
    | inr u ↦ (
        let k = named_at-step u.0.address ((rules_of file).links u.0.page u.0.role) t u.2 in
        let e : length t.address ≡ length u.0.address + 1 = ap length k.1 ∙ length-append u.0.address (k.0 ∷ []) in
        (child_leads file u.0 t u.2).1 ∙ on_freelist W ls rising h n u.0 (omega arith) u.1)
  ]

  all_on_freelist : (W : List Reference) (l : Link Way) → is_on_freelist l.role.role ≡ true → (t : Reference) → IsIn t (below_links W [] (l ∷ []))
      → is_on_freelist (role_of t) ≡ true
  all_on_freelist W l e t i = on_freelist W (l ∷ []) (one_rising l) (λ c j. elim j [ inl f ↦ ap (λ c. is_on_freelist (role_of c)) f ∙ e | inr k ↦ absurd k ])
      (suc (length t.address)) t (omega arith) i

  pub freelist_rows : (W : List Reference) (l : Link Way) → is_on_freelist l.role.role ≡ true → stat_rows file (below_links W [] (l ∷ [])) ≡ []
  freelist_rows W l e = no_rows file (below_links W [] (l ∷ [])) (all_on_freelist W l e)

  freelist_tree : (W : List Reference) (l : Link Way) → is_on_freelist l.role.role ≡ true → IsTree file l.step (below_links W [] (l ∷ []))
  freelist_tree W l e =
      let P = below_links W [] (l ∷ []) in
      no_tree (freelist_rows W l e) (ap (map (λ (r : Reference). start_of r.address))
      (filter-none (λ (r : Reference). is_root (role_of r)) P (λ t i. no_root_on (role_of t) (all_on_freelist W l e t i))))

  root_tree : (W : List Reference) (l : Link Way) → is_root l.role.role ≡ true → IsTree file l.step (below_links W [] (l ∷ []))
  root_tree W l e = elim (cases_Bool (is_followed (rules_of file) W c)) [
    | inl f ↦ subst (IsTree file l.step) (sym (rest_one (rules_of file) (geometry file).pages (are_rules file) W c f)) visited
    | inr f ↦ subst (IsTree file l.step) (sym (rest_skip (rules_of file) (geometry file).pages (are_rules file) W c [] f
        ∙ rest_none (rules_of file) (geometry file).pages (are_rules file) W)) (no_tree (rows_none file) refl)
  ]
    where
      c : Reference
      c = record { address = l.step ∷ []; page = l.page; role = l.role }

      visited : IsTree file l.step (c ∷ part_of (rules_of file) (geometry file).pages (W ++ (c ∷ [])) (children (rules_of file) c))
      visited =
          let X = part_of (rules_of file) (geometry file).pages (W ++ (c ∷ [])) (children (rules_of file) c) in
          let row = row_of file c (role_of c) (root_off (role_of c) e) in
          let others = filter (λ (r : Reference). is_root (role_of r)) X in
          tree row.0 (stat_rows file X) (first_row file c X row.0 row.1) (
          ap (λ b. map (λ (r : Reference). start_of r.address) (cond b (c ∷ others) others)) e
          ∙ ap (λ rs. map (λ (r : Reference). start_of r.address) (c ∷ rs))
          (filter-none (λ (r : Reference). is_root (role_of r)) X (no_root_below (W ++ (c ∷ [])) c)))

  -- below a start there is at most its tree
  pub one_tree : (W : List Reference) (l : Link Way) → IsStart l → IsTree file l.step (below_links W [] (l ∷ []))
  one_tree W l (inl e) = root_tree W l e
  one_tree W l (inr e) = freelist_tree W l e
