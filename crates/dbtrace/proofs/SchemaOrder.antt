-- No page of a tree is below a leaf, so the rows of the schema ascend.
use Rattle.std.proofs.Common.{◌≡◌, ℕ, zero, suc, ◌-◌, ◌<◌, ◌⊎◌, inl, inr, Bool, true, false, cond, List, [], ◌∷◌, ◌++◌, map, length, Option, Some, None, refl}
use Rattle.std.proofs.Common.{sym, ap, subst, arith, ◌∙◌}
use Rattle.std.specs.Prelude.{flat_map, option_map, option_to_list, nat_lt, nat_le, ◌==◌}
use Rattle.std.specs.List.{enumerate_from}
use Rattle.std.proofs.lemmas.Bool.{both_ways}
use Rattle.std.proofs.lemmas.List.{length-append}
use Rattle.dbtrace.proofs.Common.{IsIn, Address, IsBefore, IsAscending, usable_size, page_bytes, start_of, then_step, key_step, schema_start, View, is_interior}
use Rattle.dbtrace.proofs.Common.{Cell, cells, Role, root, child, first_overflow, later_overflow, trunk, free_leaf, Way, Reference, role_of, tree_kind}
use Rattle.dbtrace.proofs.Common.{tree_view, SchemaCell, schema_cell, schema, rules_of, TreeKind}
use Rattle.dbsurvey.specs.Address.{EachPair, IsLeftOf}
use Rattle.dbsurvey.specs.Survey.{Link, children}
use Rattle.dbsurvey.proofs.Composing.{named_at-from}
use Rattle.dbsurvey.proofs.Elements.{each_list, each_map, each_weaker, each_within}
use Rattle.dbsurvey.proofs.Order.{IsIn-cases, IsLeftOf-before, IsLeftOf-longer, IsLeftOf-steps}
use Rattle.dbsurvey.proofs.Ordering.{IsIn-from_map, IsIn-from_flat_map, one_at_key}
use Rattle.dbformat.proofs.Visited.{kind_of_view}
use Rattle.dbformat.specs.Payload.{overflow_next}
use Rattle.dbformat.specs.Address.{overflow_step, child_step}
use Rattle.dbformat.specs.Head.{undamaged}
use Rattle.dbformat.specs.Cell.{count, overflow_size, right_child}
use Rattle.dbformat.specs.Reference.{link}
use Rattle.dbformat.specs.Reference.{cell_links, right_links, page_links, overflow_links, trunk_links, role_links, leaf_link, next_trunk, trunk_next}
use Rattle.dbformat.specs.Reference.{leaf_count, most_leaves, free_leaves}
use Rattle.dbformat.specs.Schema.{leaf_rows, rows_at}
use Rattle.dbformat.proofs.Cells.{cells_rise, rise_pairs, is_of_kind}
use Rattle.dbtrace.proofs.Reported.{visited, part, below_start}

-- a row of the schema on a page: it is an undamaged leaf, and the row that of a cell
pub record IsRowOf (file : List ℕ) (V : List Reference) (r : Reference) (d : SchemaCell) : Type 0 where
  pub start : (start_of r.address == schema_start) ≡ true
  pub view : View
  pub is_view : tree_view file r ≡ Some view
  pub leaf : is_interior view.kind ≡ false
  pub cell : ℕ × Cell
  pub readable : IsIn cell (cells view)
  pub is_row : d ≡ schema_cell file V r cell

pub row_from : (file : List ℕ) (V : List Reference) (r : Reference) (d : SchemaCell) → IsIn d (rows_at file V r) → IsRowOf file V r d
row_from file V r d h = by_start (start_of r.address == schema_start) refl (tree_view file r) refl h
  where
    by_kind : (v : View) → tree_view file r ≡ Some v → (start_of r.address == schema_start) ≡ true → (b : Bool) → is_interior v.kind ≡ b
        → IsIn d (cond b [] (map (schema_cell file V r) (cells v))) → IsRowOf file V r d
    by_kind v e s true f h = absurd h
    by_kind v e s false f h = let m = IsIn-from_map (schema_cell file V r) (cells v) d h in record
        { start = s; view = v; is_view = e; leaf = f; cell = m.0; readable = m.1; is_row = m.2 }

    by_start : (b : Bool) → (start_of r.address == schema_start) ≡ b → (o : Option View) → tree_view file r ≡ o → IsIn d (cond b (leaf_rows file V r o) [])
        → IsRowOf file V r d
    by_start false s o e h = absurd h
    by_start true s None e h = absurd h
    by_start true s (Some v) e h = by_kind v e s (is_interior v.kind) refl h

-- a link that leads to a page of a tree is of an interior page
abbrev LeadsToTree : Link Way → Type 0
LeadsToTree l = (kind : TreeKind) × (tree_kind l.role.role ≡ Some kind)

at_link : (p step item : ℕ) (role : Role) (o : Option ℕ) (l : Link Way) → IsIn l (option_to_list (option_map (link p step item role) o)) → (q : ℕ)
    × (o ≡ Some q) × (l ≡ link p step item role q)
at_link p step item role None l h = absurd h
at_link p step item role (Some q) l (inl e) = (q, refl, e)
at_link p step item role (Some q) l (inr n) = absurd n

no_tree : (l m : Link Way) → l ≡ m → tree_kind m.role.role ≡ None → LeadsToTree l → ⊥
no_tree l m e n h = let f = sym n ∙ ap (λ l. tree_kind l.role.role) (sym e) ∙ h.1 in cc

-- links of an undamaged page to a page of its tree
tree_link : (p : ℕ) (kind : TreeKind) (v : View) (l : Link Way) → IsIn l (page_links p kind (Some v)) → LeadsToTree l → is_interior v.kind ≡ true
tree_link p kind v l h t = elim (IsIn-cases l (flat_map (cell_links p kind) (cells v)) (right_links p kind v) h) [
  | inl i ↦ (let m = IsIn-from_flat_map (cell_links p kind) (cells v) l i in of_cell m.0 m.1 m.2)
  | inr i ↦ (let m = at_link p (child_step (count v)) (count v) (child kind) (right_child v) l i in by_right (is_interior v.kind) refl m.0 m.1)
]
  where
    by_right : (b : Bool) → is_interior v.kind ≡ b → (q : ℕ) → right_child v ≡ Some q → is_interior v.kind ≡ true
    by_right true e q f = e
    by_right false e q f = let g : right_child v ≡ None = rw e refl in cc

    by_left : (c : Cell) (x : ℕ × Cell) → IsIn x (cells v) → x.1 ≡ c → (q : ℕ) → c.left ≡ Some q → (b : Bool) → is_interior v.kind ≡ b → is_interior v.kind
        ≡ true
    by_left c x i e q f true g = g
    by_left c x i e q f false g = let n = (is_of_kind v x i).leaf g in let k = sym n ∙ ap (λ c. c.left) e ∙ f in cc

    of_cell : (x : ℕ × Cell) → IsIn x (cells v) → IsIn l (cell_links p kind x) → is_interior v.kind ≡ true
    of_cell (i, c) j h = elim (IsIn-cases l (option_to_list (option_map (link p (overflow_step i) i (first_overflow (overflow_size c))) c.overflow)) _ h) [
      | inl k ↦ (let m = at_link p (overflow_step i) i (first_overflow (overflow_size c)) c.overflow l k in absurd
          (no_tree l (link p (overflow_step i) i (first_overflow (overflow_size c)) m.0) m.2 refl t))
      | inr k ↦ (let m = at_link p (child_step i) i (child kind) c.left l k in by_left c (i, c) j refl m.0 m.1 (is_interior v.kind) refl)
    ]

no_overflow_tree : (p usable left : ℕ) (page : List ℕ) (l : Link Way) → IsIn l (overflow_links p usable left page) → LeadsToTree l → ⊥
no_overflow_tree p usable left page l h t = by_case (nat_lt (usable - 4) left) h
  where
    by_case : (b : Bool) → IsIn l (cond b (link p 0 0 (later_overflow (left - (usable - 4))) (overflow_next page) ∷ []) []) → ⊥
    by_case true (inl e) = no_tree l _ e refl t
    by_case true (inr n) = n
    by_case false n = n

no_trunk_tree : (p usable : ℕ) (page : List ℕ) (l : Link Way) → IsIn l (trunk_links p usable page) → LeadsToTree l → ⊥
no_trunk_tree p usable page l h t = by_case (nat_le (leaf_count page) (most_leaves usable)) h
  where
    by_next : (item : ℕ) (b : Bool) → IsIn l (cond b [] (link p item item trunk (trunk_next page) ∷ [])) → ⊥
    by_next item true n = n
    by_next item false (inl e) = no_tree l _ e refl t
    by_next item false (inr n) = n

    by_case : (b : Bool) → IsIn l (cond b (map (leaf_link p) (enumerate_from 0 (free_leaves page)) ++ next_trunk p page (leaf_count page))
        (next_trunk p page 0)) → ⊥
    by_case false h = by_next 0 (trunk_next page == 0) h
    by_case true h = elim (IsIn-cases l (map (leaf_link p) (enumerate_from 0 (free_leaves page))) (next_trunk p page (leaf_count page)) h) [
      | inl i ↦ (let m = IsIn-from_map (leaf_link p) (enumerate_from 0 (free_leaves page)) l i in no_tree l (leaf_link p m.0) m.2 refl t)
      | inr i ↦ by_next (leaf_count page) (trunk_next page == 0) i
    ]

pub parent_inside : (file : List ℕ) (u w : Reference) (kind : TreeKind) → IsIn w (children (rules_of file) u) → tree_kind (role_of w) ≡ Some kind
    → (v : View) × (tree_view file u ≡ Some v) × (is_interior v.kind ≡ true)
unfolding rules_of tree_view
parent_inside file u w kind i e =
    let m = named_at-from u.address (role_links (role_of u) u.page (usable_size file) (page_bytes file u.page)) w i in
    by_role (role_of u) refl m.0 m.1 (kind, ap (λ t. tree_kind (role_of t)) (sym m.2) ∙ e)
  where
    by_view : (k : TreeKind) (l : Link Way) → LeadsToTree l → (o : Option View) → tree_view file u ≡ o → IsIn l (page_links u.page k o) → (v : View)
        × (tree_view file u ≡ Some v) × (is_interior v.kind ≡ true)
    by_view k l t None f h = absurd h
    by_view k l t (Some v) f h = (v, f, tree_link u.page k v l h t)

    by_role : (role : Role) → role_of u ≡ role → (l : Link Way) → IsIn l (role_links role u.page (usable_size file) (page_bytes file u.page)) → LeadsToTree l
        → (v : View) × (tree_view file u ≡ Some v) × (is_interior v.kind ≡ true)
    by_role (root k) f l h t = by_view k l t (undamaged k u.page (usable_size file) (page_bytes file u.page)) (rw f refl) h
    by_role (child k) f l h t = by_view k l t (undamaged k u.page (usable_size file) (page_bytes file u.page)) (rw f refl) h
    by_role (first_overflow left) f l h t = absurd (no_overflow_tree u.page (usable_size file) left (page_bytes file u.page) l h t)
    by_role (later_overflow left) f l h t = absurd (no_overflow_tree u.page (usable_size file) left (page_bytes file u.page) l h t)
    by_role trunk f l h t = absurd (no_trunk_tree u.page (usable_size file) (page_bytes file u.page) l h t)
    by_role free_leaf f l h t = absurd h

-- addresses

-- what is before another is left of it, or a beginning of it
before_cases : (a b : Address) → IsBefore a b → IsLeftOf a b ⊎ ((s : ℕ) × (d : Address) × (b ≡ a ++ s ∷ d))
before_cases a [] h = absurd h
before_cases [] (y ∷ b) h = inr (y, b, refl)
before_cases (x ∷ a) (y ∷ b) (inl l) = inl (inl l)
before_cases (x ∷ a) (y ∷ b) (inr h) = elim (before_cases a b h.1) [
  | inl l ↦ inl (inr (h.0, l))
  | inr m ↦ inr (m.0, m.1, (let e = h.0 in let f = m.2 in cc))
]

-- one step back from below an address is at it or below it
step_back : (a p d : Address) (s t : ℕ) → a ++ s ∷ d ≡ p ++ t ∷ [] → (p ≡ a) ⊎ ((e : Address) × (p ≡ a ++ s ∷ e))
step_back [] [] d s t e = inl refl
step_back [] (y ∷ p) d s t e = inr (p, cc)
step_back (x ∷ a) [] d s t e = absurd (not_nil a (cc))
  where
    not_nil : (a : Address) → a ++ s ∷ d ≡ [] → ⊥
    not_nil [] e = cc
    not_nil (y ∷ a) e = cc
step_back (x ∷ a) (y ∷ p) d s t e = elim (step_back a p d s t cc) [
  | inl f ↦ inl (cc)
  | inr m ↦ inr (m.0, (let f = m.1 in cc))
]

module _ (file : List ℕ) (k : ℕ) (W : List Reference) (c : Reference) (at : c.address ≡ k ∷ []) where
  abbrev V : List Reference
  V = visited file W c

  -- no page of a tree is below a leaf
  leaf_alone : (u : Reference) (v : View) → IsIn u V → tree_view file u ≡ Some v → is_interior v.kind ≡ false
      → (w : Reference) (kind : TreeKind) → IsIn w V → tree_kind (role_of w) ≡ Some kind → (s : ℕ) (d : Address) → w.address ≡ u.address ++ s ∷ d → ⊥
  leaf_alone u v i is_view leaf w kind j e s d f = go (suc (length w.address)) w kind j e s d f (omega arith)
    where
      go : (n : ℕ) (w : Reference) (kind : TreeKind) → IsIn w V → tree_kind (role_of w) ≡ Some kind → (s : ℕ) (d : Address) → w.address ≡ u.address ++ s ∷ d
          → length w.address < n → ⊥
      go zero w kind j e s d f l = omega arith
      go (suc n) w kind j e s d f l = elim (((part file W c).exact w).0 j).0 [
        | inl m ↦ (elim m [
          | inl g ↦ (let b = below_start file W c k at u i in let h = sym f ∙ ap (λ c. c.address) g
              ∙ at in no_more b.0 (ap (λ a. a ++ s ∷ d) (sym b.1) ∙ h))
          | inr n ↦ n
        ])
        | inr m ↦ by_parent (go n) m.0 m.1 (parent_inside file m.0 w kind m.2 e) (named_at-from m.0.address ((rules_of file).links m.0.page m.0.role) w m.2)
      ]
        where
          no_more : (a : Address) → k ∷ (a ++ s ∷ d) ≡ k ∷ [] → ⊥
          no_more [] h = cc
          no_more (x ∷ a) h = cc

          by_parent : ((p : Reference) (kind : TreeKind) → IsIn p V → tree_kind (role_of p) ≡ Some kind → (s : ℕ) (d : Address) → p.address ≡ u.address ++ s ∷ d
              → length p.address < n → ⊥) → (p : Reference) → IsIn p V → (x : View) × (tree_view file p ≡ Some x) × (is_interior x.kind ≡ true)
              → (r : Link Way) × IsIn r ((rules_of file).links p.page p.role)
              × (w ≡ record { address = p.address ++ (r.step ∷ []); page = r.page; role = r.role }) → ⊥
          by_parent go_on p q x m =
              let g : w.address ≡ p.address ++ (m.0.step ∷ []) = ap (λ w. w.address) m.2 in
              elim (step_back u.address p.address d s m.0.step (sym f ∙ g)) [
                | inl h ↦ (let same : p ≡ u = one_at_key (λ t. t.address) V (part file W c).ascending p u q i h in
                    let y : x.0 ≡ v = one_view (sym x.1 ∙ ap (tree_view file) same ∙ is_view) in both_ways (is_interior v.kind) leaf
                    (subst (λ v. is_interior v.kind ≡ true) y x.2))
                | inr h ↦ (let kind' = kind_of_view file p x.0 x.1 in go_on p kind'.0 q kind'.1 s h.0 h.1
                    (let z = ap length g ∙ length-append p.address (m.0.step ∷ []) in omega arith))
              ]
            where
              one_view : {x y : View} → Some x ≡ Some y → x ≡ y
              one_view e = cc

  -- the rows of the schema are in the order of their places
  pub schema_ascends : IsAscending (λ d. d.place) (schema file V)
  unfolding schema
  schema_ascends = each_list (λ d e. IsBefore d.place e.place) (rows_at file V) V in_page
      (each_within (λ q r. IsBefore q.address r.address)
      (λ q r. (d e : SchemaCell) → IsIn d (rows_at file V q) → IsIn e (rows_at file V r) → IsBefore d.place e.place) V
      (λ q r i j l d e m n. across q r i j l d e (row_from file V q d m) (row_from file V r e n)) (part file W c).ascending)
    where
      in_page : (r : Reference) → EachPair (λ d e. IsBefore d.place e.place) (rows_at file V r)
      in_page r = by_start (start_of r.address == schema_start) (tree_view file r)
        where
          by_kind : (b : Bool) (v : View) → EachPair (λ d e. IsBefore d.place e.place) (cond b [] (map (schema_cell file V r) (cells v)))
          by_kind true v = tt
          by_kind false v = each_map (λ d e. IsBefore d.place e.place) (schema_cell file V r) (cells v)
              (each_weaker (λ x y. x.0 < y.0) (λ x y. IsBefore (schema_cell file V r x).place (schema_cell file V r y).place) (cells v)
              (λ x y l. IsLeftOf-before (then_step r.address (key_step x.0)) (then_step r.address (key_step y.0))
              (IsLeftOf-steps r.address (key_step x.0) (key_step y.0) (omega arith))) (rise_pairs 0 (cells v) (cells_rise v)))

          by_start : (b : Bool) (o : Option View) → EachPair (λ d e. IsBefore d.place e.place) (cond b (leaf_rows file V r o) [])
          by_start false o = tt
          by_start true None = tt
          by_start true (Some v) = by_kind (is_interior v.kind) v

      across : (q r : Reference) → IsIn q V → IsIn r V → IsBefore q.address r.address → (d e : SchemaCell) → IsRowOf file V q d → IsRowOf file V r e
          → IsBefore d.place e.place
      across q r i j l d e a b = elim (before_cases q.address r.address l) [
        | inr m ↦ (let kind = kind_of_view file r b.view b.is_view in absurd (leaf_alone q a.view i a.is_view a.leaf r kind.0 j kind.1 m.0 m.1 m.2))
        | inl m ↦ subst (λ p. IsBefore p e.place) (sym (ap (λ d. d.place) a.is_row))
            (subst (λ p. IsBefore (then_step q.address (key_step a.cell.0)) p) (sym (ap (λ d. d.place) b.is_row))
            (IsLeftOf-before (then_step q.address (key_step a.cell.0)) (then_step r.address (key_step b.cell.0))
            (IsLeftOf-longer q.address r.address (key_step a.cell.0 ∷ []) (key_step b.cell.0 ∷ []) m)))
      ]
