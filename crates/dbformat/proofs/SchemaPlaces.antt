-- Each row of the schema has a place of its own. Few rows with a root come before any of them.
use Rattle.std.proofs.Common.{◌≡◌, ℕ, ◌+◌, ◌<◌, ◌≤◌, ◌⊎◌, inl, inr, Bool, true, false, cond, List, [], ◌∷◌, ◌++◌, map, length, Option, Some, None, refl, sym}
use Rattle.std.proofs.Common.{ap, subst, ◌∙◌, arith}
use Rattle.std.specs.Prelude.{filter, ◌==◌}
use Rattle.std.specs.List.{cons_option}
use Rattle.dbsurvey.specs.Address.{IsIn, EachPair, Address, IsBefore}
use Rattle.dbsurvey.specs.InOrder.{is_before}
use Rattle.dbsurvey.proofs.Order.{IsBefore-irreflexive, IsBefore-trans, cases_before}
use Rattle.dbsurvey.proofs.Ordering.{is_before-from, IsIn-from_map}
use Rattle.dbformat.specs.Address.{start_of, key_step, schema_start}
use Rattle.dbformat.specs.Head.{View, is_interior}
use Rattle.dbformat.specs.Cell.{cells}
use Rattle.dbformat.specs.SchemaRow.{SchemaRow}
use Rattle.dbformat.specs.Reference.{Reference, tree_view}
use Rattle.dbformat.specs.Schema.{SchemaCell, schema_cell, leaf_rows, rows_at, schema, rooted, rooted_rows}
use Rattle.dbformat.specs.Survey.{Survey}
use Rattle.dbsurvey.proofs.Elements.{each_list, each_map, each_weaker}
use Rattle.dbformat.proofs.Cells.{cells_rise, rise_pairs}
use Rattle.dbformat.proofs.Places.{same_front}

abbrev pub HaveOwnPlaces : List SchemaCell → Type 0
HaveOwnPlaces S = EachPair (λ c d. c.place ≡ d.place → ⊥) S

module _ (file : List ℕ) (V : List Reference) where
  in_page : (r : Reference) → HaveOwnPlaces (rows_at file V r)
  in_page r = by_start (start_of r.address == schema_start) (tree_view file r)
    where
      by_kind : (b : Bool) (v : View) → HaveOwnPlaces (cond b [] (map (schema_cell file V r) (cells v)))
      by_kind true v = tt
      by_kind false v = each_map (λ c d. c.place ≡ d.place → ⊥) (schema_cell file V r) (cells v)
          (each_weaker (λ x y. x.0 < y.0) (λ x y. (schema_cell file V r x).place ≡ (schema_cell file V r y).place → ⊥) (cells v)
          (λ x y l e. let h = (same_front r.address r.address (key_step x.0) (key_step y.0) e).1 in let f : ⊥ = omega arith in f)
          (rise_pairs 0 (cells v) (cells_rise v)))

      by_start : (b : Bool) (o : Option View) → HaveOwnPlaces (cond b (leaf_rows file V r o) [])
      by_start false o = tt
      by_start true None = tt
      by_start true (Some v) = by_kind (is_interior v.kind) v

  place_of : (r : Reference) (c : SchemaCell) → IsIn c (rows_at file V r) → (s : ℕ) × (c.place ≡ r.address ++ s ∷ [])
  place_of r c i = by_start (start_of r.address == schema_start) (tree_view file r) i
    where
      by_kind : (b : Bool) (v : View) → IsIn c (cond b [] (map (schema_cell file V r) (cells v))) → (s : ℕ) × (c.place ≡ r.address ++ s ∷ [])
      by_kind true v i = absurd i
      by_kind false v i = let m = IsIn-from_map (schema_cell file V r) (cells v) c i in (key_step m.0.0, ap (λ c. c.place) m.2)

      by_start : (b : Bool) (o : Option View) → IsIn c (cond b (leaf_rows file V r o) []) → (s : ℕ) × (c.place ≡ r.address ++ s ∷ [])
      by_start false o i = absurd i
      by_start true None i = absurd i
      by_start true (Some v) i = by_kind (is_interior v.kind) v i

  pub own_places : Survey file V → HaveOwnPlaces (schema file V)
  unfolding schema
  own_places s = each_list (λ c d. c.place ≡ d.place → ⊥) (rows_at file V) V in_page
      (each_weaker (λ q r. IsBefore q.address r.address)
      (λ q r. (c d : SchemaCell) → IsIn c (rows_at file V q) → IsIn d (rows_at file V r) → c.place ≡ d.place → ⊥) V
      (λ q r l c d i j e. let m = place_of q c i in let n = place_of r d j in
      IsBefore-irreflexive q.address (subst (λ a. IsBefore q.address a) (sym (same_front q.address r.address m.0 n.0 (sym m.1 ∙ e ∙ n.1)).0) l))
      s.ascending)

-- how many have a root

abbrev pub count_rooted : List SchemaCell → ℕ
count_rooted S = length (rooted_rows S)

abbrev IsRooted : SchemaCell → Type 0
IsRooted c = (r : SchemaRow) × (rooted c.row ≡ Some r)

-- the last one with a root, if one has
last_rooted : (S : List SchemaCell) → (count_rooted S ≡ 0)
    ⊎ ((c : SchemaCell) × IsIn c S × IsRooted c × ((d : SchemaCell) → IsIn d S → IsRooted d → (d.place ≡ c.place) ⊎ IsBefore d.place c.place))
last_rooted [] = inl refl
last_rooted (d ∷ S) = by_case (rooted d.row) refl (last_rooted S)
  where
    IsLast : SchemaCell → List SchemaCell → Type 0
    IsLast c S = (d : SchemaCell) → IsIn d S → IsRooted d → (d.place ≡ c.place) ⊎ IsBefore d.place c.place

    not_rooted : (c : SchemaCell) → rooted c.row ≡ None → IsRooted c → ⊥
    not_rooted c e h = let f = sym e ∙ h.1 in cc

    zero_none : (S : List SchemaCell) → count_rooted S ≡ 0 → (c : SchemaCell) → IsIn c S → IsRooted c → ⊥
    zero_none [] e c i h = absurd i
    zero_none (x ∷ S) e c i h = by_row (rooted x.row) refl e i (λ f j. zero_none S f c j h)
      where
        by_row : (o : Option SchemaRow) → rooted x.row ≡ o → length (cons_option o (rooted_rows S)) ≡ 0 → IsIn c (x ∷ S) → (count_rooted S ≡ 0 → IsIn c S → ⊥)
            → ⊥
        by_row None f e (inl k) h' = not_rooted c (ap (λ c. rooted c.row) k ∙ f) h
        by_row None f e (inr j) h' = h' e j
        by_row (Some r) f e i h' = let g : ⊥ = omega arith in g

    newer : (c : SchemaCell) → IsIn c S → IsRooted c → IsLast c S → IsRooted d → (d.place ≡ c.place) ⊎ (IsBefore d.place c.place ⊎ IsBefore c.place d.place)
        → (c : SchemaCell) × IsIn c (d ∷ S) × IsRooted c × IsLast c (d ∷ S)
    newer c i h l k (inl e) = (c, inr i, h, (λ x j m. elim j [ inl f ↦ inl (ap (λ x. x.place) f ∙ e) | inr n ↦ l x n m ]))
    newer c i h l k (inr (inl b)) = (c, inr i, h, (λ x j m. elim j [ inl f ↦ inr (subst (λ x. IsBefore x.place c.place) (sym f) b) | inr n ↦ l x n m ]))
    newer c i h l k (inr (inr b)) = (
      d,
      inl refl,
      k,
      (λ x j m. elim j [
        | inl f ↦ inl (ap (λ x. x.place) f)
        | inr n ↦ inr (elim (l x n m) [ inl e ↦ subst (λ a. IsBefore a d.place) (sym e) b | inr g ↦ IsBefore-trans x.place c.place d.place g b ])
      ]),
    )

    by_case : (o : Option SchemaRow) → rooted d.row ≡ o → (count_rooted S ≡ 0) ⊎ ((c : SchemaCell) × IsIn c S × IsRooted c × IsLast c S)
        → (length (cons_option o (rooted_rows S)) ≡ 0) ⊎ ((c : SchemaCell) × IsIn c (d ∷ S) × IsRooted c × IsLast c (d ∷ S))
    by_case None e (inl z) = inl z
    by_case None e (inr h) = inr (h.0, inr h.1, h.2, (λ x j m. elim j [ inl f ↦ absurd (not_rooted x (ap (λ x. rooted x.row) f ∙ e) m) | inr n ↦ h.3 x n m ]))
    by_case (Some r) e (inl z) = inr (d, inl refl, (r, e), (λ x j m. elim j [ inl f ↦ inl (ap (λ x. x.place) f) | inr n ↦ absurd (zero_none S z x n m) ]))
    by_case (Some r) e (inr h) = inr (newer h.0 h.1 h.2 h.3 (r, e) (cases_before d.place h.0.place))

module _ (a : Address) where
  abbrev before_it : SchemaCell → Bool
  before_it c = is_before c.place a

  -- where all with a root come before a place
  all_before : (S : List SchemaCell) → ((d : SchemaCell) → IsIn d S → IsRooted d → IsBefore d.place a) → count_rooted S ≤ count_rooted (filter before_it S)
  all_before [] h = omega arith
  all_before (d ∷ S) h = by_case (rooted d.row) refl (before_it d) refl (all_before S (λ c i. h c (inr i)))
    where
      by_case : (o : Option SchemaRow) → rooted d.row ≡ o → (b : Bool) → before_it d ≡ b → count_rooted S ≤ count_rooted (filter before_it S)
          → length (cons_option o (rooted_rows S)) ≤ count_rooted (cond b (d ∷ filter before_it S) (filter before_it S))
      by_case None e true f l = rw e l
      by_case None e false f l = l
      by_case (Some r) e true f l = rw e (omega arith)
      by_case (Some r) e false f l = let g = sym f ∙ is_before-from d.place a (h d (inl refl) (r, e)) in cc

  -- or one of them at it
  all_up_to : (S : List SchemaCell) → HaveOwnPlaces S → ((d : SchemaCell) → IsIn d S → IsRooted d → (d.place ≡ a) ⊎ IsBefore d.place a)
      → count_rooted S ≤ count_rooted (filter before_it S) + 1
  all_up_to [] own h = omega arith
  all_up_to (d ∷ S) own h = by_case (rooted d.row) refl (before_it d) refl (all_up_to S own.1 (λ c i. h c (inr i)))
    where
      at_it : d.place ≡ a → count_rooted S ≤ count_rooted (filter before_it S)
      at_it e = all_before S (λ c i k. elim (h c (inr i) k) [ inl f ↦ absurd (own.0 c i (e ∙ sym f)) | inr l ↦ l ])

      by_case : (o : Option SchemaRow) → rooted d.row ≡ o → (b : Bool) → before_it d ≡ b → count_rooted S ≤ count_rooted (filter before_it S) + 1
          → length (cons_option o (rooted_rows S)) ≤ count_rooted (cond b (d ∷ filter before_it S) (filter before_it S)) + 1
      by_case None e true f l = rw e l
      by_case None e false f l = l
      by_case (Some r) e true f l = rw e (omega arith)
      by_case (Some r) e false f l = elim (h d (inl refl) (r, e)) [
        | inl g ↦ (let k = at_it g in omega arith)
        | inr g ↦ (let k = sym f ∙ is_before-from d.place a g in cc)
      ]

pub few_by_place : (S : List SchemaCell) (n : ℕ) → HaveOwnPlaces S
    → ((c : SchemaCell) → IsIn c S → IsRooted c → count_rooted (filter (λ d. is_before d.place c.place) S) < n) → count_rooted S ≤ n
few_by_place S n own h = by_case (last_rooted S)
  where
    by_case : (count_rooted S ≡ 0) ⊎ ((c : SchemaCell) × IsIn c S × IsRooted c
        × ((d : SchemaCell) → IsIn d S → IsRooted d → (d.place ≡ c.place) ⊎ IsBefore d.place c.place)) → count_rooted S ≤ n
    by_case (inl z) = omega arith
    by_case (inr k) = let l = h k.0 k.1 k.2 in let m = all_up_to k.0.place S own k.3 in omega arith
