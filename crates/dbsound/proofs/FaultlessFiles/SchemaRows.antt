-- The rows of a schema without faults: each is taken, has a name, and has a place of its own; so few enough have a root.
use Rattle.std.proofs.Common.{◌≡◌, ℕ, ◌<◌, ◌≤◌, inl, inr, Bool, true, false, cond, not, ◌&&◌, List, [], ◌∷◌, map, length, Option, Some, None, refl, sym, ap}
use Rattle.std.proofs.Common.{subst, ◌∙◌}
use Rattle.std.specs.Prelude.{filter, filter_map, is_some, IsSome, Result, Ok, Err, nat_le, ◌==◌, All}
use Rattle.std.specs.List.{cons_option}
use Rattle.std.specs.Result.{result_ok}
use Rattle.std.proofs.lemmas.Bool.{leb-false}
use Rattle.dbsound.proofs.Common.{IsIn, is_before, start_of, schema_start, last_root_start, View, is_interior, Cell, cells, SchemaRow, Reference, tree_view}
use Rattle.dbsound.proofs.Common.{SchemaCell, schema_cell, leaf_rows, rows_at, schema, rooted, rooted_rows, Survey, row_faults, row_faults_at, walk_faults}
use Rattle.dbsound.proofs.Common.{with_root, RowFault}
use Rattle.dbsurvey.proofs.Ordering.{IsIn-from_map, IsIn-from_flat_map}
use Rattle.dbformat.specs.KeyFaults.{earlier_roots, row_faults_if}
use Rattle.dbformat.specs.declared.RowFault.TheVariants.{Malformed, Root}
use Rattle.dbformat.proofs.NoFaults.{follows_all}
use Rattle.dbsurvey.proofs.Lists.{both_empty}
use Rattle.dbformat.proofs.SchemaPlaces.{own_places, count_rooted, few_by_place}
use Rattle.std.proofs.lemmas.List.Elements.{All-nil, All-cons}

-- whose row of the schema a cell is
abbrev pub IsRowOf : List ℕ → List Reference → Reference → SchemaCell → Type 0
IsRowOf file V r c = (v : View) × (tree_view file r ≡ Some v) × (is_interior v.kind ≡ false) × ((start_of r.address == schema_start) ≡ true)
    × ((x : ℕ × Cell) × IsIn x (cells v) × (c ≡ schema_cell file V r x))

pub row_of_page : (file : List ℕ) (V : List Reference) (r : Reference) (c : SchemaCell) → IsIn c (rows_at file V r) → IsRowOf file V r c
row_of_page file V r c i = by_start (start_of r.address == schema_start) refl i
  where
    by_kind : (v : View) (b : Bool) → tree_view file r ≡ Some v → (start_of r.address == schema_start) ≡ true → is_interior v.kind ≡ b
        → IsIn c (cond b [] (map (schema_cell file V r) (cells v))) → IsRowOf file V r c
    by_kind v true e s f i = absurd i
    by_kind v false e s f i = (v, e, f, s, IsIn-from_map (schema_cell file V r) (cells v) c i)

    by_view : (o : Option View) → tree_view file r ≡ o → (start_of r.address == schema_start) ≡ true → IsIn c (leaf_rows file V r o) → IsRowOf file V r c
    by_view None e s i = absurd i
    by_view (Some v) e s i = by_kind v (is_interior v.kind) e s refl i

    by_start : (b : Bool) → (start_of r.address == schema_start) ≡ b → IsIn c (cond b (leaf_rows file V r (tree_view file r)) []) → IsRowOf file V r c
    by_start true s i = by_view (tree_view file r) refl s i
    by_start false s i = absurd i

-- what no fault says of a row
IsTaken : List ℕ → List Reference → SchemaCell → Type 0
IsTaken file V c = (r : SchemaRow) × (c.row ≡ Ok r) × IsSome r.name × ((not (r.root == 0) && nat_le last_root_start (earlier_roots file V c.place)) ≡ false)

taken_if : (is_full : Bool) (c : SchemaCell) → row_faults_if is_full c ≡ [] → (r : SchemaRow) × (c.row ≡ Ok r) × IsSome r.name
    × ((not (r.root == 0) && is_full) ≡ false)
taken_if is_full c e = by_row c.row refl
  where
    by_tests : (r : SchemaRow) → c.row ≡ Ok r → (a b : Bool) → is_some r.name ≡ a → (not (r.root == 0) && is_full) ≡ b
        → (r : SchemaRow) × (c.row ≡ Ok r) × IsSome r.name × ((not (r.root == 0) && is_full) ≡ false)
    by_tests r o true false n f = (r, o, n, f)
    by_tests r o false b n f = let h = rw (o, n) at e in cc
    by_tests r o true true n f = let h = rw (o, n, f) at e in cc

    by_row : (o : Result SchemaRow RowFault) → c.row ≡ o → (r : SchemaRow) × (c.row ≡ Ok r) × IsSome r.name × ((not (r.root == 0) && is_full) ≡ false)
    by_row (Err Malformed) o = let h = rw o at e in cc
    by_row (Err (Root value)) o = let h = rw o at e in cc
    by_row (Ok r) o = by_tests r o (is_some r.name) (not (r.root == 0) && is_full) refl refl

module _ (file : List ℕ) (V : List Reference) (s : Survey file V) (none : walk_faults file V ≡ []) where
  row_is_taken : (r : Reference) (v : View) (x : ℕ × Cell) → IsIn r V → tree_view file r ≡ Some v → is_interior v.kind ≡ false
      → (start_of r.address == schema_start) ≡ true
      → IsIn x (cells v) → IsTaken file V (schema_cell file V r x)
  unfolding row_faults IsTaken
  row_is_taken r v x i e f t j =
      let h = (both_empty (row_faults_at file V r v x) _ ((follows_all file V s none).1 r v i e x j)).0 in
      let k : row_faults file V (schema_cell file V r x) ≡ [] = rw (t, f) at h in
      taken_if (nat_le last_root_start (earlier_roots file V (schema_cell file V r x).place)) (schema_cell file V r x) k

  all_taken : (c : SchemaCell) → IsIn c (schema file V) → IsTaken file V c
  unfolding schema
  all_taken c i =
      let m = IsIn-from_flat_map (rows_at file V) V c i in
      let h = row_of_page file V m.0 c m.2 in
      subst (IsTaken file V) (sym h.4.2) (row_is_taken m.0 h.0 h.4.0 m.1 h.1 h.2 h.3 h.4.1)

  few_at : (c : SchemaCell) → IsIn c (schema file V) → (r : SchemaRow) × (rooted c.row ≡ Some r)
      → count_rooted (filter (λ d. is_before d.place c.place) (schema file V)) < last_root_start
  unfolding IsTaken
  few_at c i h = by_taken (all_taken c i)
    where
      by_tests : (r : SchemaRow) → c.row ≡ Ok r → (a b : Bool) → (r.root == 0) ≡ a → nat_le last_root_start (earlier_roots file V c.place) ≡ b
          → (not (r.root == 0) && nat_le last_root_start (earlier_roots file V c.place)) ≡ false → earlier_roots file V c.place < last_root_start
      by_tests r o true b e f g = let k = ap rooted (sym o) ∙ h.1 in let l = rw e at k in cc
      by_tests r o false true e f g = let k = rw (e, f) at g in cc
      by_tests r o false false e f g = leb-false last_root_start (earlier_roots file V c.place) f

      by_taken : (r : SchemaRow) × (c.row ≡ Ok r) × IsSome r.name × ((not (r.root == 0) && nat_le last_root_start (earlier_roots file V c.place)) ≡ false)
          → earlier_roots file V c.place < last_root_start
      by_taken t = by_tests t.0 t.1 (t.0.root == 0) (nat_le last_root_start (earlier_roots file V c.place)) refl refl t.3

  pub few_rooted : length (rooted_rows (schema file V)) ≤ last_root_start
  few_rooted = few_by_place (schema file V) last_root_start (own_places file V s) few_at

  -- as rows that were taken, with their names
  pub each_taken : (c : SchemaCell) → IsIn c (schema file V) → (r : SchemaRow) × (c.row ≡ Ok r) × IsSome r.name
  unfolding IsTaken
  each_taken c i = let t = all_taken c i in (t.0, t.1, t.2)

-- the rows that were taken
abbrev pub taken_rows : List SchemaCell → List SchemaRow
taken_rows S = filter_map (λ c. result_ok c.row) S

-- each row was taken, with a name
abbrev pub AreTaken : List SchemaCell → Type 0
AreTaken S = (c : SchemaCell) → IsIn c S → (r : SchemaRow) × (c.row ≡ Ok r) × IsSome r.name

pub rows_spelled : (S : List SchemaCell) → AreTaken S → map (λ c. c.row) S ≡ map Ok (taken_rows S)
rows_spelled [] h = refl
rows_spelled (c ∷ S) h =
    let t = h c (inl refl) in
    let e : c.row ≡ Ok t.0 = t.1 in
    ap (λ o. o ∷ map (λ c. c.row) S) e ∙ ap (λ l. Ok t.0 ∷ l) (rows_spelled S (λ d i. h d (inr i)))
    ∙ sym (ap (λ o. map Ok (cons_option (result_ok o) (taken_rows S))) e)

pub rows_named : (S : List SchemaCell) → AreTaken S → All (λ r. IsSome r.name) (taken_rows S)
rows_named [] h = All-nil (λ r. IsSome r.name)
rows_named (c ∷ S) h =
    let t = h c (inl refl) in
    subst (λ o. All (λ r. IsSome r.name) (cons_option (result_ok o) (taken_rows S))) (sym t.1)
    (All-cons (λ r. IsSome r.name) t.0 (taken_rows S) t.2 (rows_named S (λ d i. h d (inr i))))

pub rows_rooted : (S : List SchemaCell) → AreTaken S → with_root (taken_rows S) ≡ rooted_rows S
rows_rooted [] h = refl
rows_rooted (c ∷ S) h =
    let t = h c (inl refl) in
    ap (λ o. with_root (cons_option (result_ok o) (taken_rows S))) t.1
    ∙ by_root t.0 (t.0.root == 0) refl (rows_rooted S (λ d i. h d (inr i)))
    ∙ sym (ap (λ o. cons_option (rooted o) (rooted_rows S)) t.1)
  where
    by_root : (r : SchemaRow) (b : Bool) → (r.root == 0) ≡ b → with_root (taken_rows S) ≡ rooted_rows S
        → with_root (r ∷ taken_rows S) ≡ cons_option (rooted (Ok r)) (rooted_rows S)
    by_root r true e k = rw e k
    by_root r false e k = rw e (ap (λ l. r ∷ l) k)
