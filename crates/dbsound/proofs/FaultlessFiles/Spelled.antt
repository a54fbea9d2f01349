-- The payloads of the schema's tree spell its rows.
use Rattle.std.proofs.Common.{◌≡◌, ℕ, zero, suc, inl, inr, Bool, true, false, cond, ◌&&◌, List, [], ◌∷◌, ◌++◌, map, length, Option, Some, None, refl, sym, ap}
use Rattle.std.proofs.Common.{subst, ◌∙◌, arith}
use Rattle.std.specs.Prelude.{flat_map, Result, Ok, nat_eq, ◌==◌}
use Rattle.std.specs.List.{starts_with}
use Rattle.std.proofs.lemmas.List.{map-append}
use Rattle.std.proofs.lemmas.Bool.{eqb-true, ne_eqb, and_left}
use Rattle.dbsound.proofs.Common.{IsIn, encoding, start_of, schema_start, View, is_interior, Cell, cells, SchemaRow, schema_row, Reference, tree_view}
use Rattle.dbsound.proofs.Common.{SchemaCell, payload, schema_cell, leaf_rows, rows_at, schema, starts, Survey, rules_of, walk_faults, RowFault, below}
use Rattle.dbsound.proofs.Common.{cell_payload, view_payloads, leaf_payloads}
use Rattle.dbsurvey.proofs.Order.{IsIn-left, IsIn-right}
use Rattle.dbformat.specs.declared.Encoding.{Encoding}
use Rattle.dbsound.proofs.FaultlessSurveys.Sections.{starts_at}
use Rattle.dbsound.proofs.FaultlessSurveys.Followed.{all_of_starts}
use Rattle.dbsound.proofs.FaultlessFiles.SchemaRows.{each_taken}
use Rattle.dbsurvey.proofs.Lists.{kept_lists}

same_test : (k : ℕ) → (k == 0) ≡ (nat_eq 0 k && true)
same_test zero = refl
same_test (suc k) = ne_eqb (suc k) 0 (λ e. let f : ⊥ = omega arith in f)
    ∙ sym (and_left (nat_eq 0 (suc k)) true (ne_eqb 0 (suc k) (λ e. let f : ⊥ = omega arith in f)))

-- a payload that is taken for a row has the length that its cell says
right_length : (payload : List ℕ) (size : ℕ) (e : Encoding) (r : SchemaRow) → schema_row payload size e ≡ Ok r → schema_row payload (length payload) e ≡ Ok r
unfolding schema_row
right_length payload size e r h = by_test (length payload == size) refl
  where
    by_test : (b : Bool) → (length payload == size) ≡ b → schema_row payload (length payload) e ≡ Ok r
    by_test true f = subst (λ n. schema_row payload n e ≡ Ok r) (sym (eqb-true (length payload) size f)) h
    by_test false f = let k = rw f at h in cc

module _ (file : List ℕ) (V : List Reference) where
  abbrev rows_of : Reference → List SchemaCell
  rows_of r = leaf_rows file V r (tree_view file r)

  abbrev spell : List ℕ → Result SchemaRow RowFault
  spell payload = schema_row payload (length payload) (encoding file)

  spell_cells : (r : Reference) (xs : List (ℕ × Cell)) → ((c : SchemaCell) → IsIn c (map (schema_cell file V r) xs) → (r : SchemaRow) × (c.row ≡ Ok r))
      → map spell (map (cell_payload file V r) xs) ≡ map (λ c. c.row) (map (schema_cell file V r) xs)
  spell_cells r [] h = refl
  spell_cells r (x ∷ xs) h =
      let t = h (schema_cell file V r x) (inl refl) in
      let e : spell (payload file V r.address x.0 x.1) ≡ Ok t.0 = right_length (payload file V r.address x.0 x.1) x.1.size (encoding file) t.0 t.1 in
      ap (λ o. o ∷ map spell (map (cell_payload file V r) xs)) (e ∙ sym t.1)
      ∙ ap (λ l. (schema_cell file V r x).row ∷ l) (spell_cells r xs (λ c i. h c (inr i)))

  spell_page : (r : Reference) → ((c : SchemaCell) → IsIn c (rows_of r) → (r : SchemaRow) × (c.row ≡ Ok r))
      → map spell (leaf_payloads file V r) ≡ map (λ c. c.row) (rows_of r)
  spell_page r h = by_view (tree_view file r) h
    where
      by_kind : (v : View) (b : Bool) → ((c : SchemaCell) → IsIn c (cond b [] (map (schema_cell file V r) (cells v))) → (r : SchemaRow) × (c.row ≡ Ok r))
          → map spell (cond b [] (map (cell_payload file V r) (cells v))) ≡ map (λ c. c.row) (cond b [] (map (schema_cell file V r) (cells v)))
      by_kind v true h = refl
      by_kind v false h = spell_cells r (cells v) h

      by_view : (o : Option View) → ((c : SchemaCell) → IsIn c (leaf_rows file V r o) → (r : SchemaRow) × (c.row ≡ Ok r))
          → map spell (view_payloads file V r o) ≡ map (λ c. c.row) (leaf_rows file V r o)
      by_view None h = refl
      by_view (Some v) h = by_kind v (is_interior v.kind) h

  spell_pages : (X : List Reference) → ((c : SchemaCell) → IsIn c (flat_map rows_of X) → (r : SchemaRow) × (c.row ≡ Ok r))
      → map spell (flat_map (leaf_payloads file V) X) ≡ map (λ c. c.row) (flat_map rows_of X)
  spell_pages [] h = refl
  spell_pages (r ∷ X) h =
      map-append spell (leaf_payloads file V r) (flat_map (leaf_payloads file V) X)
      ∙ ap (λ l. l ++ map spell (flat_map (leaf_payloads file V) X)) (spell_page r (λ c i. h c (IsIn-left c (rows_of r) (flat_map rows_of X) i)))
      ∙ ap (λ l. map (λ c. c.row) (rows_of r) ++ l) (spell_pages X (λ c i. h c (IsIn-right c (rows_of r) (flat_map rows_of X) i)))
      ∙ sym (map-append (λ c. c.row) (rows_of r) (flat_map rows_of X))

  module _ (s : Survey file V) (none : walk_faults file V ≡ []) where
    rows_if : (t : Reference) → IsIn t V → rows_at file V t ≡ cond (starts_with nat_eq t.address (schema_start ∷ [])) (rows_of t) []
    rows_if t i =
        let k = starts_at (rules_of file) (starts file V) (all_of_starts file V s none) t i in
        ap (λ a. cond (start_of a == schema_start) (rows_of t) []) k.2.1
        ∙ ap (λ b. cond b (rows_of t) []) (same_test k.0.step)
        ∙ sym (ap (λ a. cond (starts_with nat_eq a (schema_start ∷ [])) (rows_of t) []) k.2.1)

    schema_is : schema file V ≡ flat_map rows_of (below V (schema_start ∷ []))
    unfolding schema
    schema_is = kept_lists (λ r. starts_with nat_eq r.address (schema_start ∷ [])) (rows_at file V) rows_of V rows_if

    pub spells : map (λ payload. schema_row payload (length payload) (encoding file)) (flat_map (leaf_payloads file V) (below V (schema_start ∷ [])))
        ≡ map (λ c. c.row) (schema file V)
    spells = spell_pages (below V (schema_start ∷ [])) (λ c i. let t = each_taken file V s none c (subst (IsIn c) (sym schema_is) i) in (t.0, t.1))
        ∙ sym (ap (map (λ c. c.row)) schema_is)
