-- The rows of a sound file's schema have no fault.
use Rattle.std.proofs.Common.{arith, ◌≡◌, ℕ, ◌<◌, ◌≤◌, inl, inr, Bool, true, false, cond, not, ◌&&◌, Option, Some, None, Ok, List, [], ◌∷◌, ◌++◌, map, length}
use Rattle.std.proofs.Common.{refl, sym, ap, subst, ◌∙◌}
use Rattle.std.specs.Prelude.{filter, is_none, IsSome, nat_le, pos, ◌==◌}
use Rattle.std.specs.List.{cons_option}
use Rattle.std.proofs.lemmas.Bool.Decides.{nat_tests}
use Rattle.dbsound.proofs.Common.{IsIn, is_before, fault, start_of, schema_start, last_root_start, View, is_interior, Cell, cells, SchemaRow, Reference}
use Rattle.dbsound.proofs.Common.{tree_view, SchemaCell, schema_cell, leaf_rows, rows_at, schema, rooted, rooted_rows, Survey, row_faults, row_faults_at, Sound}
use Rattle.dbsurvey.proofs.Ordering.{IsIn-map, IsIn-from_map, IsIn-flat_map, is_before-itself}
use Rattle.dbformat.specs.Tests.{reported_if}
use Rattle.dbformat.specs.KeyFaults.{earlier_roots, row_faults_if}
use Rattle.dbformat.specs.declared.FaultCode.TheVariants.{S02, S04}
use Rattle.dbformat.proofs.LookBack.{by_starts}
use Rattle.dbsurvey.proofs.Each.{each_of}
use Rattle.dbsound.proofs.TermRows.Spelled.{row_of}
use Rattle.dbsound.proofs.SoundFiles.Survey.{all_visits, first_is, schema_first, rooted_are}
use Rattle.dbformat.proofs.TestsLemmas.{reported_none}
use Rattle.dbsurvey.proofs.Lists.{cons-longer, cons-longer-lt, cons-at-least, cons-at-least-lt}

some_named : (o : Option (List ℕ)) → IsSome o → is_none o ≡ false
some_named None h = cc
some_named (Some x) h = refl

no_more : (p : SchemaCell → Bool) (cs : List SchemaCell) → length (rooted_rows (filter p cs)) ≤ length (rooted_rows cs)
no_more p [] = omega arith
no_more p (c ∷ cs) = by_case (p c) (no_more p cs)
  where
    by_case : (b : Bool) → length (rooted_rows (filter p cs)) ≤ length (rooted_rows cs)
        → length (rooted_rows (cond b (c ∷ filter p cs) (filter p cs))) ≤ length (rooted_rows (c ∷ cs))
    by_case true h = cons-longer (rooted c.row) (rooted_rows (filter p cs)) (rooted_rows cs) h
    by_case false h = cons-at-least (rooted c.row) (rooted_rows (filter p cs)) (rooted_rows cs) h

fewer : (p : SchemaCell → Bool) (cs : List SchemaCell) (c : SchemaCell) (q : SchemaRow) → IsIn c cs → p c ≡ false → rooted c.row ≡ Some q
    → length (rooted_rows (filter p cs)) < length (rooted_rows cs)
fewer p [] c q i f e = absurd i
fewer p (d ∷ cs) c q (inl same) f e =
    let g : p d ≡ false = ap p (sym same) ∙ f in
    let r : rooted d.row ≡ Some q = ap (λ d. rooted d.row) (sym same) ∙ e in
    let n = no_more p cs in
    subst (λ b. length (rooted_rows (cond b (d ∷ filter p cs) (filter p cs))) < length (rooted_rows (d ∷ cs))) (sym g)
    (subst (λ o. length (rooted_rows (filter p cs)) < length (cons_option o (rooted_rows cs))) (sym r) (omega arith))
fewer p (d ∷ cs) c q (inr i) f e = by_case (p d) (fewer p cs c q i f e)
  where
    by_case : (b : Bool) → length (rooted_rows (filter p cs)) < length (rooted_rows cs)
        → length (rooted_rows (cond b (d ∷ filter p cs) (filter p cs))) < length (rooted_rows (d ∷ cs))
    by_case true h = cons-longer-lt (rooted d.row) (rooted_rows (filter p cs)) (rooted_rows cs) h
    by_case false h = cons-at-least-lt (rooted d.row) (rooted_rows (filter p cs)) (rooted_rows cs) h

row_none : (is_full : Bool) (c : SchemaCell) (q : SchemaRow) → c.row ≡ Ok q → IsSome q.name → (not (q.root == 0) && is_full) ≡ false → row_faults_if is_full c
    ≡ []
row_none is_full c q e n f = rw e (
    ap (λ l. l ++ reported_if (not (q.root == 0) && is_full) (fault S04 c.page c.item (pos q.root)))
    (reported_none (is_none q.name) (fault S02 c.page c.item c.rowid) (some_named q.name n))
    ∙ reported_none (not (q.root == 0) && is_full) (fault S04 c.page c.item (pos q.root)) f)

module _ (file : List ℕ) (s : Sound file) (survey : Survey file (all_visits file s)) where
  schema_all : map row_of (schema file (all_visits file s)) ≡ map Ok s.rows
  schema_all = ap (map row_of) ((by_starts file (all_visits file s) survey).1 ∙ ap (schema file) (first_is file s)) ∙ schema_first file s

  few_rooted : length (rooted_rows (schema file (all_visits file s))) ≤ last_root_start
  few_rooted = subst (λ l. length l ≤ last_root_start) (sym (rooted_are (schema file (all_visits file s)) s.rows schema_all)) s.few_roots

  pub row_taken : (c : SchemaCell) → IsIn c (schema file (all_visits file s)) → (q : SchemaRow) × IsIn q s.rows × (c.row ≡ Ok q)
  row_taken c i = IsIn-from_map Ok s.rows c.row (subst (λ l. IsIn c.row l) schema_all (IsIn-map row_of (schema file (all_visits file s)) c i))

  not_full : (c : SchemaCell) (q : SchemaRow) → IsIn c (schema file (all_visits file s)) → c.row ≡ Ok q
      → (not (q.root == 0) && nat_le last_root_start (earlier_roots file (all_visits file s) c.place)) ≡ false
  not_full c q i e = by_root (q.root == 0) refl
    where
      less : (n m : ℕ) → n < m → m ≤ last_root_start → nat_le last_root_start n ≡ false
      less n m l h = grind (arith, nat_tests)

      by_root : (b : Bool) → (q.root == 0) ≡ b → (not b && nat_le last_root_start (earlier_roots file (all_visits file s) c.place)) ≡ false
      by_root true f = refl
      by_root false f = less (earlier_roots file (all_visits file s) c.place) (length (rooted_rows (schema file (all_visits file s))))
          (fewer (λ d. is_before d.place c.place) (schema file (all_visits file s)) c q i (is_before-itself c.place)
          (ap rooted e ∙ ap (λ b. cond b None (Some q)) f)) few_rooted

  row_is_taken : (c : SchemaCell) → IsIn c (schema file (all_visits file s)) → row_faults file (all_visits file s) c ≡ []
  unfolding row_faults
  row_is_taken c i =
      let q = row_taken c i in
      row_none (nat_le last_root_start (earlier_roots file (all_visits file s) c.place)) c q.0 q.2 (each_of (λ r. IsSome r.name) s.rows s.named q.0 q.1)
      (not_full c q.0 i q.2)

  pub in_schema : (r : Reference) (v : View) (x : ℕ × Cell) → IsIn r (all_visits file s) → tree_view file r ≡ Some v → IsIn x (cells v)
      → (start_of r.address == schema_start) ≡ true → is_interior v.kind ≡ false
      → IsIn (schema_cell file (all_visits file s) r x) (schema file (all_visits file s))
  unfolding schema
  in_schema r v x i e j f g = IsIn-flat_map (rows_at file (all_visits file s)) (all_visits file s) r (schema_cell file (all_visits file s) r x) i in_rows
    where
      in_rows : IsIn (schema_cell file (all_visits file s) r x) (rows_at file (all_visits file s) r)
      in_rows = subst (λ b. IsIn (schema_cell file (all_visits file s) r x) (cond b (leaf_rows file (all_visits file s) r (tree_view file r)) [])) (sym f)
          (subst (λ o. IsIn (schema_cell file (all_visits file s) r x) (leaf_rows file (all_visits file s) r o)) (sym e)
          (subst (λ b. IsIn (schema_cell file (all_visits file s) r x) (cond b [] (map (schema_cell file (all_visits file s) r) (cells v)))) (sym g)
          (IsIn-map (schema_cell file (all_visits file s) r) (cells v) x j)))

  pub rows_none : (r : Reference) (v : View) (x : ℕ × Cell) → IsIn r (all_visits file s) → tree_view file r ≡ Some v → IsIn x (cells v)
      → row_faults_at file (all_visits file s) r v x ≡ []
  rows_none r v x i e j = by_start (start_of r.address == schema_start) (is_interior v.kind) refl refl
    where
      by_start : (b d : Bool) → (start_of r.address == schema_start) ≡ b → is_interior v.kind ≡ d
          → cond (b && not d) (row_faults file (all_visits file s) (schema_cell file (all_visits file s) r x)) [] ≡ []
      by_start false d f g = refl
      by_start true true f g = refl
      by_start true false f g = row_is_taken (schema_cell file (all_visits file s) r x) (in_schema r v x i e j f g)
