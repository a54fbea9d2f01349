-- A sound file has no fault.
use Rattle.std.proofs.Common.{arith, ◌≡◌, ◌≢◌, ℕ, inl, Bool, true, false, ◌&&◌, ◌||◌, Some, List, [], ◌∷◌, ◌++◌, length, refl, sym, ap, subst, ◌∙◌}
use Rattle.std.specs.Prelude.{pos, option_and_then, ◌==◌}
use Rattle.std.specs.List.{enumerate_from}
use Rattle.std.proofs.lemmas.Bool.{and_parts, not-true}
use Rattle.std.proofs.lemmas.Bool.Decides.{nat_tests}
use Rattle.dbsound.proofs.Common.{IsIn, usable_size, schema_format, encoding_number, page_bytes, fault, start_of, schema_start, View, undamaged, Cell, cells}
use Rattle.dbsound.proofs.Common.{count, Role, root, child, first_overflow, later_overflow, trunk, free_leaf, Reference, role_of, tree_kind, tree_view}
use Rattle.dbsound.proofs.Common.{is_leaf_of, schema_cell, Survey, sum_faults, greatest_root_fault, freelist_fault, faults, cells_of, Sound, SchemaRow}
use Rattle.dbsound.proofs.Common.{TreeKind}
use Rattle.dbformat.specs.EndFaults.{has_cell, has_rows, format_fault}
use Rattle.dbformat.specs.Terms as Terms
use Rattle.dbformat.specs.declared.FaultCode.TheVariants.{H08}
use Rattle.dbsound.proofs.TermVisits.OwnFaults.{IsClean, own_faults}
use Rattle.dbformat.proofs.PageCells.{has_all_cells}
use Rattle.dbsound.proofs.SoundFiles.Survey.{all_visits, survey_is, uses_are}
use Rattle.dbsound.proofs.TermVisits.Uses.{uses_of}
use Rattle.dbsound.proofs.SoundFiles.Pages.{all_clean, is_leaf}
use Rattle.dbsound.proofs.SoundFiles.Rows.{in_schema, row_taken}
use Rattle.dbsound.proofs.SoundFiles.Walk.{walk_none}
use Rattle.dbsound.proofs.SoundFiles.Ends.{root_none, freelist_none, use_none}
use Rattle.dbsound.proofs.SoundFiles.LateRoots.{late_none}
use Rattle.dbformat.proofs.FaultParts.{none_by_parts}
use Rattle.dbsurvey.proofs.Lists.{any_one}
use Rattle.dbformat.proofs.TestsLemmas.{reported_none}

-- a clean page of a tree is one without a fault within it
clean_whole : (file : List ℕ) (r : Reference) (v : View) → IsClean file r → tree_view file r ≡ Some v
    → (kind : TreeKind) × (is_child : Bool) × Terms.IsFaultlessPage file kind is_child r.page v
unfolding tree_view
clean_whole file r v c e = by_role (role_of r) c e
  where
    by_role : (role : Role) → own_faults role file r.page ≡ []
        → option_and_then (λ kind. undamaged kind r.page (usable_size file) (page_bytes file r.page)) (tree_kind role) ≡ Some v
        → (kind : TreeKind) × (is_child : Bool) × Terms.IsFaultlessPage file kind is_child r.page v
    by_role (root kind) c e = (kind, false, record { undamaged = e; faultless = c })
    by_role (child kind) c e = (kind, true, record { undamaged = e; faultless = c })
    by_role (first_overflow left) c e = cc
    by_role (later_overflow left) c e = cc
    by_role trunk c e = cc
    by_role free_leaf c e = cc

some_cell : (v : View) (cs : List Cell) → cells v ≡ enumerate_from 0 cs → count v ≡ length cs → (count v == 0) ≡ false → (x : ℕ × Cell) × IsIn x (cells v)
some_cell v [] e l n = absurd (zero (count v) l n)
  where
    zero : (n : ℕ) → n ≡ 0 → (n == 0) ≡ false → ⊥
    zero n e f = grind (arith, nat_tests)
some_cell v (c ∷ cs) e l n = ((0, c), subst (λ xs. IsIn (0, c) xs) (sym e) (inl refl))

module _ (file : List ℕ) (s : Sound file) (survey : Survey file (all_visits file s)) where
  has_row : has_rows file (all_visits file s) ≡ true → (q : SchemaRow) × IsIn q s.rows
  has_row e =
      let h = any_one (λ r. is_leaf_of file schema_start r && has_cell (tree_view file r)) (all_visits file s) e in
      let p = and_parts (is_leaf_of file schema_start h.0) (has_cell (tree_view file h.0)) h.2 in
      let l = is_leaf file s schema_start h.0 p.0 in
      let start = and_parts (start_of h.0.address == schema_start) _ p.0 in
      let w = clean_whole file h.0 l.1.0 (all_clean file s h.0 h.1) l.1.1 in
      let a = has_all_cells w.2 in
      let x = some_cell l.1.0 (cells_of l.1.0) a.numbers a.long (not-true (count l.1.0 == 0) (subst (λ o. has_cell o ≡ true) l.1.1 p.1)) in
      let t = row_taken file s survey (schema_cell file (all_visits file s) h.0 x.0) (in_schema file s survey h.0 l.1.0 x.0 h.1 l.1.1 x.1 start.0 l.1.2) in
      (t.0, t.1)

  format_none : format_fault file (all_visits file s) ≡ []
  format_none = reported_none (((schema_format file == 0) || (encoding_number file == 0)) && has_rows file (all_visits file s))
      (fault H08 1 (schema_format file) (pos (encoding_number file)))
      (by_rows (has_rows file (all_visits file s)) refl)
    where
      not_zero : (n : ℕ) → n ≢ 0 → (n == 0) ≡ false
      not_zero n h = grind (arith, nat_tests)

      and_false : (b : Bool) → (b && false) ≡ false
      and_false true = refl
      and_false false = refl

      by_rows : (b : Bool) → has_rows file (all_visits file s) ≡ b → (((schema_format file == 0) || (encoding_number file == 0)) && b) ≡ false
      by_rows false e = and_false ((schema_format file == 0) || (encoding_number file == 0))
      by_rows true e =
          let q = has_row e in
          let f = s.format (λ none. subst (λ l. IsIn q.0 l) none q.1) in
          rw (not_zero (schema_format file) f.0, not_zero (encoding_number file) f.1) refl

  sums_none : sum_faults file (all_visits file s) ≡ []
  unfolding sum_faults
  sums_none = ap (λ l. l ++ greatest_root_fault file (all_visits file s) ++ freelist_fault file (all_visits file s)) format_none
      ∙ ap (λ l. l ++ freelist_fault file (all_visits file s)) (root_none file s)
      ∙ freelist_none file s

  faults_none : faults file (all_visits file s) ≡ []
  faults_none = none_by_parts file (all_visits file s) s.header (walk_none file s survey) sums_none (use_none file s) (λ p i. late_none file s p)

-- a sound file has no fault
pub no_fault : (file : List ℕ) → Sound file → (V : List Reference) → Survey file V → faults file V ≡ []
no_fault file s V survey =
    let e = survey_is file s V survey in
    ap (faults file) e ∙ faults_none file s (subst (λ V. Survey file V) e survey)

pub has_its_uses : (file : List ℕ) → (s : Sound file) → (V : List Reference) → Survey file V → uses_of V ≡ s.schema_uses ++ s.root_uses ++ s.free_uses
has_its_uses file s V survey = ap uses_of (survey_is file s V survey) ∙ uses_are file s
