-- A file without faults is sound: its survey gives the parts of a sound file.
use Rattle.std.proofs.Common.{◌≡◌, ◌≢◌, ℕ, ◌≤◌, inl, inr, Bool, true, false, not, ◌&&◌, List, [], ◌∷◌, ◌++◌, map, length, None, refl, sym, ap, subst, ◌∙◌}
use Rattle.std.specs.Prelude.{flat_map, filter_map, fold, max, option_map, ◌==◌, IsPermutation, All, IfSome, Contains}
use Rattle.std.specs.List.{range_with_len}
use Rattle.std.specs.Option.{option_map_or}
use Rattle.std.specs.Result.{result_ok}
use Rattle.std.proofs.lemmas.Bool.{and_from, ne_eqb, eqb-true}
use Rattle.dbsound.proofs.Common.{IsIn, freelist_count, greatest_root, schema_format, encoding_number, has_pointer_map, refusal, geometry, map_entry, start_of}
use Rattle.dbsound.proofs.Common.{schema_start, last_root_start, View, is_interior, Cell, cell, cells, count, Reference, tree_view, SchemaCell, rows_at, schema}
use Rattle.dbsound.proofs.Common.{rooted_rows, schema_link, freelist_starts, Survey, is_leaf_of, greatest_root_reached, greatest_root_fault, free_pages}
use Rattle.dbsound.proofs.Common.{freelist_fault, sum_faults, page_numbers, walk_faults, faults, Use, Sound, Forest, with_root, below, use_of, leaf_payloads}
use Rattle.dbsurvey.proofs.Order.{IsIn-left}
use Rattle.dbsurvey.proofs.Ordering.{IsIn-from_flat_map}
use Rattle.std.proofs.lemmas.List.{length-map}
use Rattle.dbformat.specs.EndFaults.{has_cell, has_rows, format_fault}
use Rattle.dbformat.specs.Sound.{fixed_pages}
use Rattle.dbformat.specs.declared.TreeKind.TheVariants as tree
use Rattle.dbsurvey.proofs.Lists.{both_empty, any_true}
use Rattle.dbsurvey.proofs.Elements.{from_contains}
use Rattle.dbformat.proofs.FaultParts.{AllUsed, parts_none}
use Rattle.dbsound.proofs.FaultlessFiles.RootOrder.{use_before}
use Rattle.dbsound.proofs.FaultlessFiles.Pages.{every_page_once, every_page_mapped}
use Rattle.dbsound.proofs.FaultlessFiles.SchemaRows.{row_of_page, few_rooted, each_taken, AreTaken, taken_rows, rows_spelled, rows_named, rows_rooted}
use Rattle.dbsound.proofs.FaultlessFiles.Forest.{row_starts, sections_of, start_triple, TreesStand, forest, starts_are, start_visited}
use Rattle.dbsound.proofs.FaultlessFiles.Sums.{free_count, greatest_is, uses_are, freelist_stands}
use Rattle.dbsound.proofs.FaultlessFiles.Spelled.{spells}
use Rattle.dbsound.proofs.TermVisits.Uses.{used_pages}
use Rattle.dbsound.proofs.FaultlessSurveys.Trees.{whole_trees}

-- a page with a cell has a count of cells
cell_counts : (v : View) (x : ℕ × Cell) → IsIn x (cells v) → not (count v == 0) ≡ true
unfolding cells
cell_counts v x i = ap not (ne_eqb (count v) 0 (λ e. subst
    (λ n. IsIn x (filter_map (λ i. option_map (λ c. (i, c)) (result_ok (cell v i))) (range_with_len 0 n))) e i))

module _ (file : List ℕ) (V : List Reference) (s : Survey file V) where
  sums_none : sum_faults file V ≡ [] → (format_fault file V ≡ []) × (greatest_root_fault file V ≡ []) × (freelist_fault file V ≡ [])
  unfolding sum_faults
  sums_none e =
      let a = both_empty (format_fault file V ++ greatest_root_fault file V) (freelist_fault file V) e in
      let b = both_empty (format_fault file V) (greatest_root_fault file V) a.0 in
      (b.0, b.1, a.1)

  size_is : freelist_fault file V ≡ [] → freelist_count file ≡ free_pages V
  size_is e = by_test (freelist_count file == free_pages V) refl
    where
      by_test : (b : Bool) → (freelist_count file == free_pages V) ≡ b → freelist_count file ≡ free_pages V
      by_test true f = eqb-true (freelist_count file) (free_pages V) f
      by_test false f = let k = rw f at e in cc

  greatest_root_is : greatest_root_fault file V ≡ [] → greatest_root file ≢ 0 → greatest_root file ≡ greatest_root_reached V
  unfolding has_pointer_map
  greatest_root_is e some = by_test (greatest_root file == greatest_root_reached V) refl
    where
      by_test : (b : Bool) → (greatest_root file == greatest_root_reached V) ≡ b → greatest_root file ≡ greatest_root_reached V
      by_test true f = eqb-true (greatest_root file) (greatest_root_reached V) f
      by_test false f = let n = ne_eqb (greatest_root file) 0 some in let k = rw (n, f) at e in cc

  has_a_row : (c : SchemaCell) → IsIn c (schema file V) → has_rows file V ≡ true
  unfolding schema
  has_a_row c i =
      let m = IsIn-from_flat_map (rows_at file V) V c i in
      let h = row_of_page file V m.0 c m.2 in
      any_true (λ r. is_leaf_of file schema_start r && has_cell (tree_view file r)) V m.0 m.1
      (and_from (is_leaf_of file schema_start m.0) (has_cell (tree_view file m.0))
      (and_from (start_of m.0.address == schema_start) (option_map_or (λ v. not (is_interior v.kind)) (tree_view file m.0) false) h.3
      (ap (λ o. option_map_or (λ v. not (is_interior v.kind)) o false) h.1 ∙ ap not h.2))
      (ap has_cell h.1 ∙ cell_counts h.0 h.4.0 h.4.1))

  format_is : format_fault file V ≡ [] → taken_rows (schema file V) ≢ [] → (schema_format file ≢ 0) × (encoding_number file ≢ 0)
  format_is e some = by_rows (schema file V) (λ c i. has_a_row c i) some
    where
      by_tests : (a b : Bool) → (schema_format file == 0) ≡ a → (encoding_number file == 0) ≡ b → has_rows file V ≡ true
          → (schema_format file ≢ 0) × (encoding_number file ≢ 0)
      by_tests true b f g h = let k = rw (f, h) at e in cc
      by_tests false true f g h = let k = rw (f, g, h) at e in cc
      by_tests false false f g h = ((λ z. let k = sym f ∙ ap (λ n. n == 0) z in cc), (λ z. let k = sym g ∙ ap (λ n. n == 0) z in cc))

      by_rows : (S : List SchemaCell) → ((c : SchemaCell) → IsIn c S → has_rows file V ≡ true) → taken_rows S ≢ [] → (schema_format file ≢ 0)
          × (encoding_number file ≢ 0)
      by_rows [] h some = absurd (some refl)
      by_rows (c ∷ S) h some = by_tests (schema_format file == 0) (encoding_number file == 0) refl refl (h c (inl refl))

  -- the parts of the survey, as uses
  abbrev schema_part : List Use
  schema_part = map use_of (below V (schema_start ∷ []))

  abbrev root_part : List Use
  root_part = map use_of (sections_of V (row_starts file 1 (rooted_rows (schema file V))))

  abbrev free_part : List Use
  free_part = map use_of (sections_of V (freelist_starts file))

  rows_stand : walk_faults file V ≡ [] → TreesStand file V → Forest file (rooted_rows (schema file V)) root_part
  rows_stand walk trees = forest file V trees 1 (rooted_rows (schema file V)) (λ l i. start_visited file V s walk l
      (subst (IsIn l) (sym (starts_are file V s walk)) (inr (IsIn-left l (row_starts file 1 (rooted_rows (schema file V))) (freelist_starts file) i))))

  pages_stand : walk_faults file V ≡ [] → AllUsed file V
      → IsPermutation (map (λ u. u.page) (schema_part ++ root_part ++ free_part) ++ fixed_pages (geometry file)) (page_numbers (geometry file))
  pages_stand walk none = subst (λ us. IsPermutation (map (λ u. u.page) us ++ fixed_pages (geometry file)) (page_numbers (geometry file)))
      (uses_are file V s walk)
      (subst (λ ps. IsPermutation (ps ++ fixed_pages (geometry file)) (page_numbers (geometry file))) (sym (used_pages V)) (every_page_once file V s none))

  uses_mapped : walk_faults file V ≡ [] → AllUsed file V
      → All (λ u. IfSome (map_entry file u.page) (λ e. e ≡ u.entry)) (schema_part ++ root_part ++ free_part)
  uses_mapped walk none = subst (All (λ u. IfSome (map_entry file u.page) (λ e. e ≡ u.entry))) (uses_are file V s walk) (every_page_mapped file V s none)

  among : walk_faults file V ≡ [] → (u : Use) → Contains (schema_part ++ root_part ++ free_part) u → IsIn u (map use_of V)
  among walk u i = subst (IsIn u) (sym (uses_are file V s walk)) (from_contains _ u i)

  free_length : walk_faults file V ≡ [] → free_pages V ≡ length free_part
  free_length walk = free_count file V s walk ∙ sym (length-map (sections_of V (freelist_starts file)) use_of)

  pub sound : refusal file ≡ None → faults file V ≡ [] → TreesStand file V → Sound file
  sound read none trees =
      let parts = parts_none file V none in
      let walk = parts.1 in
      let sums = sums_none parts.2 in
      let taken : AreTaken (schema file V) = each_taken file V s walk in
      let rooted : with_root (taken_rows (schema file V)) ≡ rooted_rows (schema file V) = rows_rooted (schema file V) taken in
      let first = trees (start_triple schema_link) tree.Table (start_visited file V s walk schema_link (inl refl)) refl in
      record {
        is_read = read;
        header = parts.0;
        height = first.0;
        payloads = flat_map (leaf_payloads file V) (below V (schema_start ∷ []));
        rows = taken_rows (schema file V);
        schema_uses = schema_part;
        root_uses = root_part;
        free_uses = free_part;
        schema = first.2;
        schema_height = first.1;
        spelled = spells file V s walk ∙ rows_spelled (schema file V) taken;
        named = rows_named (schema file V) taken;
        few_roots = subst (λ rows. length rows ≤ last_root_start) (sym rooted) (few_rooted file V s walk);
        trees = subst (λ rows. Forest file rows root_part) (sym rooted) (rows_stand walk trees);
        freelist = freelist_stands file V s walk;
        once = pages_stand walk parts.3;
        freelist_size = size_is sums.2 ∙ free_length walk;
        greatest = λ some. greatest_root_is sums.1 some ∙ greatest_is file V s walk ∙ ap (λ rows. fold max 1 (map (λ r. r.root) rows)) (sym rooted);
        format = format_is sums.0;
        mapped = uses_mapped walk parts.3;
        roots_first = λ mapped u w i e j f. use_before file V s parts.4 mapped u w (among walk u i) e (among walk w j) f;
      }

pub faultless_sound : (file : List ℕ) (V : List Reference) → Survey file V → refusal file ≡ None → faults file V ≡ [] → Sound file
faultless_sound file V s read none = sound file V s read none (whole_trees file V s (parts_none file V none).1)
