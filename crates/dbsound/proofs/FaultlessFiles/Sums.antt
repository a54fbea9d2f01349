-- What holds of the parts of a survey together: the freelist has the pages that are counted, and the roots are page 1 and
-- those of the rows.
use Rattle.std.proofs.Common.{◌≡◌, ℕ, ◌+◌, inl, inr, Bool, true, false, cond, List, [], ◌∷◌, ◌++◌, map, length, refl, sym, ap, ◌∙◌, arith, append_assoc}
use Rattle.std.specs.Prelude.{filter, count_by, fold, max, ◌==◌}
use Rattle.std.specs.List.{enumerate_from}
use Rattle.std.proofs.lemmas.List.{append-nil, map-append}
use Rattle.std.proofs.lemmas.List.Elements.{filter-append}
use Rattle.dbsound.proofs.Common.{IsIn, Link, named_at, IsWhole, first_trunk, schema_start, freelist_start, SchemaRow, Role, root, trunk, Way, Reference}
use Rattle.dbsound.proofs.Common.{role_of, is_root, is_on_freelist, schema, rooted_rows, start, schema_link, root_start, freelist_starts, Survey, rules_of}
use Rattle.dbsound.proofs.Common.{greatest_root_reached, free_pages, walk_faults, Freelist, below, use_of}
use Rattle.dbsurvey.proofs.Order.{IsIn-left}
use Rattle.dbsurvey.proofs.Ordering.{IsIn-from_map, IsIn-from_flat_map}
use Rattle.dbformat.proofs.NoFaults.{page_none}
use Rattle.dbsurvey.proofs.Lists.{filter-from, count_all, count_none, count-append}
use Rattle.dbsound.proofs.FaultlessSurveys.Trunks.{room_for_leaves, freelist_of}
use Rattle.dbformat.proofs.Roles.{all_as, one_root, no_roots, root_off}
use Rattle.dbsound.proofs.FaultlessFiles.Forest.{row_starts, sections_of, start_triple, parts_are, whole_start, whole_free}

-- the freelist's start is one of a trunk
free_role : (file : List ℕ) (c : Reference) → IsIn c (named_at [] (freelist_starts file)) → role_of c ≡ trunk
free_role file c i = by_case (first_trunk file == 0) i
  where
    by_case : (b : Bool) → IsIn c (named_at [] (cond b [] (start freelist_start trunk (first_trunk file) ∷ []))) → role_of c ≡ trunk
    by_case true i = absurd i
    by_case false (inl e) = ap role_of e
    by_case false (inr i) = absurd i

-- a row's start is one of a root
row_role : (file : List ℕ) (k : ℕ) (rows : List SchemaRow) (l : Link Way) → IsIn l (row_starts file k rows) → is_root (role_of (start_triple l)) ≡ true
row_role file k rows l i = let m = IsIn-from_map (root_start file) (enumerate_from k rows) l i in ap (λ l. is_root (role_of (start_triple l))) m.2

module _ (file : List ℕ) (V : List Reference) (s : Survey file V) (none : walk_faults file V ≡ []) where
  -- what is below the first start, those of rows, and that of the freelist
  abbrev S : List Reference
  S = below V (schema_start ∷ [])

  abbrev R : List Reference
  R = sections_of V (row_starts file 1 (rooted_rows (schema file V)))

  abbrev U : List Reference
  U = sections_of V (freelist_starts file)

  of_start : (l : Link Way) → IsIn l (schema_link ∷ row_starts file 1 (rooted_rows (schema file V))) → is_root (role_of (start_triple l)) ≡ true
      → (t : Reference) → IsIn t (below V (l.step ∷ [])) → is_on_freelist (role_of t) ≡ false
  of_start l i e t j = all_as file false (whole_start file V s none l
      (IsIn-left l (schema_link ∷ row_starts file 1 (rooted_rows (schema file V))) (freelist_starts file) i))
      (λ c k. elim k [ inl f ↦ ap (λ c. is_on_freelist (role_of c)) f ∙ root_off (role_of (start_triple l)) e | inr n ↦ absurd n ]) t j

  of_rows : (t : Reference) → IsIn t (sections_of V (row_starts file 1 (rooted_rows (schema file V)))) → is_on_freelist (role_of t) ≡ false
  of_rows t i =
      let m = IsIn-from_flat_map (λ l. below V (l.step ∷ [])) (row_starts file 1 (rooted_rows (schema file V))) t i in
      of_start m.0 (inr m.1) (row_role file 1 (rooted_rows (schema file V)) m.0 m.1) t m.2

  pub free_count : free_pages V ≡ length (sections_of V (freelist_starts file))
  free_count =
      let p : Reference → Bool = λ r. is_on_freelist (role_of r) in
      let e : count_by p V ≡ count_by p (S ++ (R ++ U)) = ap (count_by p) (parts_are file V s none) in
      let f : count_by p (S ++ (R ++ U)) ≡ count_by p S + count_by p (R ++ U) = count-append p S (R ++ U) in
      let g : count_by p (R ++ U) ≡ count_by p R + count_by p U = count-append p R U in
      let a : count_by p S ≡ 0 = count_none p S (of_start schema_link (inl refl) refl) in
      let b : count_by p R ≡ 0 = count_none p R of_rows in
      let c : count_by p U ≡ length U = count_all p U (all_as file true (whole_free file V s none) (λ c i. ap is_on_freelist (free_role file c i))) in
      omega arith

  row_roots : (k : ℕ) (rows : List SchemaRow)
      → ((l : Link Way) → IsIn l (row_starts file k rows) → IsWhole (rules_of file) (named_at [] (l ∷ [])) (below V (l.step ∷ [])))
      → map (λ r. r.page) (filter (λ r. is_root (role_of r)) (sections_of V (row_starts file k rows))) ≡ map (λ r. r.root) rows
  row_roots k [] h = refl
  row_roots k (r ∷ rows) h =
      let p : Reference → Bool = λ r. is_root (role_of r) in
      ap (map (λ r. r.page)) (filter-append p (below V (k ∷ [])) (sections_of V (row_starts file (k + 1) rows)))
      ∙ ap (λ X. map (λ r. r.page) (X ++ filter p (sections_of V (row_starts file (k + 1) rows))))
      (one_root file (start_triple (root_start file (k, r))) refl refl (h (root_start file (k, r)) (inl refl)))
      ∙ ap (λ X. r.root ∷ X) (row_roots (k + 1) rows (λ l i. h l (inr i)))

  pub roots_are : map (λ r. r.page) (filter (λ r. is_root (role_of r)) V) ≡ 1 ∷ map (λ r. r.root) (rooted_rows (schema file V))
  roots_are =
      let p : Reference → Bool = λ r. is_root (role_of r) in
      ap (λ X. map (λ r. r.page) (filter p X)) (parts_are file V s none)
      ∙ ap (map (λ r. r.page)) (filter-append p S (R ++ U) ∙ ap (λ X. filter p S ++ X) (filter-append p R U))
      ∙ ap (λ X. map (λ r. r.page) (X ++ (filter p R ++ filter p U)))
      (one_root file (start_triple schema_link) refl refl (whole_start file V s none schema_link (inl refl)))
      ∙ ap (λ X. map (λ r. r.page) ((start_triple schema_link ∷ []) ++ (filter p R ++ X)))
      (no_roots file (whole_free file V s none) (λ c i. ap is_root (free_role file c i)))
      ∙ ap (λ X. 1 ∷ map (λ r. r.page) X) (append-nil (filter p R))
      ∙ ap (λ X. 1 ∷ X) (row_roots 1 (rooted_rows (schema file V))
      (λ l i. whole_start file V s none l (inr (IsIn-left l (row_starts file 1 (rooted_rows (schema file V))) (freelist_starts file) i))))

  pub greatest_is : greatest_root_reached V ≡ fold max 1 (map (λ r. r.root) (rooted_rows (schema file V)))
  greatest_is = ap (fold max 1) roots_are

  -- the parts, as uses
  pub uses_are : map use_of V ≡ (map use_of (below V (schema_start ∷ [])) ++ map use_of (sections_of V (row_starts file 1 (rooted_rows (schema file V)))))
      ++ map use_of (sections_of V (freelist_starts file))
  uses_are = ap (map use_of) (parts_are file V s none ∙ sym (append_assoc S R U))
      ∙ map-append use_of (S ++ R) U
      ∙ ap (λ X. X ++ map use_of U) (map-append use_of S R)

  pub freelist_stands : Freelist file (first_trunk file) (map use_of (sections_of V (freelist_starts file)))
  freelist_stands = freelist_of file U (whole_free file V s none) (λ t i e.
      let m = IsIn-from_flat_map (λ l. below V (l.step ∷ [])) (freelist_starts file) t i in
      room_for_leaves file V t e (page_none file V s none t (filter-from _ V t m.2).0))
