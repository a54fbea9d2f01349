-- The starts of a file without faults, a tree for each row with a root, and the parts of its survey together.
use Rattle.std.proofs.Common.{◌≡◌, ℕ, ◌+◌, ◌≤◌, inl, inr, Bool, true, false, cond, List, [], ◌∷◌, ◌++◌, map, Option, None, refl, sym, ap, subst, ◌∙◌}
use Rattle.std.specs.Prelude.{flat_map, ◌==◌}
use Rattle.std.specs.List.{enumerate_from}
use Rattle.std.proofs.lemmas.List.{append-nil, map-append, take_all}
use Rattle.std.proofs.lemmas.Grind.{flat_map-append}
use Rattle.dbsound.proofs.Common.{IsIn, Link, named_at, IsWhole, nothing, first_trunk, schema_start, last_root_start, freelist_start, SchemaRow, root, trunk}
use Rattle.dbsound.proofs.Common.{Way, Reference, role_of, from_of, schema, rooted_rows, start, schema_link, root_start, freelist_starts, later_starts, starts}
use Rattle.dbsound.proofs.Common.{Survey, rules_of, most_depth, walk_faults, Tree, Forest, no_tree, and_tree, TreeKind, below, use_of, leaf_payloads}
use Rattle.dbsurvey.proofs.Order.{IsIn-right}
use Rattle.dbformat.specs.Schema.{root_kind, root_starts}
use Rattle.dbformat.specs.declared.RowKind.{RowKind}
use Rattle.dbformat.specs.declared.RowKind.TheVariants as row
use Rattle.dbformat.specs.declared.TreeKind.TheVariants as tree
use Rattle.dbformat.proofs.SchemaStart.{schema_below}
use Rattle.dbformat.proofs.Theory.{named-all}
use Rattle.dbformat.proofs.NoFaults.{follows_all}
use Rattle.dbsound.proofs.FaultlessSurveys.Sections.{by_sections}
use Rattle.dbsound.proofs.FaultlessFiles.SchemaRows.{few_rooted}

-- the starts that some rows give, from number k on
abbrev pub row_starts : List ℕ → ℕ → List SchemaRow → List (Link Way)
row_starts file k rows = map (root_start file) (enumerate_from k rows)

-- all that is visited below some starts
abbrev pub sections_of : List Reference → List (Link Way) → List Reference
sections_of V ls = flat_map (λ l. below V (l.step ∷ [])) ls

-- the reference of a start
abbrev pub start_triple : Link Way → Reference
start_triple l = record { address = l.step ∷ []; page = l.page; role = l.role }

index_kind : (file : List ℕ) (page : ℕ) (name : Option (List ℕ)) (kind : RowKind) → kind ≡ row.Index
    → root_kind file (record { kind = kind; root = page; name = name }) ≡ tree.Index
index_kind file page name row.Index e = refl
index_kind file page name row.Table e = cc
index_kind file page name row.View e = cc
index_kind file page name row.Trigger e = cc

-- a tree at each root that is visited, whose pages are those below it
abbrev pub TreesStand : List ℕ → List Reference → Type 0
TreesStand file V = (r : Reference) (kind : TreeKind) → IsIn r V → role_of r ≡ root kind
    → (height : ℕ) × (height ≤ most_depth)
    × Tree file false (from_of r) r.page kind height None None (map use_of (below V r.address)) (flat_map (leaf_payloads file V) (below V r.address))

module _ (file : List ℕ) (V : List Reference) where
  pub forest : TreesStand file V → (k : ℕ) (rows : List SchemaRow) → ((l : Link Way) → IsIn l (row_starts file k rows) → IsIn (start_triple l) V)
      → Forest file rows (map use_of (sections_of V (row_starts file k rows)))
  forest trees k [] all = no_tree
  forest trees k (r ∷ rows) all =
      let t = trees (start_triple (root_start file (k, r))) (root_kind file r) (all (root_start file (k, r)) (inl refl)) refl in
      subst (Forest file (r ∷ rows)) (sym (map-append use_of (below V (k ∷ [])) (sections_of V (row_starts file (k + 1) rows))))
      (and_tree (index_kind file r.root r.name r.kind) t.1 t.2 (forest trees (k + 1) rows (λ l i. all l (inr i))))

module _ (file : List ℕ) (V : List Reference) (s : Survey file V) (none : walk_faults file V ≡ []) where
  abbrev rows : List SchemaRow
  rows = rooted_rows (schema file V)

  pub starts_are : starts file V ≡ schema_link ∷ (row_starts file 1 (rooted_rows (schema file V)) ++ freelist_starts file)
  unfolding later_starts
  starts_are =
      ap (λ S. schema_link ∷ (root_starts file (rooted_rows S) ++ freelist_starts file)) (sym (schema_below file V s))
      ∙ ap (λ rows. schema_link ∷ (row_starts file 1 rows ++ freelist_starts file))
      (take_all last_root_start (rooted_rows (schema file V)) (few_rooted file V s none))

  in_starts : (l : Link Way) → IsIn l (schema_link ∷ (row_starts file 1 (rooted_rows (schema file V)) ++ freelist_starts file)) → IsIn l (starts file V)
  in_starts l i = subst (IsIn l) (sym starts_are) i

  pub start_visited : (l : Link Way) → IsIn l (starts file V) → IsIn (start_triple l) V
  start_visited l i = ((follows_all file V s none).0 (start_triple l) (named-all file V (start_triple l) (inl (named (starts file V) i)))).0
    where
      named : (ls : List (Link Way)) → IsIn l ls → IsIn (start_triple l) (named_at [] ls)
      named [] i = i
      named (m ∷ ls) (inl e) = inl (ap start_triple e)
      named (m ∷ ls) (inr i) = inr (named ls i)

  pub parts_are : V ≡ below V (schema_start ∷ []) ++ (sections_of V (row_starts file 1 (rooted_rows (schema file V))) ++ sections_of V (freelist_starts file))
  parts_are = (by_sections file V s none).0
      ∙ ap (sections_of V) starts_are
      ∙ ap (λ X. below V (schema_start ∷ []) ++ X) (flat_map-append (λ l. below V (l.step ∷ [])) (row_starts file 1 (rooted_rows (schema file V)))
      (freelist_starts file))

  pub whole_start : (l : Link Way) → IsIn l (schema_link ∷ (row_starts file 1 (rooted_rows (schema file V)) ++ freelist_starts file))
      → IsWhole (rules_of file) (named_at [] (l ∷ [])) (below V (l.step ∷ []))
  whole_start l i = (by_sections file V s none).1 l (in_starts l i)

  pub whole_free : IsWhole (rules_of file) (named_at [] (freelist_starts file)) (sections_of V (freelist_starts file))
  whole_free = by_case (first_trunk file == 0) (λ l i. whole_start l
      (inr (IsIn-right l (row_starts file 1 (rooted_rows (schema file V))) (freelist_starts file) i)))
    where
      by_case : (b : Bool)
          → ((l : Link Way) → IsIn l (cond b [] (start freelist_start trunk (first_trunk file) ∷ []))
          → IsWhole (rules_of file) (named_at [] (l ∷ [])) (below V (l.step ∷ [])))
          → IsWhole (rules_of file) (named_at [] (cond b [] (start freelist_start trunk (first_trunk file) ∷ [])))
          (sections_of V (cond b [] (start freelist_start trunk (first_trunk file) ∷ [])))
      by_case true h = nothing
      by_case false h = subst (λ X. IsWhole (rules_of file) (named_at [] (start freelist_start trunk (first_trunk file) ∷ [])) X)
          (sym (append-nil (below V (freelist_start ∷ [])))) (h (start freelist_start trunk (first_trunk file)) (inl refl))
