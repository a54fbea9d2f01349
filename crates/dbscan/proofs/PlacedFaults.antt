-- A reporter receives each fault of the walk at the start of its address, and with its cause.
use Rattle.dbscan.proofs.Common.{◌≡◌, ℕ, List, [], ◌∷◌, ◌++◌, map, refl, sym, ap, ap₂, subst, ◌∙◌, append-nil, IsIn, Errand, Go, freelist_start, Way, Reference}
use Rattle.dbscan.proofs.Common.{SchemaRow, Event, Survey, Finding, reported_row, reported_fault, reported_below, visited_below, Notice, at_start, found, ended}
use Rattle.dbscan.proofs.Common.{errands_left, root_reference, tree_notices, later_notices, start_notices, reported_in, reported_of, walk_reported, listed_rows}
use Rattle.dbscan.proofs.Common.{At, at_freelist, at_row, at_schema, schema_reference, enumerate_from, filter_map-append, errand_key}
use Rattle.dbtrace.proofs.ByStarts.{BeginsWith, made_at, made_below, below_start, root_then, all_made}
use Rattle.dbscan.proofs.StartByStart.{first_alone, of_later}
use Rattle.dbscan.proofs.ReportedStarts.{start_errands_listed}

freelist_begins : (file : List ℕ) (e : Errand Way Event) → IsIn e (errands_left file []) → BeginsWith freelist_start (errand_key e)
freelist_begins file e i = subst (λ e. BeginsWith freelist_start (errand_key e)) (sym (first_alone file e i)) ([], refl)

-- ---- the faults among notices

module _ (file : List ℕ) where
  found_read : (at : At) (items : List Finding) → reported_in (map (found at) items) ≡ made_at at_start at.number items
  found_read at [] = refl
  found_read at (reported_row r ∷ items) = found_read at items
  found_read at (reported_fault f why ∷ items) = ap (λ l. at_start at.number f why ∷ l) (found_read at items)

  -- a tree, and what is reported after it
  tree_then : (at : At) (W : List Reference) (c : Reference) (es : List (Errand Way Event)) (ns : List Notice) → c.address ≡ at.number ∷ []
      → reported_in ns ≡ made_below at_start file (W ++ visited_below file W (Go c ∷ [])) es
      → reported_in (tree_notices at file W c ++ ns) ≡ made_below at_start file W (Go c ∷ es)
  tree_then at W c es ns address rest =
      let items = reported_below file W (Go c ∷ []) in
      filter_map-append reported_of (tree_notices at file W c) ns
      ∙ ap₂ (λ a b. a ++ b)
      (filter_map-append reported_of (map (found at) items) (ended at ∷ [])
      ∙ ap (λ a. a ++ []) (found_read at items)
      ∙ append-nil (made_at at_start at.number items)) rest
      ∙ sym (root_then at_start file at.number W c es address)

  later_read : (rows : List SchemaRow) (W : List Reference)
      → reported_in (later_notices file W (enumerate_from 1 rows)) ≡ made_below at_start file W (errands_left file (enumerate_from 1 rows))
  later_read rows W = of_later file (λ k rows W ns es. reported_in ns ≡ made_below at_start file W es)
      (λ k W. found_read at_freelist (reported_below file W (errands_left file []))
      ∙ sym (below_start at_start file freelist_start W (errands_left file []) (freelist_begins file)))
      (λ k row rows W ns es h. tree_then (at_row k row) W (root_reference file k row) es ns refl h) 1 rows W

  -- they are those of the walk
  pub starts_reported : (V : List Reference) → Survey file V → reported_in (start_notices file V) ≡ walk_reported file V
  starts_reported V s =
      let c = schema_reference in
      let U = [] ++ visited_below file [] (Go c ∷ []) in
      let rows = listed_rows file V in
      let left = enumerate_from 1 rows in
      tree_then at_schema [] c (errands_left file left) (later_notices file U left) refl (later_read rows U)
      ∙ ap (made_below at_start file []) (sym (start_errands_listed file V s))
      ∙ sym (all_made at_start file V s)
