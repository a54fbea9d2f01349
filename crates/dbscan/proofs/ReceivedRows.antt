-- The rows of all that a reporter receives are those of the file.
use Rattle.dbscan.proofs.Common.{◌≡◌, ℕ, List, [], ◌∷◌, ◌++◌, length, map, refl, sym, ap, ap₂, ◌∙◌, append-nil, AreQuiet, Errand, Go, goes, end_faults}
use Rattle.dbscan.proofs.Common.{geometry, header_faults, Way, Reference, stat_rows, SchemaRow, Event, own_visit, Survey, rules_of, Fault, marks_of, Finding}
use Rattle.dbscan.proofs.Common.{reported_row, reported_fault, reported_below, visited_below, Part, found_rows, Notice, found, ended, whole, errands_left}
use Rattle.dbscan.proofs.Common.{root_reference, tree_notices, later_notices, start_notices, end_notices, run_notices, listed_rows, At, at_freelist, at_row}
use Rattle.dbscan.proofs.Common.{at_schema, schema_reference, enumerate_from, filter_map-append, are_rules, Due}
use Rattle.dbsurvey.proofs.Remaining.{rest_join}
use Rattle.dbscan.specs.ReceivedRows.{row_received, rows_received}
use Rattle.dbscan.proofs.PagesReceived.{past_pages}
use Rattle.dbscan.proofs.RowsBelow.{rows_below, rows_join}
use Rattle.dbscan.proofs.RunItems.{all_visited}
use Rattle.dbscan.proofs.StartByStart.{first_alone, of_later}
use Rattle.dbscan.proofs.Common.{quiet_go}
use Rattle.dbscan.proofs.ReportedStarts.{start_errands_listed}
use Rattle.dbtrace.specs.declared.Part.TheVariants as part

of_found : (at : At) (items : List Finding) → rows_received (map (found at) items) ≡ found_rows items
of_found at [] = refl
of_found at (reported_row r ∷ items) = ap (λ l. r ∷ l) (of_found at items)
of_found at (reported_fault f why ∷ items) = of_found at items

of_whole : (p : Part) (fs : List Fault) → rows_received (map (whole p) fs) ≡ []
of_whole p [] = refl
of_whole p (f ∷ fs) = of_whole p fs

module _ (file : List ℕ) where
  quiet_freelist : AreQuiet own_visit (errands_left file [])
  quiet_freelist e i = let h = first_alone file (Due e) i in cc

  abbrev HasRows : ℕ → List SchemaRow → List Reference → List Notice → List (Errand Way Event) → Type 0
  HasRows k rows W ns es = rows_received ns ≡ stat_rows file (visited_below file W es)

  -- a tree, and what is reported after it
  tree_then : (at : At) (W : List Reference) (c : Reference) (es : List (Errand Way Event)) (ns : List Notice)
      → rows_received ns ≡ stat_rows file (visited_below file (W ++ visited_below file W (Go c ∷ [])) es)
      → rows_received (tree_notices at file W c ++ ns) ≡ stat_rows file (visited_below file W (Go c ∷ es))
  tree_then at W c es ns rest =
      let items = reported_below file W (Go c ∷ []) in
      let U = visited_below file W (Go c ∷ []) in
      filter_map-append row_received (tree_notices at file W c) ns
      ∙ ap₂ (λ a b. a ++ b)
      (filter_map-append row_received (map (found at) items) (ended at ∷ []) ∙ append-nil (rows_received (map (found at) items)) ∙ of_found at items
      ∙ rows_below file W (Go c ∷ []) (quiet_go c)) rest
      ∙ sym (rows_join file U (visited_below file (W ++ U) es))
      ∙ ap (stat_rows file) (sym (rest_join (rules_of file) (geometry file).pages (are_rules file) W (c ∷ []) (goes es)))

  later : (k : ℕ) (rows : List SchemaRow) (W : List Reference) → HasRows k rows W (later_notices file W (enumerate_from k rows))
      (errands_left file (enumerate_from k rows))
  later = of_later file HasRows
      (λ k W. of_found at_freelist (reported_below file W (errands_left file [])) ∙ rows_below file W (errands_left file []) quiet_freelist)
      (λ k row rows W ns es h. tree_then (at_row k row) W (root_reference file k row) es ns h)

  pub run_rows : (V : List Reference) → Survey file V → rows_received (run_notices file V) ≡ stat_rows file V
  run_rows V s =
      let hs = header_faults file (length file) in
      let es = end_faults file V in
      let c = schema_reference in
      let rows = listed_rows file V in
      let U = [] ++ visited_below file [] (Go c ∷ []) in
      filter_map-append row_received (map (whole part.Header) hs) (start_notices file V ++ end_notices file V)
      ∙ ap₂ (λ a b. a ++ b) (of_whole part.Header hs)
      (filter_map-append row_received (start_notices file V) (end_notices file V)
      ∙ ap₂ (λ a b. a ++ b)
      (tree_then at_schema [] c (errands_left file (enumerate_from 1 rows)) (later_notices file U (enumerate_from 1 rows)) (later 1 rows U))
      (past_pages row_received (λ g p mark. refl) (geometry file) 1 (marks_of (geometry file) V) (map (whole part.End) es) ∙ of_whole part.End es)
      ∙ append-nil _)
      ∙ ap (λ es. stat_rows file (visited_below file [] es)) (sym (start_errands_listed file V s))
      ∙ ap (stat_rows file) (all_visited file V s)
