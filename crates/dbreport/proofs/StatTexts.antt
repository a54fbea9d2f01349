-- The text of the statistics, written start by start, is that of the rows of the form.
use Rattle.dbreport.proofs.Common.{◌≡◌, ℕ, inl, inr, Bool, true, false, cond, if◌then◌else◌, List, [], ◌∷◌, ◌++◌, map, refl, sym, ap, ap₂, subst, ◌∙◌}
use Rattle.dbreport.proofs.Common.{append-nil, filter, flat_map, ◌==◌, eq-eqb, schema_start, geometry, page_size, form_line, page_line, tree_line, tree_name}
use Rattle.dbreport.proofs.Common.{Way, Reference, StatRow, stat_rows, tree_rows, page_rows, Survey, rules_of, flat_map-append, map-append, IsIn, Errand, Go}
use Rattle.dbreport.proofs.Common.{Follow, errands_at, goes, part_of, filter-all, page_row, starts, are_rules, rows_below, rows_join, rows_none, start_role}
use Rattle.dbsurvey.specs.From.{under}
use Rattle.dbsurvey.specs.Survey.{Link, IsRising}
use Rattle.dbsurvey.proofs.Remaining.{rest_join}
use Rattle.dbformat.specs.Story.{Event, start_errands}
use Rattle.dbformat.proofs.Rising.{starts_rise}
use Rattle.dbtrace.specs.Finding.{visited_below}
use Rattle.dbwalk.proofs.Reporting.Belows.{quiet_go, visited_none}
use Rattle.dbreport.specs.StatLines.{tree_rows_text, starts_text}
use Rattle.dbscan.proofs.RunItems.{all_visited, goes_named}
use Rattle.dbreport.proofs.StatTrees.{row_of_tree, HasLaterStarts, trees_apart, IsTree, no_tree, tree, IsStart, below_links, later_starts_below, row_start}
use Rattle.dbreport.proofs.StatTrees.{one_tree}

-- ---- what is written

module _ (file : List ℕ) (V : List Reference) where
  -- the lines of the rows of some visits
  abbrev text_of : Bool → List Reference → List ℕ
  text_of aggregate U = flat_map (form_line file V) (cond aggregate (tree_rows file U) (page_rows file U))

  text_none : (aggregate : Bool) → text_of aggregate [] ≡ []
  text_none true = refl
  text_none false = ap (λ rows. flat_map (form_line file V) (map page_row rows)) (rows_none file)

  text_join : (aggregate : Bool) (P Q : List Reference) → HasLaterStarts P Q → text_of aggregate (P ++ Q) ≡ text_of aggregate P ++ text_of aggregate Q
  text_join true P Q h = ap (flat_map (form_line file V)) (trees_apart file P Q h) ∙ flat_map-append (form_line file V) (tree_rows file P) (tree_rows file Q)
  text_join false P Q h =
      ap (λ rows. flat_map (form_line file V) (map page_row rows)) (rows_join file P Q)
      ∙ ap (flat_map (form_line file V)) (map-append page_row (stat_rows file P) (stat_rows file Q))
      ∙ flat_map-append (form_line file V) (page_rows file P) (page_rows file Q)

  -- the rows of one tree, page by page or added up

  pages_text : (k : ℕ) (rows : List StatRow) → ((row : StatRow) → IsIn row rows → row.start ≡ k)
      → flat_map (page_line (tree_name file V k) (page_size file)) rows ≡ flat_map (form_line file V) (map page_row rows)
  unfolding form_line
  pages_text k [] h = refl
  pages_text k (row ∷ rows) h =
      ap₂ (λ a b. a ++ b) (ap (λ j. page_line (tree_name file V j) (page_size file) row) (sym (h row (inl refl)))) (pages_text k rows (λ r i. h r (inr i)))

  one_text : (aggregate : Bool) (k : ℕ) (P : List Reference) → ((row : StatRow) → IsIn row (stat_rows file P) → row.start ≡ k) → IsTree file k P
      → tree_rows_text aggregate (tree_name file V k) (page_size file) (stat_rows file P) ≡ text_of aggregate P
  unfolding form_line
  one_text false k P h t = pages_text k (stat_rows file P) h
  one_text true k P h (no_tree e f) =
      ap (tree_rows_text true (tree_name file V k) (page_size file)) e
      ∙ sym (ap (λ ks. flat_map (form_line file V) (map (row_of_tree (stat_rows file P)) ks)) f)
  one_text true k P h (tree row rows e f) =
      let all = filter-all (λ (row : StatRow). row.start == k) (stat_rows file P) (λ row i. eq-eqb row.start k (h row i)) in
      ap (tree_rows_text true (tree_name file V k) (page_size file)) e
      ∙ ap (tree_line (tree_name file V k) (page_size file)) (sym (all ∙ e))
      ∙ sym (append-nil (tree_line (tree_name file V k) (page_size file) (filter (λ (row : StatRow). row.start == k) (stat_rows file P))))
      ∙ sym (ap (λ ks. flat_map (form_line file V) (map (row_of_tree (stat_rows file P)) ks)) f)

  -- start by start
  texts_below : (aggregate : Bool) (W : List Reference) (ls : List (Link Way)) → IsRising ls → ((l : Link Way) → IsIn l ls → IsStart l)
      → starts_text aggregate file V W (errands_at [] (map Follow ls)) ≡ text_of aggregate (visited_below file W (errands_at [] (map Follow ls)))
  texts_below aggregate W [] rising h = sym (ap (text_of aggregate) (visited_none file W) ∙ text_none aggregate)
  texts_below aggregate W (l ∷ ls) rising h =
      let c : Reference = record { address = l.step ∷ []; page = l.page; role = l.role } in
      let es : List (Errand Way Event) = errands_at [] (map Follow ls) in
      let P = below_links file W [] (l ∷ []) in
      let Q = visited_below file (W ++ P) es in
      let named : Q ≡ below_links file (W ++ P) [] ls = ap (part_of (rules_of file) (geometry file).pages (W ++ P)) (goes_named [] ls) in
      ap₂ (λ a b. a ++ b)
      (ap (tree_rows_text aggregate (tree_name file V l.step) (page_size file)) (rows_below file W (Go c ∷ []) (quiet_go c))
      ∙ one_text aggregate l.step P (row_start file W l) (one_tree file W l (h l (inl refl))))
      (texts_below aggregate (W ++ P) ls rising.1 (λ m i. h m (inr i)))
      ∙ sym (text_join aggregate P Q (subst (HasLaterStarts P) (sym named) (later_starts_below file W (W ++ P) l ls rising)))
      ∙ ap (text_of aggregate) (sym (rest_join (rules_of file) (geometry file).pages (are_rules file) W (c ∷ []) (goes es)))

-- What is written of the trees from all starts is the lines of the rows of the form.
pub trees_written : (aggregate : Bool) (file : List ℕ) (V : List Reference) → Survey file V
    → starts_text aggregate file V [] (start_errands file V) ≡ flat_map (form_line file V) (if aggregate then tree_rows file V else page_rows file V)
trees_written aggregate file V s =
    texts_below file V aggregate [] (starts file V) (starts_rise file (under schema_start V)) (start_role file V)
    ∙ ap (text_of file V aggregate) (all_visited file V s)
