-- What the statistics write of the starts of a file, by what is reported of them.
use Rattle.dbreport.proofs.Common.{◌≡◌, ℕ, suc, ◌+◌, Bool, true, false, cond, List, [], ◌∷◌, ◌++◌, length, map, Some, Result, refl, sym, ap, ap₂, ◌∙◌, subst}
use Rattle.dbreport.proofs.Common.{arith, append_assoc, append-nil, OnOk, slice_get, codes, ◌==◌, geometry, faults, Fault, Geometry, page_size, tree_name}
use Rattle.dbreport.proofs.Common.{trunk, Way, Reference, StatRow, Survey, OutState, RunError, Reports, Notice, ended, run_notices, name_at, ReceivesOpen}
use Rattle.dbreport.proofs.Common.{tree_end_text, pages_text, WritesBoth, StatReporter, Form, other_text, enumerate_from, Errand, Go, Follow, errands_at}
use Rattle.dbreport.proofs.Common.{freelist_start, start, At, at_freelist, at_row, at_schema, schema_reference, IsForFile, rows_text, rows_below, common_steps}
use Rattle.dbformat.specs.EndFaults.{end_faults}
use Rattle.dbformat.specs.HeaderFaults.{header_faults}
use Rattle.dbformat.specs.Header.{encoding as encoding_of, first_trunk}
use Rattle.dbformat.specs.SchemaRow.{SchemaRow}
use Rattle.dbformat.specs.Story.{Event, start_errands}
use Rattle.dbmarks.specs.Marking.{marks_of}
use Rattle.dbmarks.specs.declared.marks.Mark.{Mark}
use Rattle.dbtrace.specs.Finding.{Finding, reported_row, reported_fault, reported_below, visited_below}
use Rattle.dbwalk.specs.Trunks.{freelist_reference}
use Rattle.dbwalk.proofs.Reporting.Belows.{quiet_go, reported_none}
use Rattle.dbtrace.specs.declared.Part.{Part}
use Rattle.dbscan.specs.Notices.{whole, found, pages_from, errands_left, root_reference, tree_notices, later_notices, start_notices, end_notices}
use Rattle.dbscan.specs.Roots.{listed_rows}
use Rattle.dbscan.specs.Findings.{found_rows}
use Rattle.dbreport.specs.StatLines.{tree_rows_text, starts_text}
use Rattle.dbreport.proofs.ListedNames.{listed_name}
use Rattle.dbreport.proofs.OtherRows.{others_from, others_text}
use Rattle.dbreport.proofs.StatNotices.{Sheet, all_lines, lines, next, notices_written}
use Rattle.dbreport.proofs.StatTrees.{freelist_rows}
use Rattle.dbscan.proofs.StartByStart.{of_later}
use Rattle.dbscan.proofs.ReceivedFaults.{faults_are_received}
use Rattle.dbscan.proofs.ReportedStarts.{start_errands_listed}
use Rattle.dbtrace.specs.declared.Part.TheVariants as part

schema_name : (file : List ℕ) (V : List Reference) → codes "sqlite_schema" ≡ tree_name file V 0
unfolding tree_name
schema_name file V = refl

no_pages : (form : Bool) (name : List ℕ) (size : ℕ) → pages_text form name size [] ≡ []
no_pages form name size = grind arith

no_tree : (form : Bool) (name : List ℕ) (size : ℕ) → tree_rows_text form name size [] ≡ []
no_tree form name size = grind arith

-- the rows of a tree as they come, and then its own
pages_more : (form : Bool) (name : List ℕ) (size : ℕ) (r : StatRow) (rows : List StatRow)
    → pages_text form name size (r ∷ []) ++ pages_text form name size rows ≡ pages_text form name size (r ∷ rows)
pages_more form name size r rows = grind (arith, common_steps)

pages_ended : (form : Bool) (name : List ℕ) (size : ℕ) (rows : List StatRow) → pages_text form name size rows ++ tree_end_text form name size rows
    ≡ tree_rows_text form name size rows
pages_ended form name size rows = grind (arith, common_steps)

-- ---- the lines of what is reported

found_lines : (p : Sheet) (at : At) (items : List Finding) (rest : List Notice)
    → all_lines p (map (found at) items ++ rest) ≡ pages_text p.form.aggregate (name_at p.encoding at) p.size (found_rows items)
    ++ all_lines (record p { rows = p.rows ++ found_rows items }) rest
found_lines p at [] rest =
    ap (λ rows. all_lines (record p { rows = rows }) rest) (sym (append-nil p.rows))
    ∙ ap (λ l. l ++ all_lines (record p { rows = p.rows ++ [] }) rest) (sym (no_pages p.form.aggregate (name_at p.encoding at) p.size))
found_lines p at (reported_row r ∷ items) rest =
    let name = name_at p.encoding at in
    let q : Sheet = record p { rows = p.rows ++ r ∷ [] } in
    let others = pages_text p.form.aggregate name p.size (found_rows items) in
    ap (λ l. pages_text p.form.aggregate name p.size (r ∷ []) ++ l)
    (found_lines q at items rest ∙ ap (λ rows. others ++ all_lines (record p { rows = rows }) rest) (append_assoc p.rows (r ∷ []) (found_rows items)))
    ∙ sym (append_assoc (pages_text p.form.aggregate name p.size (r ∷ [])) others _)
    ∙ ap (λ l. l ++ all_lines (record p { rows = p.rows ++ (r ∷ found_rows items) }) rest) (pages_more p.form.aggregate name p.size r (found_rows items))
found_lines p at (reported_fault f why ∷ items) rest = found_lines p at items rest

module _ (file : List ℕ) (V : List Reference) (form all : Bool) where
  -- between two trees
  abbrev sheet : Sheet
  sheet = record { form = record { aggregate = form; all = all }; encoding = encoding_of file; size = page_size file; rows = [] }

  abbrev shown : At → List ℕ
  shown at = name_at (encoding_of file) at

  tree_lines : (at : At) (W : List Reference) (c : Reference) (rest : List Notice)
      → all_lines sheet (tree_notices at file W c ++ rest) ≡ tree_rows_text form (shown at) (page_size file) (found_rows (reported_below file W (Go c ∷ [])))
      ++ all_lines sheet rest
  tree_lines at W c rest =
      let items = reported_below file W (Go c ∷ []) in
      let rows = found_rows items in
      ap (all_lines sheet) (append_assoc (map (found at) items) (ended at ∷ []) rest)
      ∙ found_lines sheet at items (ended at ∷ rest)
      ∙ sym (append_assoc (pages_text form (shown at) (page_size file) rows) (tree_end_text form (shown at) (page_size file) rows) (all_lines sheet rest))
      ∙ ap (λ l. l ++ all_lines sheet rest) (pages_ended form (shown at) (page_size file) rows)

  -- of the freelist there is no row
  abbrev if_none : Bool → List (Errand Way Event)
  if_none b = errands_at [] (map Follow (cond b [] (start freelist_start trunk (first_trunk file) ∷ [])))

  freelist_lines : (W : List Reference) → all_lines sheet (later_notices file W []) ≡ starts_text form file V W (errands_left file [])
  freelist_lines W =
      let items = reported_below file W (errands_left file []) in
      ap (all_lines sheet) (sym (append-nil (map (found at_freelist) items))) ∙ found_lines sheet at_freelist items [] ∙ append-nil _
      ∙ by_case (first_trunk file == 0)
    where
      d : Reference
      d = freelist_reference (first_trunk file)

      none : found_rows (reported_below file W (Go d ∷ [])) ≡ []
      none = rows_below file W (Go d ∷ []) (quiet_go d) ∙ freelist_rows file W (start freelist_start trunk (first_trunk file)) refl

      by_case : (b : Bool) → pages_text form (shown at_freelist) (page_size file) (found_rows (reported_below file W (if_none b)))
          ≡ starts_text form file V W (if_none b)
      by_case true = ap (λ l. pages_text form (shown at_freelist) (page_size file) (found_rows l)) (reported_none file W)
          ∙ no_pages form (shown at_freelist) (page_size file)
      by_case false =
          ap (pages_text form (shown at_freelist) (page_size file)) none ∙ no_pages form (shown at_freelist) (page_size file)
          ∙ sym (append-nil _ ∙ ap (tree_rows_text form (tree_name file V freelist_start) (page_size file)) none
          ∙ no_tree form (tree_name file V freelist_start) (page_size file))

  -- the names of the rows are those of the trees from start k on
  abbrev AreNamed : ℕ → List SchemaRow → Type 0
  AreNamed k rows = (j : ℕ) (r : SchemaRow) → slice_get rows j ≡ Some r → shown (at_row (k + j) r) ≡ tree_name file V (k + j)

  -- what is written from a tree on
  abbrev Writes : ℕ → List SchemaRow → List Reference → List Notice → List (Errand Way Event) → Type 0
  Writes k rows W ns es = AreNamed k rows → all_lines sheet ns ≡ starts_text form file V W es

  next_lines : (k : ℕ) (row : SchemaRow) (rows : List SchemaRow) (W : List Reference) (ns : List Notice) (es : List (Errand Way Event))
      → Writes (k + 1) rows (W ++ visited_below file W (Go (root_reference file k row) ∷ [])) ns es
      → Writes k (row ∷ rows) W (tree_notices (at_row k row) file W (root_reference file k row) ++ ns) (Go (root_reference file k row) ∷ es)
  next_lines k row rows W ns es h named =
      let c = root_reference file k row in
      let zero_more : k + 0 ≡ k = omega arith in
      let text : List ℕ → List ℕ = λ name. tree_rows_text form name (page_size file) (found_rows (reported_below file W (Go c ∷ []))) in
      let here : shown (at_row k row) ≡ tree_name file V k = subst (λ n. shown (at_row n row) ≡ tree_name file V n) zero_more (named 0 row refl) in
      tree_lines (at_row k row) W c ns
      ∙ ap₂ (λ name rest. text name ++ rest) here (h (λ j r e.
      let n : k + suc j ≡ (k + 1) + j = omega arith in subst (λ n. shown (at_row n r) ≡ tree_name file V n) n (named (suc j) r e)))

  start_lines : Survey file V → all_lines sheet (start_notices file V) ≡ starts_text form file V [] (start_errands file V)
  start_lines survey =
      let c = schema_reference in
      let U = [] ++ visited_below file [] (Go c ∷ []) in
      let rows = listed_rows file V in
      let text : List ℕ → List ℕ = λ name. tree_rows_text form name (page_size file) (found_rows (reported_below file [] (Go c ∷ []))) in
      tree_lines at_schema [] c (later_notices file U (enumerate_from 1 rows))
      ∙ ap₂ (λ name rest. text name ++ rest) (schema_name file V) (of_later file Writes (λ k W named. freelist_lines W) next_lines 1 rows U (λ j r e.
      let n : suc j ≡ 1 + j = omega arith in subst (λ n. shown (at_row n r) ≡ tree_name file V n) n (listed_name file V rows j r refl e)))
      ∙ ap (starts_text form file V []) (sym (start_errands_listed file V survey))

  -- of faults of the whole file there is no row
  lines_whole : (q : Part) (p : Sheet) (fs : List Fault) (rest : List Notice) → all_lines p (map (whole q) fs ++ rest) ≡ all_lines p rest
  lines_whole q p [] rest = refl
  lines_whole q p (f ∷ fs) rest = lines_whole q p fs rest

  no_lines : (q : Part) (p : Sheet) (fs : List Fault) → all_lines p (map (whole q) fs) ≡ []
  no_lines q p [] = refl
  no_lines q p (f ∷ fs) = no_lines q p fs

  same_form : (p : Sheet) (n : Notice) → (next p n).form ≡ p.form
  same_form p n = grind arith

  -- the rows of the other pages, and nothing after them
  others_lines : (p : Sheet) (g : Geometry) (q : ℕ) (marks : List Mark) (fs : List Fault)
      → all_lines p (pages_from g q marks ++ map (whole part.End) fs) ≡ others_from p.form.all g q marks
  others_lines p g q [] fs = no_lines part.End p fs
  others_lines p g q (mark ∷ marks) fs = ap (λ l. other_text p.form.all g q mark ++ l) (others_lines p g (q + 1) marks fs)

  lines_then : (p : Sheet) (ns : List Notice) (g : Geometry) (marks : List Mark) (fs : List Fault)
      → all_lines p (ns ++ (pages_from g 1 marks ++ map (whole part.End) fs)) ≡ all_lines p ns ++ others_from p.form.all g 1 marks
  lines_then p [] g marks fs = others_lines p g 1 marks fs
  lines_then p (n ∷ ns) g marks fs =
      ap (λ l. lines p n ++ l) (lines_then (next p n) ns g marks fs)
      ∙ ap (λ (f : Form). lines p n ++ (all_lines (next p n) ns ++ others_from f.all g 1 marks)) (same_form p n)
      ∙ sym (append_assoc (lines p n) (all_lines (next p n) ns) (others_from p.form.all g 1 marks))

  run_lines : Survey file V → all_lines sheet (run_notices file V) ≡ rows_text form all file V
  run_lines survey =
      lines_whole part.Header sheet (header_faults file (length file)) (start_notices file V ++ end_notices file V)
      ∙ lines_then sheet (start_notices file V) (geometry file) (marks_of (geometry file) V) (end_faults file V)
      ∙ ap₂ (λ a b. a ++ b) (start_lines survey) (others_text all file V survey)

-- All of a file was reported, or a beginning: its rows and faults were written accordingly.
pub run_written : {A O E : Type 0} (held : O → OutState) (held' : E → OutState) (file : List ℕ) (V : List Reference) → Survey file V → (s t : StatReporter O E)
    → IsForFile file s → s.is_shut ≡ false
    → (r : Result A RunError) → OnOk r (t.is_shut ≡ false) → Reports (ReceivesOpen held held') r s (run_notices file V) t
    → WritesBoth held held' r s t (rows_text s.form.aggregate s.form.all file V) (faults file V)
run_written held held' file V survey s t is first r last reported =
    let p = sheet file V s.form.aggregate s.form.all in
    subst (λ x. WritesBoth held held' r s t x (faults file V)) (run_lines file V s.form.aggregate s.form.all survey)
    (subst (λ fs. WritesBoth held held' r s t (all_lines p (run_notices file V)) fs) (faults_are_received file V survey)
    (notices_written held held' r p (run_notices file V) s t (record { form = refl; encoding = is.encoding; size = is.page_size; summed = is.summed })
    first last reported))
