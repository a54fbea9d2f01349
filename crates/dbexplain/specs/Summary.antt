-- The summary of `explain` (own): how many faults a file has, with each code and reported at each start, on how many of the pages that were
-- reached from there, and how many of the tables and indexes have no fault.
use Rattle.std.specs.Prelude.{◌≡◌, ℕ, ◌+◌, ◌-◌, ◌*◌, not, Bool, true, false, ◌&&◌, List, [], ◌∷◌, ◌++◌, length, replicate, flat_map, count_by}
use Rattle.std.specs.Prelude.{slice_get, sum_by, take, codes, decimal, ◌==◌, if◌then◌else◌}
use Rattle.std.specs.List.{list_any, range_with_len}
use Rattle.std.specs.Option.{option_map_or}
use Rattle.dbformat.specs.Address.{freelist_start, schema_start}
use Rattle.dbformat.specs.Codes.{all_codes, is_code}
use Rattle.dbformat.specs.EndFaults.{page_numbers}
use Rattle.dbformat.specs.File.{geometry}
use Rattle.dbformat.specs.Header.{encoding}
use Rattle.dbformat.specs.Lines.{line_feed, code_text, code_words, counted}
use Rattle.dbformat.specs.Reference.{Reference}
use Rattle.dbformat.specs.Rows.{stat_rows}
use Rattle.dbformat.specs.Schema.{starts}
use Rattle.dbformat.specs.SchemaRow.{SchemaRow}
use Rattle.dbformat.specs.declared.Encoding.{Encoding}
use Rattle.dbformat.specs.declared.FaultCode.{FaultCode}
use Rattle.dbformat.specs.declared.RowKind.{RowKind}
use Rattle.dbformat.specs.declared.RowKind.TheVariants as row
use Rattle.dbinjuries.specs.Lines.{indented, number_text}
use Rattle.dbinjuries.specs.Others.{runs}
use Rattle.dbinjuries.specs.Zeros.{zero_pages}
use Rattle.dbinjuries.specs.declared.page_runs.PageRun.{PageRun}
use Rattle.dbexplain.specs.Facts.{bytes_text, page_begin}
use Rattle.dbexplain.specs.Indexes.{is_index_page}
use Rattle.dbexplain.specs.RowLines.{rows_text}
use Rattle.dbtrace.specs.declared.Part.{Part}
use Rattle.dbtrace.specs.declared.Part.TheVariants as part
use Rattle.dbtrace.specs.declared.TracedFault.{TracedFault}
use Rattle.dbscan.specs.Texts.{tree_of_row}
use Rattle.dbformat.specs.Starts.{start_at}
use Rattle.dbscan.specs.Placed.{reported_faults}
use Rattle.dbscan.specs.Roots.{listed_rows, root_page}
use Rattle.dbexplain.specs.declared.trees.TreeSum.{TreeSum}

-- Faults.

-- whether a part of a report is that of start k
abbrev pub is_part_of_start : ℕ → Part → Bool
is_part_of_start k (part.Start j) = j == k
is_part_of_start k _ = false

-- whether it is of the whole file: its header, or its end
abbrev pub is_whole : Part → Bool
is_whole (part.Start j) = false
is_whole _ = true

-- how many faults have a code
abbrev pub code_count : List TracedFault → FaultCode → ℕ
code_count ts code = count_by (λ t. is_code t.fault.code code) ts

-- how many were reported at start k
abbrev pub start_count : List TracedFault → ℕ → ℕ
start_count ts k = count_by (λ t. is_part_of_start k t.part) ts

-- and how many of the whole file
abbrev pub whole_count : List TracedFault → ℕ
whole_count ts = count_by (λ t. is_whole t.part) ts

-- Pages.

-- whether page p was reached from start k
abbrev pub is_reached : List Reference → ℕ → ℕ → Bool
is_reached V k p = option_map_or (λ j. j == k) (start_at V p) false

-- how many pages of a file were
abbrev pub reached_pages : List ℕ → List Reference → ℕ → ℕ
reached_pages file V k = count_by (is_reached V k) (page_numbers (geometry file))

-- whether page p has a fault that was reported at a start
abbrev pub is_reported : List TracedFault → ℕ → Bool
is_reported ts p = list_any (λ t. not (is_whole t.part) && (t.fault.page == p)) ts

-- how many of the pages that were reached from start k have one
abbrev pub faulty_pages : List ℕ → List Reference → List TracedFault → ℕ → ℕ
faulty_pages file V ts k = count_by (λ p. is_reached V k p && is_reported ts p) (page_numbers (geometry file))

-- Trees.

-- a start by its name: the freelist, or a tree and its root page
abbrev pub start_name : Encoding → List SchemaRow → ℕ → List ℕ
start_name e rows k =
    if k == freelist_start then codes "the freelist" else tree_of_row e rows k ++ codes " (root page " ++ decimal (root_page rows k) ++ codes ")"

-- whether a row is of an index, and not of a table
abbrev pub is_index : SchemaRow → Bool
is_index r = is_index_kind r.kind
  where
    is_index_kind : RowKind → Bool
    is_index_kind row.Index = true
    is_index_kind _ = false

-- whether start k is of a row of this kind: of an index, or of a table
abbrev pub is_of_kind : Bool → List SchemaRow → ℕ → Bool
is_of_kind index rows k = option_map_or (λ r. if index then is_index r else not (is_index r)) (slice_get rows (k - 1)) false

-- how many trees of this kind the rows name, and how many of them have no fault
abbrev pub whole_trees : Bool → List SchemaRow → List TracedFault → TreeSum
whole_trees index rows ts = record {
  whole = count_by (λ k. is_of_kind index rows k && (start_count ts k == 0)) (range_with_len 1 (length rows));
  all = count_by (is_of_kind index rows) (range_with_len 1 (length rows));
}

-- Lines.

-- a number with blanks before it, to the width of another
abbrev pub aligned : ℕ → ℕ → List ℕ
aligned most n = replicate (length (decimal most) - length (decimal n)) 32 ++ decimal n

-- n of all faults, if there are any
abbrev pub sum_line : ℕ → ℕ → List ℕ → List ℕ
sum_line all n text = if n == 0 then [] else indented (aligned (counted all) (counted n) ++ codes " " ++ text)

-- how many faults there are
abbrev pub count_text : ℕ → List ℕ
count_text n = decimal (counted n) ++ (if n == 1 then codes " fault" else codes " faults") ++ line_feed ∷ []

-- how many have a code
abbrev pub code_line : List TracedFault → FaultCode → List ℕ
code_line ts code = sum_line (length ts) (code_count ts code) (code_text code ++ codes " " ++ code_words code)

-- on how many of the pages that were reached from a start
abbrev pub faulty_pages_text : ℕ → ℕ → List ℕ
faulty_pages_text faulty n =
    if n == 0 then codes ", of which no page was reached"
    else codes ", on " ++ decimal faulty ++ codes " of its " ++ decimal n ++ (if n == 1 then codes " page" else codes " pages")

-- whether the tree of start k has rowids: no row names it as an index, and no page of it is one of an index, as those of a table without
-- rowids are
abbrev pub is_index_start : List SchemaRow → ℕ → Bool
is_index_start rows k = not (k == schema_start) && is_of_kind true rows k

abbrev pub has_rowids : List ℕ → List Reference → ℕ → Bool
has_rowids file V k = not (is_index_start (listed_rows file V) k) && not (list_any (is_index_page k) (stat_rows file V))

-- which rows of it the faults are of, where there are any
abbrev pub rows_below : List ℕ → List Reference → List TracedFault → ℕ → List ℕ
rows_below file V ts k = if has_rowids file V k then rows_text ts k else []

-- how many were reported at start k, and of which rows
abbrev pub start_sum_line : List ℕ → List Reference → List TracedFault → ℕ → List ℕ
start_sum_line file V ts k = sum_line (length ts) (start_count ts k)
    (codes "in " ++ start_name (encoding file) (listed_rows file V) k ++ faulty_pages_text (faulty_pages file V ts k) (reached_pages file V k))
    ++ (if start_count ts k == 0 then [] else rows_below file V ts k)

-- how many of the whole file
abbrev pub whole_line : List TracedFault → List ℕ
whole_line ts = sum_line (length ts) (whole_count ts) (codes "in the whole file")

-- how many of some trees have none
abbrev pub share_text : TreeSum → List ℕ → List ℕ → List ℕ
share_text t one more = decimal t.whole ++ codes " of " ++ number_text t.all one more

-- how many of the tables, and of the indexes
abbrev pub trees_text : TreeSum → TreeSum → List ℕ
trees_text tables indexes =
    indented (share_text tables (codes " table") (codes " tables") ++ codes " and " ++ share_text indexes (codes " index") (codes " indexes")
    ++ codes " without a fault")

-- the pages from one number to another, before what they are
abbrev pub pages_text : ℕ → ℕ → List ℕ
pages_text first last =
    if first == last then codes "page " ++ decimal first ++ codes " is" else codes "pages " ++ decimal first ++ codes " to " ++ decimal last ++ codes " are"

-- a run of pages that are zeros, where pages have this size
abbrev pub zero_run_line : ℕ → PageRun → List ℕ
zero_run_line page_size r = indented (pages_text r.first r.last ++ codes " zeros: " ++ bytes_text (page_begin page_size r.first) (r.last * page_size - 1))

-- how many more runs there are
abbrev pub more_zeros_line : ℕ → List ℕ
more_zeros_line k = if k == 0 then [] else indented (codes "and " ++ number_text k (codes " more run") (codes " more runs") ++ codes " of zero pages")

-- these runs, and k more
abbrev pub zero_runs_text : ℕ → List PageRun → ℕ → List ℕ
zero_runs_text page_size rs k = flat_map (zero_run_line page_size) rs ++ more_zeros_line k

-- the runs of the pages that are zeros, ten at most, and how many more there are
abbrev pub zeros_text : ℕ → List ℕ → List ℕ
zeros_text page_size pages = zero_runs_text page_size (take 10 (runs pages)) (counted (length (runs pages)) - 10)

-- the summary of these faults of a file with survey V: their number, by code, by start in the order of the starts, the pages that
-- are zeros, and the tables and indexes
abbrev pub summary : List ℕ → List Reference → List TracedFault → List ℕ
summary file V ts =
    count_text (length ts) ++ flat_map (code_line ts) all_codes ++ flat_map (λ l. start_sum_line file V ts l.step) (starts file V) ++ whole_line ts
    ++ (zeros_text (geometry file).page_size (zero_pages file V)
    ++ trees_text (whole_trees false (listed_rows file V) ts) (whole_trees true (listed_rows file V) ts))

-- Laws.

-- the numbers of the codes add up to that of all faults
abbrev pub CodesAddUp : List TracedFault → Type 0
CodesAddUp ts = sum_by (code_count ts) all_codes ≡ length ts

-- and so do those of the starts and of the whole file
abbrev pub StartsAddUp : List ℕ → List Reference → Type 0
StartsAddUp file V = sum_by (λ l. start_count (reported_faults file V) l.step) (starts file V) + whole_count (reported_faults file V)
    ≡ length (reported_faults file V)
