-- The summary by the counts of a tally.
use Rattle.std.specs.Prelude.{ℕ, suc, ◌-◌, Bool, true, false, ◌&&◌, ◌||◌, List, [], ◌++◌, slice_get, unwrap_or, if◌then◌else◌, take, length, min, count_by}
use Rattle.std.specs.Prelude.{codes, ◌==◌}
use Rattle.std.specs.List.{flat_map, range_with_len}
use Rattle.dbformat.specs.Address.{freelist_start}
use Rattle.dbformat.specs.Codes.{all_codes}
use Rattle.dbformat.specs.Lines.{code_text, code_words}
use Rattle.dbformat.specs.SchemaRow.{SchemaRow}
use Rattle.dbformat.specs.declared.Encoding.{Encoding}
use Rattle.dbformat.specs.declared.FaultCode.{FaultCode}
use Rattle.dbinjuries.specs.declared.page_runs.PageRuns.{PageRuns}
use Rattle.dbexplain.specs.KeptLines.{kept_text}
use Rattle.dbexplain.specs.KeptRanges.{KeptRanges}
use Rattle.dbexplain.specs.Summary.{aligned, count_text, faulty_pages_text, is_index_start, is_of_kind, start_name, sum_line, trees_text, zero_runs_text}
use Rattle.dbexplain.specs.Tallies.{Tallied, count_at, count_of}
use Rattle.dbexplain.specs.declared.tally.StartCount.{StartCount}
use Rattle.dbexplain.specs.declared.trees.TreeSum.{TreeSum}

-- the beginning of the line of a count
abbrev pub sum_front : ℕ → ℕ → List ℕ
sum_front all n = codes "    " ++ aligned all n ++ codes " "

-- the line of a code
abbrev pub code_sum : Tallied → FaultCode → List ℕ
code_sum t code = sum_line t.all (count_of t code) (code_text code ++ codes " " ++ code_words code)

-- the line of a start with this name
abbrev pub start_sum : ℕ → List ℕ → StartCount → List ℕ
start_sum all name c = sum_line all c.faults (codes "in " ++ name ++ faulty_pages_text c.faulty c.reached)

-- the lines of its rows, by what is kept of them, where its tree has rowids
abbrev pub rows_sum : KeptRanges → List Bool → List SchemaRow → ℕ → List ℕ
rows_sum ranges indexes rows k = if is_index_start rows k || unwrap_or (slice_get indexes k) false then [] else kept_text ranges k

-- all lines of a start by its number, where these are the lines of the rows of each
abbrev pub numbered_sum : Tallied → (ℕ → List ℕ) → (ℕ → List ℕ) → ℕ → List ℕ
numbered_sum t name below k = start_sum t.all (name k) (count_at t k) ++ (if (count_at t k).faults == 0 then [] else below k)

-- those of the trees, the schema's and one for each row
abbrev pub tree_sums : Tallied → (ℕ → List ℕ) → (ℕ → List ℕ) → List SchemaRow → List ℕ
tree_sums t name below rows = flat_map (numbered_sum t name below) (range_with_len 0 (suc (length rows)))

-- how many of the trees of this kind have no fault
abbrev pub trees_by : Bool → List SchemaRow → Tallied → TreeSum
trees_by index rows t = record {
  whole = count_by (λ k. is_of_kind index rows k && ((count_at t k).faults == 0)) (range_with_len 1 (length rows));
  all = count_by (is_of_kind index rows) (range_with_len 1 (length rows));
}

-- the line of both kinds
abbrev pub trees_sum : List SchemaRow → Tallied → List ℕ
trees_sum rows t = trees_text (trees_by false rows t) (trees_by true rows t)

-- the lines of the pages that are zeros, by what is kept of their runs, and the last line
abbrev pub zeros_sum : ℕ → PageRuns → List ℕ
zeros_sum page_size r = zero_runs_text page_size (take (min r.count 10) r.kept) (r.count - 10)

abbrev pub last_sum : ℕ → PageRuns → List SchemaRow → Tallied → List ℕ
last_sum page_size r rows t = zeros_sum page_size r ++ trees_sum rows t

-- the summary
abbrev pub summary_by : ℕ → PageRuns → Encoding → List SchemaRow → (ℕ → List ℕ) → Tallied → List ℕ
summary_by page_size r e rows below t =
    count_text t.all ++ (flat_map (code_sum t) all_codes ++ (tree_sums t (start_name e rows) below rows
    ++ (numbered_sum t (start_name e rows) below freelist_start ++ (sum_line t.all t.whole (codes "in the whole file")
    ++ last_sum page_size r rows t))))
