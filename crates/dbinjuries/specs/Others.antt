-- The line of the faults that belong to an injury (own): how many there are, and the last of them, or the pages that look alike.
use Rattle.std.specs.Prelude.{ℕ, ◌+◌, ◌-◌, List, [], ◌∷◌, ◌++◌, length, take, map, fold, None, sum_by, codes, decimal, ◌==◌, if◌then◌else◌}
use Rattle.std.specs.List.{join_by, last_or, list_any}
use Rattle.std.specs.Option.{option_map_or}
use Rattle.dbformat.specs.Lines.{counted}
use Rattle.dbformat.specs.declared.Look.{Look}
use Rattle.dbformat.specs.declared.Look.TheVariants as look
use Rattle.dbtrace.specs.declared.Cause.{Cause}
use Rattle.dbtrace.specs.declared.Cause.TheVariants as cause
use Rattle.dbtrace.specs.declared.TracedFault.{TracedFault}
use Rattle.dbinjuries.specs.Kept.{has_page, look_cells}
use Rattle.dbinjuries.specs.Lines.{cells_text, indented, number_text}
use Rattle.dbinjuries.specs.Listing.{Injury}
use Rattle.dbinjuries.specs.declared.injury.Injury as kept
use Rattle.dbinjuries.specs.declared.injury.Others.{Others}
use Rattle.dbinjuries.specs.declared.page_runs.PageRun.{PageRun}

-- ---- pages in runs

-- a page after some runs: the last page of the last one, or the next of it, or the first of a run of its own
abbrev pub run_after : List PageRun → ℕ → List PageRun
run_after [] page = record { first = page; last = page } ∷ []
run_after (r ∷ []) page =
    if page == r.last
    then r ∷ []
    else if page == r.last + 1 then record r { last = page } ∷ [] else r ∷ record { first = page; last = page } ∷ []
run_after (r ∷ s ∷ rs) page = r ∷ run_after (s ∷ rs) page

-- a page more: nothing changes where one of the first ten runs has it
abbrev pub with_page : List PageRun → ℕ → List PageRun
with_page rs page = if list_any (has_page page) (take 10 rs) then rs else run_after rs page

-- the runs of some pages, in their order
abbrev pub runs : List ℕ → List PageRun
runs pages = fold with_page [] pages

-- a run: a page, or from the first page to the last
abbrev pub run_text : PageRun → List ℕ
run_text r = if r.first == r.last then decimal r.first else decimal r.first ++ codes " to " ++ decimal r.last

-- how many runs there are beside those that are shown
abbrev pub more_runs_text : ℕ → List ℕ
more_runs_text k = if k == 0 then [] else codes " and " ++ number_text k (codes " more run") (codes " more runs")

-- these runs, and k more
abbrev pub shown_runs_text : List PageRun → ℕ → List ℕ
shown_runs_text rs k = join_by run_text (codes ", ") rs ++ more_runs_text k

-- the first ten runs, and how many more there are
abbrev pub runs_text : List PageRun → List ℕ
runs_text rs = shown_runs_text (take 10 rs) (counted (length rs) - 10)

-- ---- the line

-- n faults, and where the last one is
abbrev pub last_text : ℕ → ℕ → ℕ → List ℕ
last_text n page item = codes "and " ++ decimal n ++ codes " more, the last at page " ++ decimal page ++ codes " item " ++ decimal item

-- how many cells some pages have together that look like pages of a tree
abbrev pub all_cells_text : Look → ℕ → List ℕ
all_cells_text (look.Tree l) cells = codes " with " ++ cells_text cells
all_cells_text _ cells = []

-- n pages that look like this one, and how many cells they have
abbrev pub alike_text : Look → ℕ → ℕ → List ℕ
alike_text l n cells = codes "and " ++ number_text n (codes " more page like it") (codes " more pages like it") ++ all_cells_text l cells ++ codes ": "

-- faults of pages that look like this one: how many there are, and the pages
abbrev pub alike_pages_text : Look → List TracedFault → List ℕ
alike_pages_text l others =
    alike_text l (counted (length others)) (counted (sum_by (λ x. look_cells x.cause) others)) ++ runs_text (runs (map (λ x. x.fault.page) others))

-- the faults that belong to one with this cause, and the last of them
abbrev pub belonging_text : Cause → List TracedFault → TracedFault → List ℕ
belonging_text (cause.Look l facts) others last = alike_pages_text l others
belonging_text _ others last = last_text (counted (length others)) last.fault.page last.fault.item

-- the faults that belong to an injury, if there are any
abbrev pub others_text : Injury → List ℕ
others_text e = option_map_or (λ last. indented (belonging_text e.first.cause e.others last)) (last_or None e.others) []

-- ---- by what is kept

-- run number i of some: after a comma, but for the first
abbrev pub next_run_text : ℕ → PageRun → List ℕ
next_run_text i r = if i == 0 then run_text r else codes ", " ++ run_text r

-- the faults that belong to one with this cause
abbrev pub kept_text : Cause → Others → List ℕ
kept_text (cause.Look l facts) o = alike_text l o.count o.cells ++ shown_runs_text (take o.runs.count o.runs.kept) (o.runs.count - 10)
kept_text _ o = last_text o.count o.page o.item

-- if there are any
abbrev pub kept_faults_line : Cause → Others → List ℕ
kept_faults_line c o = if o.count == 0 then [] else indented (kept_text c o)

-- the line of an injury
abbrev pub kept_others_text : kept.Injury → List ℕ
kept_others_text k = kept_faults_line k.first.cause k.others
