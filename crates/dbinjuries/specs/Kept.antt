-- What is kept of an injury.
use Rattle.std.specs.Prelude.{ℕ, ◌+◌, ◌-◌, Bool, ◌&&◌, ◌||◌, List, replicate, fold, take, nat_lt, nat_le, slice_index_or, slice_set, ◌==◌, if◌then◌else◌}
use Rattle.std.specs.List.{list_any}
use Rattle.dbformat.specs.Lines.{counted}
use Rattle.dbformat.specs.declared.Look.TheVariants as look
use Rattle.dbtrace.specs.declared.Cause.{Cause}
use Rattle.dbtrace.specs.declared.Cause.TheVariants as cause
use Rattle.dbtrace.specs.declared.TracedFault.{TracedFault}
use Rattle.dbinjuries.specs.declared.injury.Injury.{Injury}
use Rattle.dbinjuries.specs.declared.injury.Others.{Others}
use Rattle.dbinjuries.specs.declared.page_runs.PageRun.{PageRun}
use Rattle.dbinjuries.specs.declared.page_runs.PageRuns.{PageRuns}
use Rattle.dbinjuries.specs.Listing as listing

-- ---- runs of pages

abbrev pub no_run : PageRun
no_run = record { first = 0; last = 0 }

abbrev pub no_runs : PageRuns
no_runs = record { kept = replicate 10 no_run; count = 0; last = 0 }

-- whether a run has a page
abbrev pub has_page : ℕ → PageRun → Bool
has_page page r = nat_le r.first page && nat_le page r.last

-- whether a page is the last one
abbrev pub is_last : PageRuns → ℕ → Bool
is_last r page = nat_lt 0 r.count && (page == r.last)

-- whether it is, or a run that is kept has it
abbrev pub is_known : PageRuns → ℕ → Bool
is_known r page = is_last r page || list_any (has_page page) (take r.count r.kept)

-- whether a page follows the last one
abbrev pub is_next : PageRuns → ℕ → Bool
is_next r page = nat_lt 0 r.count && (page == r.last + 1)

-- the last run with a page more, if it is kept
abbrev pub run_grown : PageRuns → ℕ → List PageRun
run_grown r page =
    if nat_le r.count 10 then slice_set r.kept (r.count - 1) (record (slice_index_or r.kept (r.count - 1) no_run) { last = page }) else r.kept

-- a run more, if there is room
abbrev pub run_begun : PageRuns → ℕ → List PageRun
run_begun r page = if nat_lt r.count 10 then slice_set r.kept r.count (record { first = page; last = page }) else r.kept

-- a page more
abbrev pub run_added : PageRuns → ℕ → PageRuns
run_added r page =
    if is_known r page
    then r
    else if is_next r page
    then record { kept = run_grown r page; count = r.count; last = page }
    else record { kept = run_begun r page; count = counted (r.count + 1); last = page }

-- ---- an injury

-- how many cells a page has that looks like one of a tree
abbrev pub look_cells : Cause → ℕ
look_cells (cause.Look (look.Tree t) _) = t.cells
look_cells _ = 0

-- of one fault alone
abbrev pub lone_injury : TracedFault → Injury
lone_injury x = record { first = x; others = record { count = 0; page = 0; item = 0; runs = no_runs; cells = 0 } }

-- with one more
abbrev pub others_added : Others → TracedFault → Others
others_added o x = record {
  count = counted (o.count + 1);
  page = x.fault.page;
  item = x.fault.item;
  runs = run_added o.runs x.fault.page;
  cells = counted (o.cells + look_cells x.cause);
}

abbrev pub injury_added : Injury → TracedFault → Injury
injury_added e x = record e { others = others_added e.others x }

-- what is kept of an injury
abbrev pub kept_of : listing.Injury → Injury
kept_of e = fold injury_added (lone_injury e.first) e.others
