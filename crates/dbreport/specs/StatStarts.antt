-- What the statistics have written of the starts of a file, one after another.
use Rattle.std.specs.Prelude.{◌≡◌, ℕ, Bool, false, List, [], ◌++◌, Result, IfOk, flat_map, if◌then◌else◌}
use Rattle.dbformat.specs.Header.{encoding, page_size}
use Rattle.dbformat.specs.Reference.{Reference}
use Rattle.dbformat.specs.Report.{faults, verdict}
use Rattle.dbformat.specs.Story.{start_errands}
use Rattle.dbformat.specs.Rows.{form_rows, other_rows}
use Rattle.dbformat.specs.declared.Verdict.{Verdict}
use Rattle.dbformat.specs.Lines.{fault_line, form_line}
use Rattle.dbsource.specs.Outs.{OutState, Writes}
use Rattle.dbsource.specs.declared.error.RunError.{RunError}
use Rattle.dbreport.specs.StatLines.{starts_text}
use Rattle.dbreport.specs.Statistics.{form_of}
use Rattle.dbreport.specs.Sums.{sums_of}
use Rattle.dbreport.specs.declared.statistics.reporter.StatReporter.{StatReporter}

-- the reporter writes as the file asks for, and no row of a tree is left to be added up
pub record IsForFile {O E : Type 0} (file : List ℕ) (s : StatReporter O E) : Type 0 where
  pub encoding : s.encoding ≡ encoding file
  pub page_size : s.page_size ≡ page_size file
  pub summed : s.sums ≡ sums_of []

-- what is written of all rows: of the trees, and of the other pages, where they are asked for
abbrev pub rows_text : Bool → Bool → List ℕ → List Reference → List ℕ
rows_text aggregate all file V = starts_text aggregate file V [] (start_errands file V) ++ flat_map (form_line file V) (if all then other_rows file V else [])

-- What a run leaves of the reporter, where it received nothing before and writes as the file asks for: on each Out its part of the
-- report, at an error a beginning of it; and the verdict.
abbrev pub LeavesStat : {O E : Type 0} → (O → OutState) → (E → OutState) → List ℕ → List Reference → Result Verdict RunError → StatReporter O E
    → StatReporter O E → Type 0
LeavesStat held held' file V r s t = IsForFile file s → s.found ≡ 0 → s.is_shut ≡ false
    → Writes r (held s.out.now).bytes (held t.out.now).bytes (flat_map (form_line file V) (form_rows (form_of s.form) file V))
    × Writes r (held' s.err.now).bytes (held' t.err.now).bytes (flat_map fault_line (faults file V)) × IfOk r (λ v. v ≡ verdict (faults file V))
