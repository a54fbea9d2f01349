-- What `dbck explain` writes of a file with survey V (own): the faults that lead, each with where it is, what it goes back to and
-- what belongs to it; and then how many faults there are, by code and by tree.
use Rattle.std.specs.Prelude.{◌≡◌, ℕ, ◌+◌, List, [], ◌∷◌, ◌++◌, take, drop, flat_map, Ok, codes}
use Rattle.std.specs.List.{sum_by}
use Rattle.std.specs.Option.{option_map_or}
use Rattle.dbformat.specs.File.{geometry, refusal}
use Rattle.dbformat.specs.Header.{stated_pages}
use Rattle.dbformat.specs.Lines.{fault_line, ok_line}
use Rattle.dbformat.specs.Reference.{Reference}
use Rattle.dbformat.specs.Report.{Report, faults, more_text, refused_report, verdict}
use Rattle.dbformat.specs.declared.Fault.{Fault}
use Rattle.dbformat.specs.declared.FaultCode.{FaultCode}
use Rattle.dbformat.specs.declared.FaultCode.TheVariants.{H06}
use Rattle.dbtrace.specs.declared.Cause.{Cause}
use Rattle.dbtrace.specs.declared.Cause.TheVariants as cause
use Rattle.dbtrace.specs.declared.TracedFault.{TracedFault}
use Rattle.dbinjuries.specs.Lines.{cause_text, indented}
use Rattle.dbinjuries.specs.Listing.{Injury, injuries, size}
use Rattle.dbinjuries.specs.Others.{others_text}
use Rattle.dbinjuries.specs.Listed.{IsBeginning, listed_injuries, listed_faults}
use Rattle.dbexplain.specs.Below.{lines_below, place_line}
use Rattle.dbscan.specs.Placed.{reported_faults}
use Rattle.dbexplain.specs.Facts.{facts_text, run_text}
use Rattle.dbexplain.specs.Summary.{pages_text, summary}

-- ---- what is written of an injury

-- where a file is shorter than the header states: the pages after its last one, up to the stated number
abbrev pub missing_line : List ℕ → FaultCode → List ℕ
missing_line file H06 = indented (pages_text ((geometry file).pages + 1) (stated_pages file) ++ codes " missing")
missing_line file _ = []

-- what comes after the line of a cause of a fault of page p: of a key and a leaf where its page is, of a page what is known of it, and of a
-- chain the longest run of one byte in the overflow page with the fault
abbrev pub after_cause : List ℕ → List Reference → ℕ → Cause → List ℕ
after_cause file V p (cause.Key k left) = place_line file V k.page
after_cause file V p (cause.Leaf page rowids) = place_line file V page
after_cause file V p (cause.Page page facts) = facts_text (geometry file).page_size page facts
after_cause file V p (cause.Look l facts) = facts_text (geometry file).page_size p facts
after_cause file V p (cause.Chain c) = run_text (geometry file).page_size p c.seen.run
after_cause file V p c = []

-- what a fault of page p goes back to
abbrev pub cause_lines : List ℕ → List Reference → ℕ → Cause → List ℕ
cause_lines file V p c = cause_text c ++ after_cause file V p c

-- the fault line, where the fault is, and the missing pages
abbrev pub front_text : List ℕ → List Reference → Fault → List ℕ
front_text file V f = fault_line f ++ (lines_below file V f f.code ++ missing_line file f.code)

-- and what the fault goes back to, and the faults that belong to it
abbrev pub injury_text : List ℕ → List Reference → Injury → List ℕ
injury_text file V e = front_text file V e.first.fault ++ (cause_lines file V e.first.fault.page e.first.cause ++ others_text e)

-- ---- the report

-- the first injuries, how many faults belong to none of them, and the summary; or that there is no fault
abbrev pub explain_text : ℕ → List ℕ → List Reference → List Injury → List ℕ
explain_text limit file V [] = ok_line
explain_text limit file V (e ∷ es) =
    flat_map (injury_text file V) (take limit (e ∷ es)) ++ (more_text (sum_by size (drop limit (e ∷ es))) ++ summary file V (reported_faults file V))

-- the report of `explain` with at most `limit` injuries: its verdict is that of `check`
unfoldable pub explain_report : ℕ → List ℕ → List Reference → Report
explain_report limit file V = option_map_or refused_report (refusal file)
    (record { out = explain_text limit file V (listed_injuries file V); err = []; answer = Ok (verdict (faults file V)) })

-- ---- what is written after a failed read

-- the fault lines of the first injuries
abbrev pub found_text : ℕ → List Injury → List ℕ
found_text limit es = flat_map (λ (e : Injury). fault_line e.first.fault) (take limit es)

-- The fault lines of the first injuries of the faults found so far: of a beginning of those that are listed.
pub record IsFoundText (limit : ℕ) (file : List ℕ) (V : List Reference) (text : List ℕ) : Type 0 where
  pub reported : List TracedFault
  pub first : IsBeginning reported (listed_faults file V)
  pub lines : text ≡ found_text limit (injuries reported)
