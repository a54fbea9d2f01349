-- The reporter of `explain`: what a notice makes of it, and what a run leaves.
use Rattle.std.specs.Prelude.{◌≡◌, ℕ, false, List, length, Result, Ok, Err}
use Rattle.std.specs.Io.KnownBytes.{Appends}
use Rattle.dbformat.specs.File.{geometry}
use Rattle.dbformat.specs.Lines.{counted}
use Rattle.dbformat.specs.Reference.{Reference}
use Rattle.dbformat.specs.Report.{faults, verdict}
use Rattle.dbformat.specs.Rows.{StatRow}
use Rattle.dbformat.specs.declared.Verdict.{Verdict}
use Rattle.dbtrace.specs.declared.TracedFault.{TracedFault}
use Rattle.dbsource.specs.Outs.{Begins, OutState, Puts}
use Rattle.dbsource.specs.declared.error.RunError.{RunError}
use Rattle.dbsource.specs.declared.error.RunError.TheVariants.{ReadFailed}
use Rattle.dbsource.specs.declared.out.WriteFailed.{WriteFailed}
use Rattle.dbwalk.specs.Reporting.{SinkState, one_out}
use Rattle.dbscan.specs.Notices.{Notice}
use Rattle.dbinjuries.specs.Listed.{listed_injuries}
use Rattle.dbinjuries.specs.Lists.{ListsFirst, received}
use Rattle.dbinjuries.specs.Traced.{ReceivesTraced}
use Rattle.dbscan.specs.Trees.{row_noted}
use Rattle.dbexplain.specs.AfterEnd.{after_end_reported, none_after_end, references_after_end}
use Rattle.dbexplain.specs.Explained.{explain_text}
use Rattle.dbexplain.specs.Indexes.{index_noted}
use Rattle.dbexplain.specs.Keeping.{IsEmpty, lines_of}
use Rattle.dbexplain.specs.KeptRanges.{range_reported}
use Rattle.dbexplain.specs.Tallies.{fault_reported}
use Rattle.dbexplain.specs.declared.reporter.ExplainReporter.{ExplainReporter}

module _ {A O : Type 0} where
  -- A fault was counted, and listed, and its rows noted, and whether it is a reference to a page after the stated end.
  pub record Adds (x : TracedFault) (s t : ExplainReporter A O) : Type 0 where
    pub tally : t.kept.now.tally ≡ fault_reported s.kept.now.tally x
    pub listing : t.kept.now.listing ≡ received s.kept.now.listing x
    pub ranges : t.kept.now.ranges ≡ range_reported s.kept.now.ranges x
    pub after_end : t.after_end ≡ after_end_reported s.after_end x
    pub indexes : t.kept.now.indexes ≡ s.kept.now.indexes
    pub trees : t.kept.now.trees.known ≡ s.kept.now.trees.known
    pub out : t.out.now ≡ s.out.now

  -- The start of the page of a row was noted, and whether this is one of an index.
  pub record Notes (r : StatRow) (s t : ExplainReporter A O) : Type 0 where
    pub trees : t.kept.now.trees.known ≡ row_noted s.kept.now.trees.known r
    pub indexes : t.kept.now.indexes ≡ index_noted s.kept.now.indexes r
    pub tally : t.kept.now.tally ≡ s.kept.now.tally
    pub listing : t.kept.now.listing ≡ s.kept.now.listing
    pub ranges : t.kept.now.ranges ≡ s.kept.now.ranges
    pub after_end : t.after_end ≡ s.after_end
    pub out : t.out.now ≡ s.out.now

  -- nothing was received of a file yet, and there is room for `limit` injuries
  pub record IsFresh (limit : ℕ) (file : List ℕ) (s : ExplainReporter A O) : Type 0 where
    pub kept : IsEmpty limit (geometry file) s.kept.now
    pub after_end : s.after_end ≡ none_after_end (geometry file) (length file)

  -- a notice was taken: a fault was added, or a row noted, and nothing else changes it
  abbrev pub Receives : ExplainReporter A O → Notice → ExplainReporter A O → Type 0
  Receives = ReceivesTraced Adds Notes

  module _ (held : O → OutState) where
    -- it borrows its Out, whose failures are counted; nothing is put before its end
    abbrev pub explain_held : ExplainReporter A O → SinkState
    explain_held s = one_out s.out.ghost_name (held s.out.now).failures false

    -- By the answer of a run over a file: the report was put, and this was found, and the references to pages after the stated end were
    -- counted; after a failed read nothing was put yet, and the first faults are listed; and at another error a beginning of the report was put.
    abbrev pub IsReportLeft : ℕ → List ℕ → List Reference → Result Verdict RunError → ExplainReporter A O → ExplainReporter A O → Type 0
    IsReportLeft limit file V (Ok v) s t = Appends (held s.out.now).bytes (held t.out.now).bytes (explain_text limit file V (listed_injuries file V))
        × (v ≡ verdict (faults file V)) × (t.after_end.references ≡ counted (references_after_end file V))
    IsReportLeft limit file V (Err ReadFailed) s t = (t.out.now ≡ s.out.now) × ListsFirst limit file V t.kept.now.listing
    IsReportLeft limit file V (Err e) s t = Begins (held s.out.now).bytes (held t.out.now).bytes (explain_text limit file V (listed_injuries file V))

    -- what a run leaves of a reporter that had received nothing
    abbrev pub LeavesExplained : List ℕ → List Reference → Result Verdict RunError → ExplainReporter A O → ExplainReporter A O → Type 0
    LeavesExplained file V r s t = (limit : ℕ) → IsFresh limit file s → IsReportLeft limit file V r s t

    -- What the end of a run makes of it: after a failed read the lines of the injuries found so far were put, as far as the Out took them.
    pub record PutsLines (s t : ExplainReporter A O) : Type 0 where
      pub put : Result (Unit {0}) WriteFailed
      pub lines : Puts put (held s.out.now) (held t.out.now) (lines_of s.kept.now.listing.injuries.listed)

    -- by the answer
    abbrev pub Ends : Result Verdict RunError → ExplainReporter A O → ExplainReporter A O → Type 0
    Ends (Err ReadFailed) s t = PutsLines s t
    Ends r s t = t.out.now ≡ s.out.now
