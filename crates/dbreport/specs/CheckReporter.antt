-- The reporter of a check: what a finding makes of it, and what it writes and answers at the end.
use Rattle.std.specs.Prelude.{◌≡◌, ℕ, ◌+◌, false, ◌==◌, nat_lt, List, [], Result, Ok, IfOk, if◌then◌else◌}
use Rattle.dbformat.specs.Lines.{counted, fault_line, ok_line}
use Rattle.dbformat.specs.Reference.{Reference}
use Rattle.dbformat.specs.Report.{check_text, faults, more_text, verdict, verdict_of}
use Rattle.dbformat.specs.declared.Fault.{Fault}
use Rattle.dbformat.specs.declared.Verdict.{Verdict}
use Rattle.dbsource.specs.Outs.{OutState, Puts, Writes}
use Rattle.dbsource.specs.declared.error.RunError.{RunError}
use Rattle.dblines.specs.Writing.{Wrote}
use Rattle.dblines.specs.declared.writer.Writer.{Writer}
use Rattle.dbwalk.specs.Reporting.{SinkState, one_out}
use Rattle.dbreport.specs.declared.checking.CheckReporter.{CheckReporter}

-- these bytes were put whole
abbrev pub PutsAll : OutState → OutState → List ℕ → Type 0
PutsAll old new bytes = Puts {A = Unit {0}} {E = Unit {0}} (Ok tt) old new bytes

-- its Out, as a writer's
abbrev pub writer_of : {O : Type 0} → CheckReporter O → Writer O
writer_of s = record { out = s.out; has_failed = s.has_failed }

-- a fault was shown, where it is one of the first, or else counted
pub record ShowsFault {O : Type 0} (held : O → OutState) (s : CheckReporter O) (f : Fault) (t : CheckReporter O) : Type 0 where
  pub limit : t.limit ≡ s.limit
  pub shown : t.shown ≡ (if nat_lt s.shown s.limit then s.shown + 1 else s.shown)
  pub more : t.more ≡ (if nat_lt s.shown s.limit then s.more else counted (s.more + 1))
  pub wrote : Wrote held (writer_of s) (if nat_lt s.shown s.limit then fault_line f else []) (writer_of t)

-- the last line, by the number of faults that were shown, and of those that were not
abbrev pub end_text : ℕ → ℕ → List ℕ
end_text shown more = if shown + more == 0 then ok_line else more_text more

-- and what was found
abbrev pub found_verdict : ℕ → ℕ → Verdict
found_verdict shown more = verdict_of (counted (shown + more))

-- it borrows its Out, whose failures are counted, and is shut after one
abbrev pub check_held : {O : Type 0} → (O → OutState) → CheckReporter O → SinkState
check_held held s = one_out s.out.ghost_name (held s.out.now).failures s.has_failed

-- What a check leaves of its reporter, where it received nothing before: its text, or after an error a beginning of it; and the verdict.
abbrev pub LeavesCheck : {O : Type 0} → (O → OutState) → List ℕ → List Reference → Result Verdict RunError → CheckReporter O → CheckReporter O → Type 0
LeavesCheck held file V r s t = s.has_failed ≡ false → s.shown ≡ 0 → s.more ≡ 0
    → Writes r (held s.out.now).bytes (held t.out.now).bytes (check_text s.limit (faults file V)) × IfOk r (λ v. v ≡ verdict (faults file V))
