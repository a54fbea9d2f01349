-- What a run says of a file: how many faults it has.
use Rattle.std.specs.Prelude.{◌≡◌, ◌↔◌, ℕ, ◌+◌, false, List, length, Result, IfOk}
use Rattle.dbformat.specs.File.{geometry}
use Rattle.dbformat.specs.Lines.{counted}
use Rattle.dbformat.specs.Reference.{Reference}
use Rattle.dbformat.specs.Report.{faults, verdict}
use Rattle.dbformat.specs.Sound.{Sound}
use Rattle.dbformat.specs.Survey.{Survey, survey}
use Rattle.dbformat.specs.declared.Verdict.{Verdict}
use Rattle.dbsource.specs.declared.error.RunError.{RunError}
use Rattle.dbwalk.specs.Reporting.{SinkState}
use Rattle.dbreport.specs.Runs.{IsAnswerOf}
use Rattle.dbmend.specs.declared.count.Count.{Count}
use Rattle.dbmend.specs.declared.counter.Counter.{Counter}

-- What a run answered is so of a file: the file has a survey, and by any survey of it as many faults; none exactly where it is sound. A
-- refused file is answered its refusal or a failed read, and no other a refusal.
pub record IsCountOf (file : List ℕ) (r : Result Count RunError) : Type 0 where
  pub survey : Survey file (survey file)
  pub faults : (V : List Reference) → Survey file V → IfOk r (λ c. c.faults ≡ counted (length (faults file V)))
  pub size : IfOk r (λ c. c.page_size ≡ (geometry file).page_size)
  pub answer : IsAnswerOf r file
  pub sound : IfOk r (λ c. c.faults ≡ 0 ↔ Sound file)

-- ---- the reporter

-- a fault was counted
abbrev pub Counts : Counter → ℕ → Counter → Type 0
Counts s n t = t.faults ≡ counted (s.faults + n)

-- it borrows nothing
abbrev pub borrows_none : Counter → SinkState
borrows_none s = record { lent = List.[]; failures = List.[]; is_shut = false }

-- What a run leaves of it, where it received nothing before: all faults were counted, and this is the verdict on them.
abbrev pub LeavesCount : List ℕ → List Reference → Result Verdict RunError → Counter → Counter → Type 0
LeavesCount file V r s t = s.faults ≡ 0 → IfOk r (λ v. (t.faults ≡ counted (length (faults file V))) × (v ≡ verdict (faults file V)))
