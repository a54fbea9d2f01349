-- The reporter of `map`: what a fault makes of it, and what it answers at the end.
use Rattle.std.specs.Prelude.{◌≡◌, ℕ, false, List, Result, IfOk}
use Rattle.dbformat.specs.File.{geometry}
use Rattle.dbformat.specs.Reference.{Reference}
use Rattle.dbformat.specs.Report.{faults, verdict}
use Rattle.dbformat.specs.declared.Verdict.{Verdict}
use Rattle.dbsource.specs.Outs.{OutState}
use Rattle.dbsource.specs.declared.error.RunError.{RunError}
use Rattle.dbwalk.specs.Reporting.{SinkState, one_out}
use Rattle.dbscan.specs.Notices.{Notice}
use Rattle.dbinjuries.specs.Traced.{ReceivesTraced}
use Rattle.dbpicture.specs.Keeping.{Adds, ReceivesNone, Notes}
use Rattle.dbpicture.specs.Pictures.{map_picture}
use Rattle.dbmap.specs.Maps.{PutsMap}
use Rattle.dbmap.specs.declared.map_reporter.MapReporter.{MapReporter}
use Rattle.dbpicture.specs.declared.kept.KeptFaults.{KeptFaults}

module _ {A O : Type 0} where
  -- what is kept changes so, and nothing is put
  pub record Changes (Takes : KeptFaults A → KeptFaults A → Type 0) (s t : MapReporter A O) : Type 0 where
    pub kept : Takes s.kept.now t.kept.now
    pub out : t.out ≡ s.out
    pub name : t.name ≡ s.name

  -- a notice was taken: a fault was added, or a row noted, and nothing else changes it
  abbrev pub Receives : MapReporter A O → Notice → MapReporter A O → Type 0
  Receives = ReceivesTraced (λ x. Changes (Adds x)) (λ r. Changes (Notes r))

-- it borrows its Out, whose failures are counted; nothing is put before its end
abbrev pub map_held : {A O : Type 0} → (O → OutState) → MapReporter A O → SinkState
map_held held s = one_out s.out.ghost_name (held s.out.now).failures false

-- What a run leaves that had received nothing before: the verdict, and a picture.
abbrev pub LeavesMap : {A O : Type 0} → (O → OutState) → List ℕ → List Reference → Result Verdict RunError → MapReporter A O → MapReporter A O → Type 0
LeavesMap held file V r s t =
    ReceivesNone (geometry file) s.kept.now
    → IfOk r (λ v. v ≡ verdict (faults file V)) × PutsMap r (held s.out.now).bytes (held t.out.now).bytes (map_picture file V s.name.now)
