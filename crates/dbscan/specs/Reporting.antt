-- Faults as a reporter receives them.
use Rattle.std.specs.Prelude.{◌≡◌, List, map, flat_map, option_to_list, Option, Result, IfErr}
use Rattle.dbformat.specs.declared.Fault.{Fault}
use Rattle.dbsource.specs.Errors.{is_write_failed}
use Rattle.dbsource.specs.declared.error.RunError.{RunError}
use Rattle.dbsource.specs.declared.error.RunError.TheVariants.{WriteFailed}
use Rattle.dbtrace.specs.declared.Part.{Part}
use Rattle.dbwalk.specs.Reporting.{SinkAfter, SinkState, Reports}
use Rattle.dbscan.specs.Notices.{Notice, whole}

-- those that are faults, one after another, in this part of the report
abbrev pub items_of : Part → List (Option Fault) → List Notice
items_of part faults = map (whole part) (flat_map option_to_list faults)

-- Notices were received, or after an error a beginning of them. There is no other error than WriteFailed, and this is answered exactly where
-- the reporter failed.
pub record AreReceived {K A : Type 0} (receives : K → Notice → K → Type 0) (held : K → SinkState) (r : Result A RunError) (s : K) (notices : List Notice)
    (t : K) : Type 0 where
  pub reported : Reports receives r s notices t
  pub writes : SinkAfter is_write_failed r (held s) (held t)
  pub only : IfErr r (λ e. e ≡ WriteFailed)
