-- What a walk reports: rows of the statistics and faults, in the order of their places.
use Rattle.std.specs.Prelude.{List, ◌++◌, map, option_to_list}
use Rattle.dbsurvey.specs.Story.{Errand, goes}
use Rattle.dbsurvey.specs.Traverse.{part_of}
use Rattle.dbsurvey.specs.InOrder.{read_below}
use Rattle.dbformat.specs.File.{geometry}
use Rattle.dbformat.specs.Reference.{Way, Reference}
use Rattle.dbformat.specs.Survey.{rules_of}
use Rattle.dbformat.specs.Story.{Event, own_visit, story_of}
use Rattle.dbformat.specs.Rows.{StatRow}
use Rattle.dbformat.specs.Report.{event_faults}
use Rattle.dbformat.specs.Laws.{event_row}
use Rattle.dbformat.specs.declared.Fault.{Fault}
use Rattle.dbformat.specs.declared.FaultCode.{FaultCode}
use Rattle.dbtrace.specs.Causes.{cause_of}
use Rattle.dbtrace.specs.declared.Cause.{Cause}
use Rattle.dbtrace.specs.declared.Cause.TheVariants.{Itself}
use Rattle.std.specs.Prelude.{ℕ}

-- a row, or a fault with its cause
pub data Finding : Type 0 where
  reported_row : StatRow → Finding
  reported_fault : Fault → Cause → Finding

-- a fault that goes back to nothing else
abbrev pub reported_alone : Fault → Finding
reported_alone f = reported_fault f Itself

-- faults, with the cause that their codes have
abbrev pub reported_by : (FaultCode → Cause) → List Fault → List Finding
reported_by why fs = map (λ f. reported_fault f (why f.code)) fs

-- what is reported at an event, where the visits so far are those of U: its row, if it has one, and then its faults
abbrev pub reported_at : List ℕ → List Reference → Event → List Finding
reported_at file U event = map reported_row (option_to_list (event_row file event)) ++ reported_by (cause_of file U event) (event_faults file U event)

-- what is reported below some errands, after the visits of W
abbrev pub reported_below : List ℕ → List Reference → List (Errand Way Event) → List Finding
reported_below file W errands = read_below (rules_of file) (story_of file) (geometry file).pages own_visit (reported_at file) W errands

-- what is visited below them
abbrev pub visited_below : List ℕ → List Reference → List (Errand Way Event) → List Reference
visited_below file W errands = part_of (rules_of file) (geometry file).pages W (goes errands)
