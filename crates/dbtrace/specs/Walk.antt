-- A walk over the tree of a start, or the freelist, as a machine that goes along its events.
use Rattle.std.specs.Prelude.{ℕ, List, []}
use Rattle.dbsurvey.specs.Run as machines
use Rattle.dbsurvey.specs.Run.{Machine, Run}
use Rattle.dbsurvey.specs.Story.{Errand}
use Rattle.dbformat.specs.File.{geometry}
use Rattle.dbformat.specs.Reference.{Way, Reference}
use Rattle.dbformat.specs.Story.{Event, own_visit, story_of}
use Rattle.dbformat.specs.Survey.{rules_of}
use Rattle.dbtrace.specs.Item.{Item, items_at}
use Rattle.dbtrace.specs.Progress.{Progress, step, no_progress}

-- the machine of a file: it keeps its progress, and puts out items
abbrev pub machine : List ℕ → Machine Way Event Progress Item
machine file = record { visit = own_visit; step = step file; out = items_at file }

-- where a walk has come to: the visits so far, its progress, and the items so far
abbrev pub Walk : Type 0
Walk = Run Way Progress Item

-- at a start, after the visits of W
abbrev pub begin : List Reference → Walk
begin W = record { visits = W; state = no_progress; items = [] }

-- the same walk, with no items yet
abbrev pub bare : Walk → Walk
bare now = record now { items = [] }

-- one event on
abbrev pub advance : List ℕ → Walk → Event → Walk
advance file now event = machines.advance (machine file) now event

-- all that is below some errands on
abbrev pub run_below : List ℕ → Walk → List (Errand Way Event) → Walk
run_below file now errands = machines.run_below (rules_of file) (story_of file) (geometry file).pages (machine file) now errands
