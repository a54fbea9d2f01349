-- The law: what is reported of a file's pages and references, causes included, rests on what was visited before it.
use Rattle.std.specs.Prelude.{◌≡◌, ℕ, List, [], ◌∷◌, ◌++◌, flat_map, option_to_list}
use Rattle.dbsurvey.specs.Address.{IsIn}
use Rattle.dbsurvey.specs.InOrder.{visits_in}
use Rattle.dbsurvey.specs.Story.{Reported}
use Rattle.dbformat.specs.Reference.{Reference}
use Rattle.dbformat.specs.Report.{event_faults}
use Rattle.dbformat.specs.Story.{Event, own_visit, start_errands, reporting}
use Rattle.dbformat.specs.Survey.{Survey}
use Rattle.dbformat.specs.declared.Fault.{Fault}
use Rattle.dbtrace.specs.Causes.{cause_of}
use Rattle.dbtrace.specs.Finding.{reported_at, reported_below}

-- the visits up to an event, after what is reported before it
abbrev pub visits_up_to : List (Reported Event) → Reported Event → List Reference
visits_up_to before t = visits_in own_visit before ++ option_to_list (own_visit t.event)

-- Each fault of an event has the same cause by all visits of the survey and by those up to the event.
abbrev pub CausesLookBack : List ℕ → Type 0
CausesLookBack file = (V : List Reference) → Survey file V
    → (before after : List (Reported Event)) (t : Reported Event) → before ++ t ∷ after ≡ reporting file V
    → (f : Fault) → IsIn f (event_faults file V t.event) → cause_of file V t.event f.code ≡ cause_of file (visits_up_to before t) t.event f.code

-- So the rows and the faults with their causes, defined by the whole survey, are those of all reported events, each by
-- the visits up to it.
abbrev pub FindingsLookBack : List ℕ → Type 0
FindingsLookBack file = (V : List Reference) → Survey file V
    → flat_map (λ t. reported_at file V t.event) (reporting file V) ≡ reported_below file [] (start_errands file V)
