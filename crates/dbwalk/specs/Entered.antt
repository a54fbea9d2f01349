-- What entering a candidate leaves: its page is marked, or the reason against it is reported.
use Rattle.std.specs.Prelude.{Bool, ◌≡◌, ℕ, true, false, List, [], ◌∷◌, ◌++◌, map, option_to_list, Result, Ok, Err}
use Rattle.dbmarks.specs.declared.marks.Mark.{Mark}
use Rattle.dbsurvey.specs.Moves.{Moves}
use Rattle.dbsurvey.specs.Traverse.{is_followed}
use Rattle.dbformat.specs.Reference.{Reference, from_of, item_of}
use Rattle.dbformat.specs.Survey.{rules_of, is_too_deep}
use Rattle.dbsurvey.specs.Story.{Go}
use Rattle.dbsurvey.specs.InOrder.{IsPast}
use Rattle.dbformat.specs.Story.{Event, at_refused}
use Rattle.dbsource.specs.declared.error.RunError.{RunError}
use Rattle.dbwalk.specs.declared.entering.Step.{Step}
use Rattle.dbmarks.specs.Marking.{visit_mark, AreMarksOf}
use Rattle.dbformat.specs.Laws.{event_row}
use Rattle.dbformat.specs.Report.{event_faults}
use Rattle.dbtrace.specs.Finding.{Finding, reported_row, reported_by}
use Rattle.dbtrace.specs.declared.Cause.{Cause}

-- all visits of W are before a candidate
abbrev pub IsNext : List Reference → Reference → Type 0
IsNext W c = IsPast {E = Event} W (Go c ∷ [])

-- a reference as a program has it
pub record IsStepOf (step : Step) (c : Reference) : Type 0 where
  pub page : c.page ≡ step.page
  pub mark : visit_mark c ≡ step.mark
  pub from : from_of c ≡ step.from
  pub item : item_of c ≡ step.item
  pub deep : is_too_deep c ≡ step.is_too_deep

-- the report of a reference that is refused, whose fault has this cause
abbrev pub refused_reported : List ℕ → List Reference → Reference → Cause → List Finding
refused_reported file W c why = map reported_row (option_to_list (event_row file (at_refused c)))
    ++ reported_by (λ code. why) (event_faults file W (at_refused c))

-- it was followed, and marked; or refused, which was reported with this cause; or the sink was found shut
abbrev pub Enters : {S : Type 0} → (S → Finding → S → Type 0) → List ℕ → List Reference → Reference → Cause → Result Bool RunError → List Mark → S → S → Type 0
Enters takes file W c why (Ok true) marks s t = (is_followed (rules_of file) W c ≡ true) × AreMarksOf file (W ++ (c ∷ [])) marks × (s ≡ t)
Enters takes file W c why (Ok false) marks s t = (is_followed (rules_of file) W c ≡ false) × AreMarksOf file W marks
    × Moves takes s (refused_reported file W c why) t
Enters takes file W c why (Err e) marks s t = AreMarksOf file W marks × (s ≡ t)
