-- A machine that goes along what is reported of a survey: by the triples visited up to each event it steps its state,
-- and puts out items.
use Rattle.std.specs.Prelude.{ℕ, List, [], ◌∷◌, ◌++◌, option_to_list, Option}
use Rattle.dbsurvey.specs.Survey.{Triple, Rules}
use Rattle.dbsurvey.specs.Story.{Reported, Story, Errand, reporting_of}

-- the visited page that an event is the own event of, the next state, and what is put out
pub record Machine (R E S X : Type 0) : Type 0 where
  pub visit : E → Option (Triple R)
  pub step : List (Triple R) → S → E → S
  pub out : List (Triple R) → S → E → List X

-- how far it has come: the visits so far, its state, and all that it has put out
pub record Run (R S X : Type 0) : Type 0 where
  pub visits : List (Triple R)
  pub state : S
  pub items : List X

-- the visits up to an event
abbrev pub up_to : {R E S X : Type 0} → Machine R E S X → Run R S X → E → List (Triple R)
up_to machine now event = now.visits ++ option_to_list (machine.visit event)

-- one event on
abbrev pub advance : {R E S X : Type 0} → Machine R E S X → Run R S X → E → Run R S X
advance machine now event = record {
  visits = up_to machine now event;
  state = machine.step (up_to machine now event) now.state event;
  items = now.items ++ machine.out (up_to machine now event) now.state event;
}

-- along a list of reported events
abbrev pub run : {R E S X : Type 0} → Machine R E S X → Run R S X → List (Reported E) → Run R S X
run machine now [] = now
run machine now (t ∷ trace) = run machine (advance machine now t.event) trace

-- along all that is reported below some errands
abbrev pub run_below : {R E S X : Type 0} → Rules R → Story R E → ℕ → Machine R E S X → Run R S X → List (Errand R E) → Run R S X
run_below rules story pages machine now errands = run machine now (reporting_of rules story pages now.visits errands)
