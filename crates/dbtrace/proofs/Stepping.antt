-- A walk step by step.
use Rattle.std.proofs.Common.{ℕ, List}
use Rattle.dbsurvey.proofs.Advancing.{run_items, run_state, run_none, run_event, run_refused, run_visit, run_below_visits, run_join}
use Rattle.dbtrace.proofs.Common.{reporting_of, geometry, story_of, rules_of, machine}
use Rattle.dbformat.proofs.Theory.{are_rules, is_story, shows_visits}
use Rattle.dbtrace.specs.Steps.{HasSteps}

pub has_steps : (file : List ℕ) → HasSteps file
unfolding story_of
has_steps file = record {
  none = λ now. run_none (rules_of file) (story_of file) (geometry file).pages (are_rules file) (machine file) now;
  event = λ now t es q. run_event (rules_of file) (story_of file) (geometry file).pages (are_rules file) (machine file) now t es q;
  refused = λ now c es f. run_refused (rules_of file) (story_of file) (geometry file).pages (are_rules file) (machine file) (shows_visits file) now c es f;
  visit = λ now c es f. run_visit (rules_of file) (story_of file) (geometry file).pages (are_rules file) (machine file) (is_story file) (shows_visits file) now
      c es f;
  join = λ now es fs q. run_join (rules_of file) (story_of file) (geometry file).pages (are_rules file) (machine file) (is_story file) (shows_visits file) now
      es fs q;
  visits = λ now es q. run_below_visits (rules_of file) (story_of file) (geometry file).pages (are_rules file) (machine file) (is_story file)
      (shows_visits file) now es q;
  items = λ now es. run_items (machine file) now (reporting_of (rules_of file) (story_of file) (geometry file).pages now.visits es);
  state = λ now es. run_state (machine file) now (reporting_of (rules_of file) (story_of file) (geometry file).pages now.visits es);
}
