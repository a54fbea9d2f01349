use Rattle.dbsurvey.specs.Story.{reporting_of}
use Rattle.dbsurvey.proofs.Advancing as laws
use Rattle.dbsurvey.proofs.runs.Goals as goal

pub returns : goal.returns
returns g c = record {
  none = λ rules story pages machine now are. laws.run_none rules story pages are machine now;
  event = λ rules story pages machine now t es are q. laws.run_event rules story pages are machine now t es q;
  refused = λ rules story pages machine now c es are shows f. laws.run_refused rules story pages are machine shows now c es f;
  visit = λ rules story pages machine now c es are is_story shows f. laws.run_visit rules story pages are machine is_story shows now c es f;
  join = λ rules story pages machine now es fs are is_story shows q. laws.run_join rules story pages are machine is_story shows now es fs q;
  visits = λ rules story pages machine now es are is_story shows q. laws.run_below_visits rules story pages are machine is_story shows now es q;
  items = λ rules story pages machine now es. laws.run_items machine now (reporting_of rules story pages now.visits es);
  state = λ rules story pages machine now es. laws.run_state machine now (reporting_of rules story pages now.visits es);
  reads = λ f each machine now L h. laws.run_reads machine f each now L h;
}
