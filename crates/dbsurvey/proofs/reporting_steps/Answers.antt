use Rattle.dbsurvey.proofs.Reportings.{goes-of}
use Rattle.dbsurvey.proofs.ReportingLaws.{reporting_none_law, reporting_event_law, reporting_refused_law, reporting_visit_law, reporting_join_law}
use Rattle.dbsurvey.proofs.reporting_steps.Goals as goal

pub returns : goal.returns
returns g c = record {
  none = λ rules story pages W are. reporting_none_law rules story pages are W;
  event = λ rules story pages W e es are. reporting_event_law rules story pages are W e es;
  refused = λ rules story pages W c es are h. reporting_refused_law rules story pages are W c es h;
  visit = λ rules story pages W c es are is_story h. reporting_visit_law rules story pages are is_story W c es h;
  join = λ rules story pages W es fs are. reporting_join_law rules story pages are W es fs;
  goes = λ rules story t is_story. goes-of rules story is_story t;
}
