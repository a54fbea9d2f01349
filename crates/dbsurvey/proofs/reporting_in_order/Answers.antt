use Rattle.dbsurvey.proofs.Ordering.{visited_is, reporting_by_exact, reporting_by_is}
use Rattle.dbsurvey.proofs.Visits.{visits_are}
use Rattle.dbsurvey.proofs.Parting.{visits_of}
use Rattle.dbsurvey.proofs.reporting_in_order.Goals as goal

pub returns : goal.returns
returns g c = record {
  visited = λ rules starts V t s named. visited_is rules starts V s t named;
  exact = λ rules story pages items V are is_story rising s. reporting_by_exact rules story pages are is_story items rising V s;
  found = λ rules story pages items V are is_story rising s. reporting_by_is rules story pages are is_story items rising V s;
  visits = λ rules story visit errands V L shows quiet asc reports. visits_are rules story visit shows errands quiet V L asc reports;
  part = λ rules story pages visit W errands are is_story shows quiet. visits_of rules story pages are is_story visit shows W errands quiet;
}
