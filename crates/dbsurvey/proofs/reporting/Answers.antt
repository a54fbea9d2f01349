use Rattle.dbsurvey.proofs.Reportings.{reporting_unique, reported_before}
use Rattle.dbsurvey.proofs.ReportingLaws.{reporting_is, reporting_exact}
use Rattle.dbsurvey.proofs.reporting.Goals as goal

pub returns : goal.returns
returns g c = record {
  exact = λ rules story pages items V are is_story rising s. reporting_exact rules story pages are is_story items rising V s;
  only = λ rules story errands V L M a b. reporting_unique rules story errands V L M a b;
  before = λ rules story errands V A B e reports d. reported_before rules story errands V A B e reports d;
  found = λ rules story pages fuel W errands are is_story apart enough. reporting_is rules story pages are is_story fuel W errands enough apart;
}
