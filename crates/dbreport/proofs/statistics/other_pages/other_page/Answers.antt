use Rattle.dbreport.proofs.Common.{rules}
use Rattle.dbreport.proofs.statistics.other_pages.other_page.Goals as goal

pub returns-in_default : goal.returns-in_default
returns-in_default c = search rules
