use Rattle.dbscan.proofs.Common.{rules}
use Rattle.dbscan.proofs.roots.RootList.root_page.Goals as goal

pub returns-in-Some : goal.returns-in-Some
returns-in-Some g c = search rules

pub returns-in-None : goal.returns-in-None
returns-in-None g c = search rules
