use Rattle.dbscan.proofs.Common.{rules}
use Rattle.dbscan.proofs.looks.is_lost.Goals as goal

pub returns-clause-mark : goal.returns-clause-mark
returns-clause-mark g c = search rules
