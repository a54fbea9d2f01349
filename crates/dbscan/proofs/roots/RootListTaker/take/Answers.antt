use Rattle.dbscan.proofs.Common.{arith, common_steps}
use Rattle.dbscan.proofs.roots.RootListTaker.take.Goals as goal

pub returns-in-Ok-clause-row : goal.returns-in-Ok-clause-row
returns-in-Ok-clause-row g c = grind (arith, common_steps)
