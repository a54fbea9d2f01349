use Rattle.dbscan.proofs.Common.{arith, elements}
use Rattle.dbscan.proofs.start_table.StartTable.get.Goals as goal

pub returns-then-start-eq-FREELIST_START : goal.returns-then-start-eq-FREELIST_START
returns-then-start-eq-FREELIST_START g c = grind (arith, elements)

pub returns-else-start-eq-FREELIST_START : goal.returns-else-start-eq-FREELIST_START
returns-else-start-eq-FREELIST_START g c = grind (arith, elements)
