use Rattle.dbscan.proofs.Common.{arith, elements}
use Rattle.dbscan.proofs.page_trees.PageTrees.by_mark.Goals as goal

pub returns-in_default : goal.returns-in_default
returns-in_default g c = grind (arith, elements)
