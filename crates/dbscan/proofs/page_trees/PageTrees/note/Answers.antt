use Rattle.dbscan.proofs.Common.{rules}
use Rattle.dbscan.proofs.page_trees.PageTrees.note.Goals as goal

pub returns-then-page-len : goal.returns-then-page-len
returns-then-page-len g c = search rules
