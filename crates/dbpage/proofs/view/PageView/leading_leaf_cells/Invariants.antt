use Rattle.dbpage.specs.Beginning.{HasRun}
use Rattle.dbpage.proofs.view.PageView.leading_leaf_cells.Given as goal

abbrev pub invariant-loop-i : goal.invariant-loop-i
invariant-loop-i l = HasRun l.self l.i l.begun
