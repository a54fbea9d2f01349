use Rattle.std.proofs.Common.{arith}
use Rattle.std.proofs.lemmas.Grind.{common_steps}
use Rattle.dbformat.specs.Cell.{cell_pointer}
use Rattle.dbpage.proofs.view.PageView.pointer.Goals as goal

pub returns : goal.returns
unfolding cell_pointer
returns c = grind (arith, common_steps)
