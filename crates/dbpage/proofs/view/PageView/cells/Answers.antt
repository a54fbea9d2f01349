use Rattle.std.proofs.Common.{rules}
use Rattle.dbpage.proofs.view.PageView.cells.Goals as goal

pub returns-clause-number : goal.returns-clause-number
returns-clause-number c = search rules
