use Rattle.std.proofs.Common.{rules}
use Rattle.dbpage.proofs.cell.Cell.overflow_size.Goals as goal

pub returns : goal.returns
returns c = search rules
