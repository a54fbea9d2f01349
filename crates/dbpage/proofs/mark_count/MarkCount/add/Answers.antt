use Rattle.std.proofs.Common.{rules}
use Rattle.dbpage.proofs.mark_count.MarkCount.add.Goals as goal

pub returns : goal.returns
returns g c = search rules
