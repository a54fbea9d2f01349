use Rattle.std.proofs.Common.{rules}
use Rattle.dbformat.specs.Head.{content_start}
use Rattle.dbpage.proofs.view.content_start.Goals as goal

pub returns-in-0 : goal.returns-in-0
unfolding content_start
returns-in-0 c = search rules
