use Rattle.std.proofs.Common.{rules}
use Rattle.dbpage.proofs.freeblocks.Freeblocks.bad.Goals as goal

pub returns-else-rest-eq0 : goal.returns-else-rest-eq0
returns-else-rest-eq0 c = search rules
