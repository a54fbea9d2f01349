use Rattle.std.proofs.Common.{rules}
use Rattle.dbpicture.proofs.bands.claim.Goals as goal

pub returns-else-height-eq0 : goal.returns-else-height-eq0
returns-else-height-eq0 c = search rules
