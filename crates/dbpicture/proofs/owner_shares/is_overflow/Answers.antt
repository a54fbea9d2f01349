use Rattle.std.proofs.Common.{rules}
use Rattle.dbpicture.proofs.owner_shares.is_overflow.Goals as goal

pub returns-in_default : goal.returns-in_default
returns-in_default c = search rules
