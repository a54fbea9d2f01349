use Rattle.std.proofs.Common.{rules}
use Rattle.dbinjuries.proofs.listing.Listing.put_new.Goals as goal

pub returns-else-self-len : goal.returns-else-self-len
returns-else-self-len g c = search rules
