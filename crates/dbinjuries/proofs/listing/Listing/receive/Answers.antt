use Rattle.std.proofs.Common.{rules}
use Rattle.dbinjuries.proofs.listing.Listing.receive.Goals as goal

pub returns-then-not-is_lost : goal.returns-then-not-is_lost
returns-then-not-is_lost g c = search rules
