use Rattle.std.proofs.Common.{rules}
use Rattle.dbinjuries.proofs.listing.Listing.listed.Goals as goal

pub returns : goal.returns
returns g c = search rules
