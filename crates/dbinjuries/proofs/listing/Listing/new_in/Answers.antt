use Rattle.std.proofs.Common.{rules}
use Rattle.dbinjuries.proofs.listing.Listing.new_in.Goals as goal

pub returns-clause-none : goal.returns-clause-none
returns-clause-none g c = search rules
