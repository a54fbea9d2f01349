use Rattle.std.proofs.Common.{rules}
use Rattle.dbformat.specs.Header.{first_trunk}
use Rattle.dbsource.proofs.header.Header.first_trunk.Goals as goal

pub returns : goal.returns
unfolding first_trunk
returns c = search rules
