use Rattle.std.proofs.Common.{rules}
use Rattle.dbformat.specs.Head.{type_byte}
use Rattle.dbpage.proofs.view.type_byte.Goals as goal

pub returns : goal.returns
unfolding type_byte
returns c = search rules
