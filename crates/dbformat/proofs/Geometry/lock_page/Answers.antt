use Rattle.std.proofs.Common.{rules}
use Rattle.dbformat.proofs.Geometry.lock_page.Goals as goal

pub returns : goal.returns
returns c = search rules
