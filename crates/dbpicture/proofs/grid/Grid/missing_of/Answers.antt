use Rattle.std.proofs.Common.{rules}
use Rattle.dbpicture.proofs.grid.Grid.missing_of.Goals as goal

pub returns-then-place-self : goal.returns-then-place-self
returns-then-place-self c = search rules
