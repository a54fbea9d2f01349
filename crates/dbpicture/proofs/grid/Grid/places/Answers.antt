use Rattle.std.proofs.Common.{rules}
use Rattle.dbpicture.proofs.grid.Grid.places.Goals as goal

pub returns : goal.returns
returns c = search rules
