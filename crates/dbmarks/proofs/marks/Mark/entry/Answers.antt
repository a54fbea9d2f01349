use Rattle.std.proofs.Common.{rules}
use Rattle.dbmarks.proofs.marks.Mark.entry.Goals as goal

pub returns-in-LaterOverflow : goal.returns-in-LaterOverflow
returns-in-LaterOverflow c = search rules
