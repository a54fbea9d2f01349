use Rattle.std.proofs.Common.{rules}
use Rattle.dbmarks.proofs.marks.Marks.new.Goals as goal

pub returns : goal.returns
returns c = search rules
