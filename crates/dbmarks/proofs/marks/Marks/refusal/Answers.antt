use Rattle.std.proofs.Common.{rules}
use Rattle.dbmarks.proofs.marks.Marks.refusal.Goals as goal

pub returns-in_default-2 : goal.returns-in_default-2
returns-in_default-2 g c = search rules
