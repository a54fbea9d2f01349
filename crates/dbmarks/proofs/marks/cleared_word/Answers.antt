use Rattle.std.proofs.Common.{rules}
use Rattle.dbmarks.proofs.marks.cleared_word.Goals as goal

pub returns-in-Fixed : goal.returns-in-Fixed
returns-in-Fixed c = search rules
