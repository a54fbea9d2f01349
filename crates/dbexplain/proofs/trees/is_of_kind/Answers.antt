use Rattle.std.proofs.Common.{rules}
use Rattle.dbexplain.proofs.trees.is_of_kind.Goals as goal

pub returns-after-matches : goal.returns-after-matches
returns-after-matches g c = search rules
