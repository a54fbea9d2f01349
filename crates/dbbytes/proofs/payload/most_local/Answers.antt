use Rattle.std.proofs.Common.{rules}
use Rattle.dbbytes.proofs.payload.most_local.Goals as goal

pub returns-in-TableLeaf-clause-value : goal.returns-in-TableLeaf-clause-value
returns-in-TableLeaf-clause-value c = search rules
