use Rattle.std.proofs.Common.{rules}
use Rattle.dbformat.proofs.FaultCode.index.Goals as goal

pub returns-clause-index : goal.returns-clause-index
returns-clause-index c = search rules

pub returns-clause-listed : goal.returns-clause-listed
returns-clause-listed c = search rules
