use Rattle.std.proofs.Common.{rules}
use Rattle.dbformat.proofs.FaultCode.all.Goals as goal

pub returns : goal.returns
returns c = search rules
