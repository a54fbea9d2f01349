use Rattle.std.proofs.Common.{rules}
use Rattle.dbformat.proofs.Verdict.of.Goals as goal

pub returns-in_default-clause-count : goal.returns-in_default-clause-count
returns-in_default-clause-count c = search rules

pub returns-in_default-clause-faults : goal.returns-in_default-clause-faults
returns-in_default-clause-faults c = search rules
