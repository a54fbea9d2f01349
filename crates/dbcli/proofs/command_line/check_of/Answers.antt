use Rattle.std.proofs.Common.{rules}
use Rattle.dbcli.proofs.command_line.check_of.Goals as goal

pub returns-in-Some-clause-value : goal.returns-in-Some-clause-value
returns-in-Some-clause-value c = search rules
