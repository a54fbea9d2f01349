use Rattle.std.proofs.Common.{rules}
use Rattle.dbwalk.proofs.schema_row.take_row.Goals as goal

pub returns-in_ok-taken-in-Ok-clause-reported : goal.returns-in_ok-taken-in-Ok-clause-reported
returns-in_ok-taken-in-Ok-clause-reported g c = search rules
