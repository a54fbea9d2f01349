use Rattle.std.proofs.Common.{rules}
use Rattle.dbcli.proofs.finishing.hand_on.Goals as goal

pub returns-in-Err : goal.returns-in-Err
returns-in-Err g c = search rules
