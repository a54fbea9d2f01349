use Rattle.std.proofs.Common.{rules}
use Rattle.dbpage.proofs.packed.is_rising.Goals as goal

pub returns-in-Some-Some : goal.returns-in-Some-Some
returns-in-Some-Some c = search rules
