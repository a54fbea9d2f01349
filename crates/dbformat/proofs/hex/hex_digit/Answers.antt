use Rattle.std.proofs.Common.{rules}
use Rattle.dbformat.proofs.hex.hex_digit.Goals as goal

pub returns-else-digit-lt10 : goal.returns-else-digit-lt10
returns-else-digit-lt10 c = search rules
