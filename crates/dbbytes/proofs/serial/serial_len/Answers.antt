use Rattle.std.proofs.Common.{rules}
use Rattle.dbformat.specs.Record.{serial_len}
use Rattle.dbbytes.proofs.serial.serial_len.Goals as goal

pub returns-in_default : goal.returns-in_default
unfolding serial_len
returns-in_default c = search rules
