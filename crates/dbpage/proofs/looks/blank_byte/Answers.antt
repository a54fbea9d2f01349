use Rattle.std.proofs.Common.{rules}
use Rattle.dbpage.proofs.looks.blank_byte.Goals as goal

pub returns-then-are_all : goal.returns-then-are_all
returns-then-are_all c = search rules
