use Rattle.std.proofs.Common.{rules}
use Rattle.dbformat.specs.Text.{shown_name}
use Rattle.dbbytes.proofs.name.name_text.Goals as goal

pub returns-then-not-is_well_formed : goal.returns-then-not-is_well_formed
unfolding shown_name
returns-then-not-is_well_formed g c = search rules
