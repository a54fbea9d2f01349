use Rattle.std.proofs.Common.{codes}
use Rattle.clap.specs.Words.{new_app}
use Rattle.dbcli.proofs.arguments.map_command.Goals as goal

pub returns : goal.returns
returns c = c.with_file.ensures (new_app (codes "map")) c.described.ensures.app c.described.ensures.local
