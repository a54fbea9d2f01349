use Rattle.std.proofs.Common.{rules}
use Rattle.dbpicture.proofs.shown.Shown.of.Goals as goal

pub returns-clause-bytes : goal.returns-clause-bytes
returns-clause-bytes c = search rules

pub returns-clause-full : goal.returns-clause-full
returns-clause-full c = search rules
