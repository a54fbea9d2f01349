use Rattle.std.proofs.Common.{rules}
use Rattle.dbpicture.proofs.listed.cause_page.Goals as goal

pub returns-in-Key : goal.returns-in-Key
returns-in-Key c = search rules
