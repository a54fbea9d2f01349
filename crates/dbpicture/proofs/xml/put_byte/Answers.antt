use Rattle.std.proofs.Common.{rules}
use Rattle.dbpicture.proofs.xml.put_byte.Goals as goal

pub returns-in-60 : goal.returns-in-60
returns-in-60 g c = search rules
