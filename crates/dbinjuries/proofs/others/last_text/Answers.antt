use Rattle.std.proofs.Common.{rules}
use Rattle.dbinjuries.proofs.others.last_text.Goals as goal

pub returns : goal.returns
returns c = search rules
