use Rattle.dbinjuries.proofs.Belonging.{line_is}
use Rattle.dbinjuries.proofs.others.put_others.Goals as goal

pub returns-clause-injury : goal.returns-clause-injury
returns-clause-injury g c = λ e. line_is e
