use Rattle.dbmend.proofs.Searches.{writes_ok}
use Rattle.dbmend.proofs.mending.mend.Goals as goal

pub returns-clause-ok : goal.returns-clause-ok
returns-clause-ok g c = writes_ok g.S.Source g.O.Out c.args.limit _ _ _ c.search.ensures
