use Rattle.std.proofs.Common.{sym, subst}
use Rattle.dblog.specs.Entries.{Gathers}
use Rattle.dblog.proofs.gathered.Gathered.make_room.Goals as goal

pub returns-then-len-self-clause-gathers : goal.returns-then-len-self-clause-gathers
returns-then-len-self-clause-gathers g c = λ pages h.
    c.drop_replaced.ensures.kept pages (subst (λ s. Gathers s.entries pages s.committed) (sym c.self.view_is) h)
