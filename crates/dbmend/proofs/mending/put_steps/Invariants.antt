use Rattle.std.proofs.Common.{Ok, []}
use Rattle.dbmend.specs.Stepped.{HasPut, IsAfter}
use Rattle.dbmend.proofs.mending.put_steps.Given as goal

abbrev pub invariant-loop-round : goal.invariant-loop-round
invariant-loop-round g l = HasPut g.S.Source g.O.Out {A = Unit {0}} [] l.fn.first.faults 255 l.most l.round (Ok tt)
    (λ fixes. IsAfter [] l.fn.first.faults fixes l.edits.items l.known.faults) (l.fn.source, l.fn.out) (l.source, l.out)
