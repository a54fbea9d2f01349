use Rattle.std.proofs.Common.{Ok}
use Rattle.dbmend.specs.Deeds.{HasDone}
use Rattle.dbmend.proofs.choosing.candidates.Given as goal

abbrev pub invariant-loop-want : goal.invariant-loop-want
invariant-loop-want g l = HasDone g.S.Source {A = Unit {0}} (Ok tt) 0 0 (λ a deeds. Unit {0}) l.fn.source l.source
