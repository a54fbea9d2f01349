use Rattle.std.proofs.Common.{Ok}
use Rattle.dbmend.specs.Deeds.{HasDone}
use Rattle.dbmend.proofs.choosing.keys_around.Given as goal

abbrev pub invariant-loop : goal.invariant-loop
invariant-loop g l = HasDone g.S.Source {A = Unit {0}} (Ok tt) 0 0 (λ a deeds. Unit {0}) l.initial.source l.source
