use Rattle.std.proofs.Common.{Ok}
use Rattle.dbmend.specs.Deeds.{HasDone}
use Rattle.dbmend.proofs.lost.look_at_roots.Given as goal

abbrev pub invariant-loop-index : goal.invariant-loop-index
invariant-loop-index g l = HasDone g.S.Source {A = Unit {0}} (Ok tt) 0 0 (λ a deeds. Unit {0}) l.initial.source l.source
