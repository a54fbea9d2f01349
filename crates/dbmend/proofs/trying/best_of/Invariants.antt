use Rattle.std.proofs.Common.{Ok}
use Rattle.std.specs.Prelude.{IfSome}
use Rattle.dbmend.specs.Deeds.{HasDone}
use Rattle.dbmend.specs.Trials.{IsTrial}
use Rattle.dbmend.proofs.trying.best_of.Given as goal

abbrev pub invariant-loop-edit : goal.invariant-loop-edit
invariant-loop-edit g l = HasDone g.S.Source {A = Unit {0}} (Ok tt) l.edit-index 0
    (λ u deeds. IfSome l.best (λ t. IsTrial l.before.items t.edit t.found.count l.faults deeds)) l.fn.source l.source
