use Rattle.std.proofs.Common.{Ok, Err, arith, refl}
use Rattle.std.specs.Prelude.{IfSome}
use Rattle.std.proofs.lemmas.Result.{err_from_is_err_and}
use Rattle.dbmend.specs.Trials.{IsTrial}
use Rattle.dbmend.specs.declared.counting.Findings.{Findings}
use Rattle.dbmend.specs.declared.trying.Trial.{Trial}
use Rattle.dbmend.proofs.Done.{done_both, done_error, done_none, done_weaker, done_within}
use Rattle.dbmend.proofs.Trials.{better_shown}
use Rattle.dbmend.proofs.trying.best_of.Goals as goal

pub loop-edit-init : goal.loop-edit-init
loop-edit-init g c = done_none g.S.Source tt 0 c.args.source.now c.args.source.now refl tt

pub loop-edit-preserved : goal.loop-edit-preserved
loop-edit-preserved g c =
    done_weaker g.S.Source c.in_ok-found.found tt
    (done_both g.S.Source tt (Ok c.in_ok-found.found)
    {R = λ o deeds. IfSome c.better-best.result (λ t. IsTrial c.args.before.now.items t.edit t.found.count c.args.faults deeds)}
    c.loop-edit.invariant c.in_ok-found.ensures
    (λ x y p q. better_shown (λ (t : Trial g.row.A.Denot). t.edit) (λ (t : Trial g.row.A.Denot). t.found) (λ (f : Findings g.row.A.Denot). f.count)
    c.args.before.now.items _ c.args.faults x y c.loop-edit.best c.better-best.result c.in_ok-found.found c.better-best.ensures p q))
    (λ x p. p)

pub returns-in_err-found : goal.returns-in_err-found
returns-in_err-found g c =
    let q = err_from_is_err_and c.from_residual.result c.from_residual.ensures.1 in
    let e = c.in_err-found.field-0.0 in
    rw q.1 (rw q.2 (done_error g.S.Source e (done_within g.S.Source (Err e)
    (done_both g.S.Source tt (Err e) {R = λ o deeds. Unit {0}} c.loop-edit.invariant c.in_err-found.ensures (λ x y p q. tt))
    (let l = c.loop-edit-test.true in omega (arith, l)))))
