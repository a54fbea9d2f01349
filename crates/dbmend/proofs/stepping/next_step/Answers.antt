use Rattle.std.proofs.Common.{◌≤◌, None, Ok, Err, Option, arith, length, subst}
use Rattle.std.specs.Prelude.{IfSome}
use Rattle.std.proofs.lemmas.Result.{err_from_is_err_and}
use Rattle.dbmend.specs.Trials.{IsStep, IsTrial}
use Rattle.dbmend.specs.declared.trying.Trial.{Trial}
use Rattle.dbmend.proofs.Done.{done_both, done_counted, done_error, done_weaker, done_within}
use Rattle.dbmend.proofs.Trials.{step_of, trial_right}
use Rattle.dbmend.proofs.stepping.next_step.Goals as goal

pub returns-in_err-tries : goal.returns-in_err-tries
returns-in_err-tries g c =
    let q = err_from_is_err_and c.from_residual.result c.from_residual.ensures.1 in
    let e = c.in_err-tries.field-0.0 in
    rw q.1 (rw q.2 (done_error g.S.Source e (done_within g.S.Source (Err e) c.in_err-tries.ensures (omega arith))))

pub returns-in_err-best : goal.returns-in_err-best
returns-in_err-best g c =
    let q = err_from_is_err_and c.from_residual-in_err-best.result c.from_residual-in_err-best.ensures.1 in
    let e = c.in_err-best.field-0.0 in
    let l : length c.first_of-first.result.now ≤ c.args.most = c.first_of-first.ensures in
    rw q.1 (rw q.2 (done_error g.S.Source e (done_within g.S.Source (Err e)
    (done_both g.S.Source c.in_ok-tries.tries (Err e) {R = λ o deeds. Unit {0}}
    c.in_ok-tries.ensures c.in_err-best.ensures (λ x y p q. tt)) (omega (arith, l)))))

pub returns-in_default : goal.returns-in_default
returns-in_default g c =
    let l : length c.first_of-first.result.now ≤ c.args.most = c.first_of-first.ensures in
    done_weaker g.S.Source c.in_ok-best.best None (done_within g.S.Source (Ok c.in_ok-best.best)
    (done_both g.S.Source c.in_ok-tries.tries (Ok c.in_ok-best.best) {R = λ o deeds. Unit {0}} c.in_ok-tries.ensures c.in_ok-best.ensures (λ x y p q. tt))
    (omega (arith, l))) (λ x p. tt)

pub returns-in_err-was : goal.returns-in_err-was
returns-in_err-was g c =
    let q = err_from_is_err_and c.from_residual-in_err-was.result c.from_residual-in_err-was.ensures.1 in
    let e = c.in_err-was.field-0.0 in
    let l : length c.first_of-first.result.now ≤ c.args.most = c.first_of-first.ensures in
    rw q.1 (rw q.2 (done_error g.S.Source e (done_within g.S.Source (Err e)
    (done_both g.S.Source c.in_ok-best.best (Err e) {R = λ w deeds. Unit {0}}
    (done_both g.S.Source c.in_ok-tries.tries (Ok c.in_ok-best.best) {R = λ o deeds. Unit {0}} c.in_ok-tries.ensures c.in_ok-best.ensures (λ x y p q. tt))
    c.in_err-was.ensures (λ x y p q. tt)) (omega (arith, l)))))

pub returns : goal.returns
returns g c =
    let l : length c.first_of-first.result.now ≤ c.args.most = c.first_of-first.ensures in
    let before = c.args.before.now.items in
    let faults = c.args.known.faults in
    let best = c.in-Some.best in
    let here = done_both g.S.Source c.in_ok-tries.tries (Ok c.in_ok-best.best) {R = λ o deeds. IsTrial before best.edit best.found.count faults deeds}
    c.in_ok-tries.ensures c.in_ok-best.ensures
    (λ x y p q. trial_right x y
    (subst (λ (o : Option (Trial g.row.A.Denot)). IfSome o (λ t. IsTrial before t.edit t.found.count faults y)) c.in-Some.is q)) in
    let all = done_both g.S.Source c.in_ok-best.best (Ok c.in_ok-was.was') {R = λ w deeds. IsStep before faults best.edit w.bytes best.found.count deeds}
    here c.in_ok-was.ensures (λ x y p q. step_of x y p q) in
    done_weaker g.S.Source c.in_ok-was.was' _ (done_within g.S.Source (Ok c.in_ok-was.was') (done_counted g.S.Source c.in_ok-was.was' all) (omega (arith, l)))
    (λ x p. (p.0, (let k = p.1 in omega (arith, k)), l))

pub best_of-requires : goal.best_of-requires
best_of-requires g c = (c.requires.fits.trial, c.requires.fits.desk)

pub tries_of-requires : goal.tries_of-requires
tries_of-requires g c = (c.requires.fits.known, c.requires.fits)
