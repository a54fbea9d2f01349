use Rattle.std.proofs.Common.{Ok, Err, refl}
use Rattle.std.proofs.lemmas.Result.{err_from_is_err_and}
use Rattle.dbmend.proofs.Done.{done_error, done_refused, done_then, done_weaker}
use Rattle.dbmend.proofs.choosing.candidates.Goals as goal

pub loop-want-init : goal.loop-want-init
loop-want-init g c = done_then g.S.Source tt (Ok tt) c.in_ok-look_at_lost.ensures c.in_ok-look_at_roots.ensures (λ x y p q. tt)

pub loop-want-preserved : goal.loop-want-preserved
loop-want-preserved g c = done_then g.S.Source c.in_ok-outer.outer (Ok tt) {P = λ a deeds. Unit {0}}
    (done_then g.S.Source tt (Ok c.in_ok-outer.outer) {R = λ a deeds. Unit {0}} c.loop-want.invariant c.in_ok-outer.ensures (λ x y p q. tt))
    c.in_ok-read_page.ensures (λ x y p q. tt)

pub returns-in_err-read_page : goal.returns-in_err-read_page
returns-in_err-read_page g c =
    let q = err_from_is_err_and c.from_residual-in_err-read_page.result c.from_residual-in_err-read_page.ensures.1 in
    rw q.1 (rw q.2 (done_error g.S.Source c.in_err-read_page.field-0.0
    (done_then g.S.Source c.in_ok-outer.outer (Err c.in_err-read_page.field-0.0) {P = λ a deeds. Unit {0}} {R = λ a deeds. Unit {0}}
    (done_then g.S.Source tt (Ok c.in_ok-outer.outer) {R = λ a deeds. Unit {0}} c.loop-want.invariant c.in_ok-outer.ensures (λ x y p q. tt))
    c.in_err-read_page.ensures (λ x y p q. tt))))

pub returns-in_err-outer : goal.returns-in_err-outer
returns-in_err-outer g c =
    let q = err_from_is_err_and c.from_residual-in_err-outer.result c.from_residual-in_err-outer.ensures.1 in
    rw q.1 (rw q.2 (done_error g.S.Source c.in_err-outer.field-0.0
    (done_then g.S.Source tt (Err c.in_err-outer.field-0.0) {R = λ a deeds. Unit {0}} c.loop-want.invariant c.in_err-outer.ensures (λ x y p q. tt))))

pub returns-in_err-look_at_lost : goal.returns-in_err-look_at_lost
returns-in_err-look_at_lost g c =
    let q = err_from_is_err_and c.from_residual-in_err-look_at_lost.result c.from_residual-in_err-look_at_lost.ensures.1 in
    rw q.1 (rw q.2 (done_error g.S.Source c.in_err-look_at_lost.field-0.0 c.in_err-look_at_lost.ensures))

pub returns-in_err-look_at_roots : goal.returns-in_err-look_at_roots
returns-in_err-look_at_roots g c =
    let q = err_from_is_err_and c.from_residual-in_err-look_at_roots.result c.from_residual-in_err-look_at_roots.ensures.1 in
    rw q.1 (rw q.2 (done_error g.S.Source c.in_err-look_at_roots.field-0.0
    (done_then g.S.Source tt (Err c.in_err-look_at_roots.field-0.0) {R = λ a deeds. Unit {0}}
    c.in_ok-look_at_lost.ensures c.in_err-look_at_roots.ensures (λ x y p q. tt))))

pub returns-in_err-add_roots : goal.returns-in_err-add_roots
returns-in_err-add_roots g c =
    let q = err_from_is_err_and c.from_residual-in_err-add_roots.result c.from_residual-in_err-add_roots.ensures.1 in
    rw q.1 (rw q.2 (done_error g.S.Source c.in_err-add_roots.field-0.0
    (done_then g.S.Source tt (Err c.in_err-add_roots.field-0.0) {R = λ a deeds. Unit {0}} c.loop-want.invariant c.in_err-add_roots.ensures (λ x y p q. tt))))

pub returns : goal.returns
returns g c = done_weaker g.S.Source tt _
    (done_then g.S.Source tt (Ok tt) {R = λ a deeds. Unit {0}} c.loop-want.invariant c.in_ok-add_roots.ensures (λ x y p q. tt)) (λ x p. tt)

pub returns-in_err-paper : goal.returns-in_err-paper
returns-in_err-paper g c =
    let q = err_from_is_err_and c.from_residual.result c.from_residual.ensures.1 in
    rw q.1 (rw q.2 (done_refused g.S.Source 0 c.args.source.now c.args.source.now refl))

pub returns-in_err-lost : goal.returns-in_err-lost
returns-in_err-lost g c =
    let q = err_from_is_err_and c.from_residual-in_err-lost.result c.from_residual-in_err-lost.ensures.1 in
    rw q.1 (rw q.2 (done_refused g.S.Source 0 c.args.source.now c.args.source.now refl))
