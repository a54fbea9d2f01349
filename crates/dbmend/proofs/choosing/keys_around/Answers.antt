use Rattle.std.proofs.lemmas.Result.{err_from_is_err_and}
use Rattle.std.proofs.Common.{Ok, Err}
use Rattle.dbmend.proofs.Done.{done_error, done_then}
use Rattle.dbmend.proofs.choosing.keys_around.Goals as goal

pub loop-preserved : goal.loop-preserved
loop-preserved g c = done_then g.S.Source tt (Ok tt) c.loop.invariant c.in_ok-read_page-in-Child.ensures (λ x y p q. tt)

pub returns-in_err-read_page-in-Child : goal.returns-in_err-read_page-in-Child
returns-in_err-read_page-in-Child g c =
    let q = err_from_is_err_and c.from_residual.result c.from_residual.ensures.1 in
    rw q.1 (rw q.2 (done_error g.S.Source c.in_err-read_page-in-Child.field-0.0
    (done_then g.S.Source tt (Err c.in_err-read_page-in-Child.field-0.0) {R = λ a deeds. Unit {0}} c.loop.invariant
    c.in_err-read_page-in-Child.ensures (λ x y p q. tt))))
