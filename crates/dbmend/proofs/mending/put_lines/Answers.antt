use Rattle.std.proofs.Common.{◌++◌, refl}
use Rattle.std.proofs.lemmas.Result.{err_from_is_err_and}
use Rattle.dbsource.proofs.Puts.{puts_stop, puts_then}
use Rattle.dbmend.proofs.mending.put_lines.Goals as goal

pub returns-in_err-put : goal.returns-in_err-put
returns-in_err-put g c =
    let q = err_from_is_err_and c.from_residual.result c.from_residual.ensures.1 in
    puts_stop c.args.change.now (c.args.page.now ++ c.args.still.now) refl q.1 c.in_err-put.ensures

pub returns-in_err-put-2 : goal.returns-in_err-put-2
returns-in_err-put-2 g c =
    let q = err_from_is_err_and c.from_residual-in_err-put-2.result c.from_residual-in_err-put-2.ensures.1 in
    puts_then c.from_residual-in_err-put-2.result c.args.change.now (c.args.page.now ++ c.args.still.now) refl c.in_ok-put.ensures
    (puts_stop c.args.page.now c.args.still.now refl q.1 c.in_err-put-2.ensures)

pub returns : goal.returns
returns g c =
    puts_then c.put-3.result c.args.change.now (c.args.page.now ++ c.args.still.now) refl c.in_ok-put.ensures
    (puts_then c.put-3.result c.args.page.now c.args.still.now refl c.in_ok-put-2.ensures c.put-3.ensures)
