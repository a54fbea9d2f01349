use Rattle.std.proofs.lemmas.Result.{err_from_is_err_and}
use Rattle.dbsource.proofs.Puts.{puts_then, puts_stop}
use Rattle.dbpicture.proofs.Waiting.{takes_failed, takes_put}
use Rattle.dbpicture.proofs.pieces.add.Goals as goal

pub returns-in_err-put_waiting-in-Err : goal.returns-in_err-put_waiting-in-Err
returns-in_err-put_waiting-in-Err g c =
    let p = err_from_is_err_and c.from_residual.result c.from_residual.ensures.1 in
    let put = rw c.in-Err.ensures.err at c.put_waiting.ensures.puts in
    takes_failed p.1 (puts_stop c.args.waiting.now.items c.args.bytes.now c.in_err-put_waiting-in-Err.was p.1 put)

pub returns-in_ok-put_waiting-in-Err : goal.returns-in_ok-put_waiting-in-Err
returns-in_ok-put_waiting-in-Err g c =
    let put = rw c.in-Err.ensures.err at c.put_waiting.ensures.puts in
    rw c.in_ok-put_waiting-in-Err.ensures.empty
    (takes_put c.put.result (puts_then c.put.result c.args.waiting.now.items c.args.bytes.now c.in_ok-put_waiting-in-Err.was put c.put.ensures))
