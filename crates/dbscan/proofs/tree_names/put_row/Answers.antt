use Rattle.dbscan.proofs.Common.{err_from_is_err_and}
use Rattle.dbsource.proofs.Puts.{puts_then, puts_stop}
use Rattle.dbscan.proofs.tree_names.put_row.Goals as goal

pub returns-in_err-put : goal.returns-in_err-put
returns-in_err-put g c =
    let p = err_from_is_err_and c.from_residual.result c.from_residual.ensures.1 in
    puts_stop _ _ c.in_err-put.was p.1 (rw (c.as_bytes.ensures.value, c.kind_text.ensures) at c.put.ensures)

pub returns-in-Some : goal.returns-in-Some
returns-in-Some g c =
    rw c.in-Some.is (puts_then _ _ _ c.in_ok-put.was (rw (c.as_bytes.ensures.value, c.kind_text.ensures) at c.put.ensures) c.plain_name_text.ensures)

pub returns-in-None : goal.returns-in-None
returns-in-None g c =
    rw c.in-None.is (puts_then _ _ _ c.in_ok-put.was (rw (c.as_bytes.ensures.value, c.kind_text.ensures) at c.put.ensures) c.put-in-None.ensures)
