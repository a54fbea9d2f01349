use Rattle.dbreport.proofs.Common.{err_from_is_err_and, puts_then, puts_stop}
use Rattle.dbreport.proofs.StatPieces.{page_pieces}
use Rattle.dbreport.proofs.statistics.lines.put_page_row.Goals as goal

pub returns-in_err-put_name : goal.returns-in_err-put_name
returns-in_err-put_name g c =
    let p = err_from_is_err_and c.from_residual.result c.from_residual.ensures.1 in
    rw (page_pieces _ _ _) (puts_stop _ _ c.in_err-put_name.was p.1 c.put_name.ensures)

pub returns-in_err-put : goal.returns-in_err-put
returns-in_err-put g c =
    let p = err_from_is_err_and c.from_residual-in_err-put.result c.from_residual-in_err-put.ensures.1 in
    rw (page_pieces _ _ _) (puts_then _ _ _ c.in_ok-put_name.was c.put_name.ensures (puts_stop _ _ c.in_err-put.was p.1 c.put.ensures))

pub returns-in_err-put_children : goal.returns-in_err-put_children
returns-in_err-put_children g c =
    let p = err_from_is_err_and c.from_residual-in_err-put_children.result c.from_residual-in_err-put_children.ensures.1 in
    rw (page_pieces _ _ _) (puts_then _ _ _ c.in_ok-put_name.was c.put_name.ensures
    (puts_then _ _ _ c.in_ok-put.was c.put.ensures (puts_stop _ _ c.in_err-put_children.was p.1 c.put_children.ensures)))

pub returns : goal.returns
returns g c = rw (page_pieces _ _ _) (puts_then _ _ _ c.in_ok-put_name.was c.put_name.ensures (puts_then _ _ _ c.in_ok-put.was c.put.ensures
    (puts_then _ _ _ c.in_ok-put_children.was c.put_children.ensures (rw (c.as_slice.ensures.value, c.page_end-end.ensures) at c.put-2.ensures))))
