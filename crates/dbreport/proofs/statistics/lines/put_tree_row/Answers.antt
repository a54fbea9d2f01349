use Rattle.dbreport.proofs.Common.{tree_end, err_from_is_err_and, puts_then, puts_stop}
use Rattle.dbreport.proofs.StatPieces.{tree_pieces}
use Rattle.dbreport.proofs.statistics.lines.put_tree_row.Goals as goal

pub returns-in_err-put_name-clause-text : goal.returns-in_err-put_name-clause-text
returns-in_err-put_name-clause-text g c rows e =
    let p = err_from_is_err_and c.from_residual.result c.from_residual.ensures.1 in
    rw (tree_pieces _ _ rows _ e) (puts_stop _ _ c.in_err-put_name.was p.1 c.put_name.ensures)

pub returns-clause-text : goal.returns-clause-text
returns-clause-text g c rows e = rw (tree_pieces _ _ rows _ e) (puts_then _ _ _ c.in_ok-put_name.was c.put_name.ensures
    (rw (c.as_slice.ensures.value, c.tree_end-end.ensures) at c.put.ensures))

pub returns-in_err-put_name-clause-count : goal.returns-in_err-put_name-clause-count
returns-in_err-put_name-clause-count g c =
    let end = tree_end c.args.label.now.page_size c.args.sums.now in
    let p = err_from_is_err_and c.from_residual.result c.from_residual.ensures.1 in
    (puts_stop _ end c.in_err-put_name.was p.1 c.put_name.ensures).count

pub returns-clause-count : goal.returns-clause-count
returns-clause-count g c = (puts_then c.put.result _ (tree_end c.args.label.now.page_size c.args.sums.now) c.in_ok-put_name.was c.put_name.ensures
    (rw (c.as_slice.ensures.value, c.tree_end-end.ensures) at c.put.ensures)).count
