use Rattle.dbreport.proofs.Common.{◌+◌, drop, get_or, flat_map, err_from_is_err_and, child_text, put_more, put_stop}
use Rattle.dbreport.proofs.StatPieces.{next_child}
use Rattle.dbreport.proofs.statistics.lines.put_children.Goals as goal

pub returns-in_err-put : goal.returns-in_err-put
returns-in_err-put g c =
    let path = c.args.path.now in
    let i = c.loop-child.child-index in
    let p = err_from_is_err_and c.from_residual.result c.from_residual.ensures.1 in
    put_stop (child_text (get_or path i 0)) (flat_map child_text (drop (i + 1) path)) c.loop-child.invariant c.in_err-put.was p.1
    (rw (c.as_slice.ensures.value, c.child_text-text.ensures) at c.put.ensures) (next_child path i c.loop-child-test.true)

pub loop-child-preserved : goal.loop-child-preserved
loop-child-preserved g c =
    let path = c.args.path.now in
    let i = c.loop-child.child-index in
    put_more (child_text (get_or path i 0)) (flat_map child_text (drop (i + 1) path)) c.loop-child.invariant c.in_ok-put.was
    (rw (c.as_slice.ensures.value, c.child_text-text.ensures) at c.put.ensures) (next_child path i c.loop-child-test.true)
