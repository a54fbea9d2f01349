use Rattle.std.proofs.Common.{◌/◌, ◌%◌, ◌++◌}
use Rattle.std.specs.Prelude.{codes, decimal}
use Rattle.std.proofs.lemmas.Result.{err_from_is_err_and}
use Rattle.dbpicture.proofs.Texts.{tenths_parts}
use Rattle.dbpicture.proofs.Waiting.{takes_stop, takes_then}
use Rattle.dbpicture.proofs.pieces.add_tenths.Goals as goal

pub returns-in_err-add_number : goal.returns-in_err-add_number
returns-in_err-add_number g c =
    let p = err_from_is_err_and c.from_residual.result c.from_residual.ensures.1 in
    rw (tenths_parts c.args.tenths) (takes_stop (decimal (c.args.tenths / 10)) (codes "." ++ decimal (c.args.tenths % 10)) c.in_err-add_number.was p.1
    c.add_number.ensures)

pub returns-in_err-add : goal.returns-in_err-add
returns-in_err-add g c =
    let p = err_from_is_err_and c.from_residual-in_err-add.result c.from_residual-in_err-add.ensures.1 in
    let end = decimal (c.args.tenths % 10) in
    rw (tenths_parts c.args.tenths) (takes_then c.from_residual-in_err-add.result (decimal (c.args.tenths / 10)) (codes "." ++ end) c.in_ok-add_number.was
    c.add_number.ensures
    (takes_stop (codes ".") end c.in_err-add.was p.1 c.add.ensures))

pub returns : goal.returns
returns g c =
    let end = decimal (c.args.tenths % 10) in
    rw (tenths_parts c.args.tenths) (takes_then c.add_number-2.result (decimal (c.args.tenths / 10)) (codes "." ++ end) c.in_ok-add_number.was
    c.add_number.ensures
    (takes_then c.add_number-2.result (codes ".") end c.in_ok-add.was c.add.ensures c.add_number-2.ensures))
