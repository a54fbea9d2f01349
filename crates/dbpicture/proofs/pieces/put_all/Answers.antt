use Rattle.std.proofs.Common.{◌+◌, drop}
use Rattle.std.proofs.lemmas.Result.{err_from_is_err_and}
use Rattle.dbpicture.specs.Pieces.{pieces_text}
use Rattle.dbpicture.proofs.Waiting.{no_piece, next_piece, taken_all, taken_more, taken_stop}
use Rattle.dbpicture.proofs.pieces.put_all.Goals as goal

pub returns-in_err-add_piece : goal.returns-in_err-add_piece
returns-in_err-add_piece g c =
    let p = err_from_is_err_and c.from_residual.result c.from_residual.ensures.1 in
    let i = c.loop-piece.piece-index in
    taken_stop _ (pieces_text (drop (i + 1) c.args.pieces.now)) c.loop-piece.invariant c.in_err-add_piece.was p.1 c.add_piece.ensures
    (next_piece c.args.pieces.now i _ c.loop-piece-test.true)

pub loop-piece-preserved : goal.loop-piece-preserved
loop-piece-preserved g c =
    let i = c.loop-piece.piece-index in
    taken_more _ (pieces_text (drop (i + 1) c.args.pieces.now)) c.loop-piece.invariant c.in_ok-add_piece.was c.add_piece.ensures
    (next_piece c.args.pieces.now i _ c.loop-piece-test.true)

pub returns : goal.returns
returns g c =
    taken_all c.put_waiting.result c.loop-piece.invariant (no_piece c.args.pieces.now c.loop-piece.piece-index c.loop-piece-test.false)
    c.put_waiting.ensures.puts
