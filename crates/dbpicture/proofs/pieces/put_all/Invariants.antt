use Rattle.std.proofs.Common.{drop}
use Rattle.dbpicture.specs.Pieces.{pieces_text}
use Rattle.dbpicture.proofs.Waiting.{HasTaken}
use Rattle.dbpicture.proofs.pieces.put_all.Given as goal

abbrev pub invariant-loop-piece : goal.invariant-loop-piece
invariant-loop-piece g l = HasTaken (g.O.Out.held l.initial.out) (g.O.Out.held l.out) l.waiting.items (pieces_text (drop l.piece-index l.pieces))
    (pieces_text l.pieces)
