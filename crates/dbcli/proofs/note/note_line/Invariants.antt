use Rattle.std.proofs.Common.{◌≡◌, ◌++◌, Some, codes, take}
use Rattle.dbcli.specs.NoteLines.{pieces_text}
use Rattle.dbcli.proofs.note.note_line.Given as goal

abbrev pub invariant-loop-piece : goal.invariant-loop-piece
invariant-loop-piece l = l.line.bytes ≡ Some (codes "dbck: note: " ++ l.name ++ pieces_text (take l.piece-index l.pieces))
