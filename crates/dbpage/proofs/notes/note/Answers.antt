use Rattle.std.proofs.Common.{arith}
use Rattle.dbpage.proofs.NoteTable.{near_of_noted, Notes_set}
use Rattle.dbpage.proofs.notes.note.Goals as goal

pub returns-then-note_at-ge4 : goal.returns-then-note_at-ge4
returns-then-note_at-ge4 c =
    λ end before.
    near_of_noted c.args.table.now c.args.start end c.args.offset c.requires.from before (omega (arith, c.note_at.ensures.value, c.if-note_at-ge4.true))

pub returns : goal.returns
returns c =
    λ end before.
    Notes_set c.args.table.now c.args.start end c.args.offset c.args.len c.requires.from before c.requires.room c.requires.some
    (omega (arith, c.note_at.ensures.value, c.if-note_at-ge4.false))
