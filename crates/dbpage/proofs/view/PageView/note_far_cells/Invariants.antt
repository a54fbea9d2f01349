use Rattle.std.proofs.Common.{◌≡◌}
use Rattle.dbpage.specs.Five.{IsLast}
use Rattle.dbpage.specs.Notes.{HaveNotes}
use Rattle.dbpage.proofs.view.PageView.note_far_cells.Given as goal

abbrev pub invariant-loop-i : goal.invariant-loop-i
invariant-loop-i l = record {
  cells : l.noted.cells ≡ l.i;
  noted : HaveNotes l.self l.table l.noted;
  last : IsLast l.i l.last l.noted.sums.last;
}
