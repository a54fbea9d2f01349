use Rattle.std.proofs.Common.{◌*◌, ◌≤◌}
use Rattle.dbpage.specs.Marking.{cells_upto}
use Rattle.dbpage.specs.Notes.{AreNotedIn}
use Rattle.dbpage.specs.Packed.{AddUpTo}
use Rattle.dbpage.proofs.view.PageView.note_cells.Given as goal

abbrev pub invariant-loop-i : goal.invariant-loop-i
invariant-loop-i l = record {
  read : AddUpTo l.self l.i l.sums;
  noted : AreNotedIn l.self (cells_upto l.self l.i) l.table l.held;
  few : l.held ≤ l.i * 16384;
}
