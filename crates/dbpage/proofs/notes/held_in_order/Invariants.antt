use Rattle.std.proofs.Common.{◌+◌, ◌-◌, ◌≤◌}
use Rattle.dbpage.specs.Notes.{Walked, end_at}
use Rattle.dbpage.proofs.notes.held_in_order.Given as goal

abbrev pub invariant-loop-at : goal.invariant-loop-at
invariant-loop-at l = record {
  from : l.start + l.others ≤ l.at;
  before : l.at ≤ l.end;
  walked : Walked (end_at l.table l.start l.end) l.end l.at (l.at - l.start - l.others);
}

abbrev pub decreases-loop-at : goal.decreases-loop-at
decreases-loop-at l = l.end - l.at
