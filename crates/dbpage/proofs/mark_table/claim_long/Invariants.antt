use Rattle.std.proofs.Common.{◌≡◌, ◌-◌, ◌%◌, ◌≤◌}
use Rattle.dbpage.specs.Marking.{Marks}
use Rattle.dbpage.proofs.mark_table.claim_long.Given as goal

abbrev pub invariant-loop-at : goal.invariant-loop-at
invariant-loop-at l = record {
  after : l.from ≤ l.at;
  before : l.at ≤ l.end;
  whole : l.at % 8 ≡ 0;
  marked : Marks l.fn.table l.from l.at l.table;
}

abbrev pub decreases-loop-at : goal.decreases-loop-at
decreases-loop-at l = l.end - l.at
