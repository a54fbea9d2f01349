use Rattle.std.proofs.Common.{◌≤◌, ◌-◌}
use Rattle.dbwalk.specs.LeafCells.{AreRisingFrom}
use Rattle.dbwalk.proofs.cells.rise_from.Given as goal

abbrev pub invariant-loop-i : goal.invariant-loop-i
invariant-loop-i l = record {
  ahead : l.from ≤ l.i;
  rising : AreRisingFrom l.page l.view l.from (l.i - l.from) l.fn.greatest l.greatest;
}
