use Rattle.std.proofs.Common.{◌≡◌, ◌≤◌, length}
use Rattle.dbpicture.specs.Tallies.{largest_trees, pages_at}
use Rattle.dbpicture.proofs.tally.PageTally.largest.Given as goal

abbrev pub invariant-loop : goal.invariant-loop
invariant-loop g l = record {
  starts : l.largest.items ≡ largest_trees (pages_at l.self.starts) l.trees l.counter;
  few : length l.largest.items ≤ l.counter;
}
