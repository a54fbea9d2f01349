use Rattle.std.proofs.Common.{◌≡◌, ◌^◌, ◌≤◌}
use Rattle.dbpicture.specs.Grids.{group_after}
use Rattle.dbpicture.proofs.grid.group_for.Given as goal

abbrev pub invariant-loop : goal.invariant-loop
invariant-loop l = record {
  group : l.group ≡ group_after l.pages l.counter;
  some : 1 ≤ l.group;
  most : l.group ≤ 2 ^ l.counter;
}
