use Rattle.std.proofs.Common.{◌≡◌, ◌≤◌, ◌*◌}
use Rattle.dbpage.specs.Packed.{first_cells, payload_of, greatest_of}
use Rattle.dbwalk.proofs.page_row.payload_sums.Given as goal

abbrev pub invariant-loop-i : goal.invariant-loop-i
invariant-loop-i l = record {
  all : l.all ≡ payload_of (first_cells l.view l.i);
  greatest : l.greatest ≡ greatest_of (first_cells l.view l.i);
  small : l.all ≤ l.i * 65536;
}
