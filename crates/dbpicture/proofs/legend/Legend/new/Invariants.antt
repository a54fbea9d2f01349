use Rattle.std.proofs.Common.{◌≡◌, ◌≤◌, length}
use Rattle.std.specs.List.{flat_map, range_with_len}
use Rattle.dbpicture.specs.Legends.{tree_line}
use Rattle.dbpicture.proofs.legend.Legend.new.Given as goal

abbrev pub invariant-loop-rank : goal.invariant-loop-rank
invariant-loop-rank g l = record {
  lines : l.legend.lines.items ≡ flat_map (tree_line l.roots.rows l.tally.starts l.largest) (range_with_len 0 l.rank);
  room : length l.legend.lines.items ≤ l.rank;
}
