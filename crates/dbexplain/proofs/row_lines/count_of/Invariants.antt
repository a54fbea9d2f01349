use Rattle.std.proofs.Common.{◌≡◌, ◌≤◌, length, take}
use Rattle.std.specs.Prelude.{filter}
use Rattle.dbexplain.specs.Ranges.{is_of}
use Rattle.dbexplain.proofs.row_lines.count_of.Given as goal

abbrev pub invariant-loop-range : goal.invariant-loop-range
invariant-loop-range l = record {
  counted : l.count ≡ length (filter (is_of l.start l.kind) (take l.range-index l.ranges));
  most : l.count ≤ l.range-index;
}
