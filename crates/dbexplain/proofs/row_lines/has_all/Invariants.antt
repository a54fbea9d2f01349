use Rattle.std.proofs.Common.{◌≡◌, take}
use Rattle.std.specs.Prelude.{filter}
use Rattle.std.specs.List.{list_any}
use Rattle.dbexplain.proofs.Common.{is_of, is_all}
use Rattle.dbexplain.proofs.row_lines.has_all.Given as goal

abbrev pub invariant-loop-range : goal.invariant-loop-range
invariant-loop-range l = l.found ≡ list_any is_all (filter (is_of l.start l.kind) (take l.range-index l.ranges))
