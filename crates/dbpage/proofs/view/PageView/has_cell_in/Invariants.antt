use Rattle.std.proofs.Common.{◌≡◌, false}
use Rattle.std.specs.List.{list_any, range_with_len}
use Rattle.dbformat.specs.Runs.{begins_in}
use Rattle.dbpage.proofs.view.PageView.has_cell_in.Given as goal

abbrev pub invariant-loop-i : goal.invariant-loop-i
invariant-loop-i l = list_any (begins_in l.self l.run) (range_with_len 0 l.i) ≡ false
