use Rattle.std.proofs.Common.{◌≡◌, ◌+◌, ◌*◌, ◌≤◌, ◌++◌, length, take, codes}
use Rattle.std.specs.List.{join_by}
use Rattle.dbinjuries.specs.Others.{run_text}
use Rattle.dbinjuries.proofs.others.append_runs.Given as goal

abbrev pub invariant-loop-index : goal.invariant-loop-index
invariant-loop-index g l =
    (l.line.items ≡ l.initial.line.items ++ join_by run_text (codes ", ") (take l.index l.runs))
    × (length l.line.items ≤ length l.initial.line.items + 46 * l.index)
