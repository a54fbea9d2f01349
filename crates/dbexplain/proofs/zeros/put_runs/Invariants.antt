use Rattle.std.proofs.Common.{take}
use Rattle.std.specs.List.{flat_map}
use Rattle.dbexplain.proofs.Common.{Wrote, zero_run_line}
use Rattle.dbexplain.proofs.zeros.put_runs.Given as goal

abbrev pub invariant-loop-run : goal.invariant-loop-run
invariant-loop-run g l = Wrote g.O.Out.held l.initial.writer (flat_map (zero_run_line l.shape.page_size) (take l.run-index l.runs)) l.writer
