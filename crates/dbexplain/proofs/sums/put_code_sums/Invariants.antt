use Rattle.std.proofs.Common.{take}
use Rattle.std.specs.List.{flat_map}
use Rattle.dbexplain.proofs.Common.{Wrote, code_sum}
use Rattle.dbexplain.proofs.sums.put_code_sums.Given as goal

abbrev pub invariant-loop-code : goal.invariant-loop-code
invariant-loop-code g l = Wrote g.O.Out.held l.initial.writer (flat_map (code_sum l.tally) (take l.code-index l.codes)) l.writer
