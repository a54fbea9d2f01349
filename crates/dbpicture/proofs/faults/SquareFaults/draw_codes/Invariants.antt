use Rattle.std.proofs.Common.{take}
use Rattle.std.specs.List.{flat_map}
use Rattle.dblines.specs.Writing.{Wrote}
use Rattle.dbpicture.specs.Faults.{code_if, shown}
use Rattle.dbpicture.proofs.faults.SquareFaults.draw_codes.Given as goal

abbrev pub invariant-loop-code : goal.invariant-loop-code
invariant-loop-code g l = Wrote g.O.Out.held l.initial.writer (flat_map (code_if (shown l.self.bits)) (take l.code-index l.code-items)) l.writer
