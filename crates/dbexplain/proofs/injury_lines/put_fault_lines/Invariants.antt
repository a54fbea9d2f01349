use Rattle.std.proofs.Common.{take}
use Rattle.std.specs.List.{flat_map}
use Rattle.dbexplain.proofs.Common.{Wrote, fault_line}
use Rattle.dbinjuries.specs.declared.injury.Injury.{Injury}
use Rattle.dbexplain.proofs.injury_lines.put_fault_lines.Given as goal

abbrev pub invariant-loop-injury : goal.invariant-loop-injury
invariant-loop-injury g l = Wrote g.O.Out.held l.initial.writer (flat_map (λ (e : Injury). fault_line e.first.fault) (take l.injury-index l.injuries)) l.writer
