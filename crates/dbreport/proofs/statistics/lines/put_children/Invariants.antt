use Rattle.dbreport.proofs.Common.{drop, flat_map, child_text, HasPut}
use Rattle.dbreport.proofs.statistics.lines.put_children.Given as goal

abbrev pub invariant-loop-child : goal.invariant-loop-child
invariant-loop-child g l =
    HasPut (g.O.Out.held l.initial.out) (g.O.Out.held l.out) (flat_map child_text (drop l.child-index l.path)) (flat_map child_text l.path)
