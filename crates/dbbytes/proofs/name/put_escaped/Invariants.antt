use Rattle.std.proofs.Common.{length, drop, ◌-◌, ◌≤◌}
use Rattle.std.specs.List.{flat_map}
use Rattle.dbformat.specs.Text.{escape_byte}
use Rattle.dbbytes.proofs.NameLemmas.{HasPut}
use Rattle.dbbytes.proofs.name.put_escaped.Given as goal

abbrev pub invariant-loop-at : goal.invariant-loop-at
invariant-loop-at g l = record {
  within : l.at ≤ length l.text;
  put : HasPut (g.O.Out.held l.initial.out) (g.O.Out.held l.out)
      (flat_map escape_byte (drop l.at l.text)) (flat_map escape_byte l.text);
}

abbrev pub decreases-loop-at : goal.decreases-loop-at
decreases-loop-at g l = length l.text - l.at
