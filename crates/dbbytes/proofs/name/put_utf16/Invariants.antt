use Rattle.std.proofs.Common.{length, drop, ◌-◌, ◌≤◌}
use Rattle.std.specs.List.{flat_map}
use Rattle.dbformat.specs.Text.{escape_byte}
use Rattle.dbbytes.specs.Units.{text_of}
use Rattle.dbbytes.proofs.NameLemmas.{HasPut}
use Rattle.dbbytes.proofs.name.put_utf16.Given as goal

abbrev pub invariant-loop-at : goal.invariant-loop-at
invariant-loop-at g l = record {
  within : l.at ≤ length l.name;
  put : HasPut (g.O.Out.held l.initial.out) (g.O.Out.held l.out)
      (flat_map escape_byte (text_of l.order (drop l.at l.name))) (flat_map escape_byte (text_of l.order l.name));
}

abbrev pub decreases-loop-at : goal.decreases-loop-at
decreases-loop-at g l = length l.name - l.at
