use Rattle.std.proofs.Common.{length, drop, ◌-◌, ◌≤◌}
use Rattle.std.specs.Char.Utf16.{utf16_lossy_chars}
use Rattle.std.specs.List.{flat_map}
use Rattle.dbformat.specs.PlainNames.{plain_char}
use Rattle.dbbytes.specs.Units.{units}
use Rattle.dbbytes.proofs.NameLemmas.{HasPut}
use Rattle.dbbytes.proofs.plain.put_units.Given as goal

abbrev pub invariant-loop-at : goal.invariant-loop-at
invariant-loop-at g l = record {
  within : l.at ≤ length l.name;
  put : HasPut (g.O.Out.held l.initial.out) (g.O.Out.held l.out)
      (flat_map plain_char (utf16_lossy_chars (units l.order (drop l.at l.name)))) (flat_map plain_char (utf16_lossy_chars (units l.order l.name)));
}

abbrev pub decreases-loop-at : goal.decreases-loop-at
decreases-loop-at g l = length l.name - l.at
