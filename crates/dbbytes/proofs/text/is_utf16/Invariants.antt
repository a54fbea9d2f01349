use Rattle.std.proofs.Common.{length, drop, ◌-◌, ◌≤◌, ◌%◌, ◌≡◌}
use Rattle.std.specs.Char.Utf16.{has_unpaired_surrogate}
use Rattle.dbbytes.specs.Units.{units}
use Rattle.dbbytes.proofs.text.is_utf16.Given as goal

abbrev pub invariant-loop-at : goal.invariant-loop-at
invariant-loop-at l = record {
  within : l.at ≤ length l.bytes;
  even : l.at % 2 ≡ 0;
  same : has_unpaired_surrogate (units l.order (drop l.at l.bytes)) ≡ has_unpaired_surrogate (units l.order l.bytes);
}

abbrev pub decreases-loop-at : goal.decreases-loop-at
decreases-loop-at l = length l.bytes - l.at
