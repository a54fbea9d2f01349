use Rattle.std.proofs.Common.{◌≡◌, ◌<◌, ◌≤◌, length, drop, ◌-◌, ◌++◌, ◌⊎◌, []}
use Rattle.dbbytes.specs.Units.{text_of}
use Rattle.dbbytes.proofs.name.next_text.Given as goal

abbrev pub invariant-loop-at : goal.invariant-loop-at
invariant-loop-at l = record {
  within : l.at ≤ length l.bytes;
  room : length l.text.items ≤ 64;
  some : (l.text.items ≡ []) ⊎ (0 < l.at);
  same : text_of l.order l.bytes ≡ l.text.items ++ text_of l.order (drop l.at l.bytes);
}

abbrev pub decreases-loop-at : goal.decreases-loop-at
decreases-loop-at l = length l.bytes - l.at
