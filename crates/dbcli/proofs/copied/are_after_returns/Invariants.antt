use Rattle.std.proofs.Common.{◌≡◌, ℕ, ◌-◌, ◌<◌, ◌≤◌, slice_index}
use Rattle.dbcli.proofs.copied.are_after_returns.Given as goal

abbrev pub invariant-loop-byte : goal.invariant-loop-byte
invariant-loop-byte l = record {
  first : l.byte-index ≡ 0 → l.last ≡ 0;
  last : 1 ≤ l.byte-index → l.last ≡ slice_index l.bytes (l.byte-index - 1);
  before : (k : ℕ) → k < l.byte-index → slice_index l.bytes k ≡ 10 → (1 ≤ k) × (slice_index l.bytes (k - 1) ≡ 13);
}
