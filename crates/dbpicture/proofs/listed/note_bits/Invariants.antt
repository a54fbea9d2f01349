use Rattle.std.proofs.Common.{◌≡◌, ◌≤◌, ℕ, ◌++◌, List, length}
use Rattle.std.specs.Prelude.{filter}
use Rattle.std.specs.List.{range_with_len}
use Rattle.dbinjuries.specs.Bits.{has_bit}
use Rattle.dbpicture.specs.Faults.{with_sign}
use Rattle.dbpicture.specs.Keeping.{AreNoted}
use Rattle.dbpicture.specs.declared.faults.Sign.{Sign}
use Rattle.dbpicture.proofs.listed.note_bits.Given as goal

abbrev pub invariant-loop-index : goal.invariant-loop-index
invariant-loop-index g l = record {
  noted : (count : ℕ) (signs : List (ℕ × Sign)) → AreNoted count signs l.initial.notes
      → AreNoted count (signs ++ with_sign l.sign (filter (has_bit l.bits) (range_with_len 1 l.index))) l.notes;
  count : l.count ≡ length (filter (has_bit l.bits) (range_with_len 1 l.index));
  few : l.count ≤ l.index;
}
