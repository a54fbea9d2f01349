use Rattle.std.proofs.Common.{◌≡◌, ◌≤◌}
use Rattle.std.specs.Prelude.{count_by}
use Rattle.std.specs.List.{range_with_len}
use Rattle.dbinjuries.specs.Bits.{has_bit}
use Rattle.dbpicture.specs.Faults.{is_weak}
use Rattle.dbpicture.proofs.fault_notes.FaultNotes.framed.Given as goal

abbrev pub invariant-loop-index : goal.invariant-loop-index
invariant-loop-index g l = record {
  strong : l.strong ≡ count_by (has_bit l.self.framed) (range_with_len 1 l.index);
  weak : l.weak ≡ count_by (is_weak (has_bit l.self.faulty) (has_bit l.self.framed)) (range_with_len 1 l.index);
  few : (l.strong ≤ l.index) × (l.weak ≤ l.index);
}
