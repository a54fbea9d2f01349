use Rattle.std.proofs.Common.{◌≤◌, ◌-◌, ℕ, ◌++◌, List, max}
use Rattle.std.specs.List.{range_with_len}
use Rattle.dbpicture.specs.Faults.{framed}
use Rattle.dbpicture.specs.Keeping.{AreNoted}
use Rattle.dbpicture.specs.declared.faults.Sign.{Sign}
use Rattle.dbpicture.proofs.listed.note_run.Given as goal

abbrev pub invariant-loop-page : goal.invariant-loop-page
invariant-loop-page g l = record {
  noted : (count : ℕ) (signs : List (ℕ × Sign)) → AreNoted count signs l.initial.notes
      → AreNoted count (signs ++ framed (range_with_len l.fn.run.first (l.page - l.fn.run.first))) l.notes;
  most : l.page ≤ max l.fn.run.first l.page-end;
}
