use Rattle.std.proofs.Common.{ℕ, ◌++◌, List, take}
use Rattle.std.specs.Prelude.{flat_map}
use Rattle.dbpicture.specs.Faults.{framed, run_pages}
use Rattle.dbpicture.specs.Keeping.{AreNoted}
use Rattle.dbpicture.specs.declared.faults.Sign.{Sign}
use Rattle.dbpicture.proofs.listed.note_runs.Given as goal

abbrev pub invariant-loop-run : goal.invariant-loop-run
invariant-loop-run g l =
    (count : ℕ) (signs : List (ℕ × Sign)) → AreNoted count signs l.initial.notes
    → AreNoted count (signs ++ framed (flat_map run_pages (take l.run-index l.runs))) l.notes
