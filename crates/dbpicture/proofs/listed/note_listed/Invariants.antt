use Rattle.std.proofs.Common.{ℕ, ◌++◌, List, take}
use Rattle.std.specs.Prelude.{flat_map}
use Rattle.dbpicture.specs.Faults.{injury_signs}
use Rattle.dbpicture.specs.Keeping.{AreNoted}
use Rattle.dbpicture.specs.declared.faults.Sign.{Sign}
use Rattle.dbpicture.proofs.listed.note_listed.Given as goal

abbrev pub invariant-loop-injury : goal.invariant-loop-injury
invariant-loop-injury g l =
    (count : ℕ) (signs : List (ℕ × Sign)) → AreNoted count signs l.initial.notes
    → AreNoted count (signs ++ flat_map injury_signs (take l.injury-index l.listed)) l.notes
