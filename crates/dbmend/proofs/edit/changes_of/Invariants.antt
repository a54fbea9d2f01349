use Rattle.std.proofs.Common.{◌≡◌, take}
use Rattle.dbmend.proofs.edit.changes_of.Given as goal

abbrev pub invariant-loop-edit : goal.invariant-loop-edit
invariant-loop-edit l = l.changes ≡ take l.edit-index l.edits
