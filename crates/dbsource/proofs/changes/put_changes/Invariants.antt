use Rattle.std.proofs.Common.{◌≡◌, take}
use Rattle.dbsource.specs.Changes.{changed_from}
use Rattle.dbsource.proofs.changes.put_changes.Given as goal

abbrev pub invariant-loop-change : goal.invariant-loop-change
invariant-loop-change l = l.buf ≡ changed_from (take l.change-index l.changes) l.offset l.initial.buf
