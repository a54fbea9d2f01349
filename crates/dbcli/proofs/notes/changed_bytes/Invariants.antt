use Rattle.std.proofs.Common.{◌≡◌, length, sum_by, take}
use Rattle.dbsource.specs.Changes.{Change}
use Rattle.dbcli.proofs.notes.changed_bytes.Given as goal

-- the bytes of the changes so far
abbrev pub invariant-loop-change : goal.invariant-loop-change
invariant-loop-change l = l.count ≡ sum_by (λ (c : Change). length c.bytes) (take l.change-index l.changes)
