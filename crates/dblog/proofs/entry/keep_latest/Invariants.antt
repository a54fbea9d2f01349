use Rattle.std.proofs.Common.{◌≡◌, ◌≤◌, ◌++◌, length, take, drop}
use Rattle.dblog.specs.Entries.{latest}
use Rattle.dblog.proofs.entry.keep_latest.Given as goal

abbrev pub invariant-loop-i : goal.invariant-loop-i
invariant-loop-i l =
    (length l.entries ≡ length l.initial.entries) × (l.count ≤ l.i)
    × (take l.count l.entries ++ latest l.committed (drop l.i l.entries) ≡ latest l.committed l.initial.entries)
