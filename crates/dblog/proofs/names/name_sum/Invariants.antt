use Rattle.std.proofs.Common.{◌≡◌, take}
use Rattle.std.specs.List.{fold}
use Rattle.dblog.specs.Journal.{with_letter}
use Rattle.dblog.proofs.names.name_sum.Given as goal

abbrev pub invariant-loop-byte : goal.invariant-loop-byte
invariant-loop-byte l = l.sum ≡ fold with_letter 0 (take l.byte-index l.name)
