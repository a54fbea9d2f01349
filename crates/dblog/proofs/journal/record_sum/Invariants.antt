use Rattle.std.proofs.Common.{◌≡◌}
use Rattle.std.specs.List.{fold, range_with_len}
use Rattle.dblog.specs.Journal.{with_byte}
use Rattle.dblog.proofs.journal.record_sum.Given as goal

abbrev pub invariant-loop-i : goal.invariant-loop-i
invariant-loop-i l = l.sum ≡ fold (with_byte l.page) l.fn.nonce (range_with_len 0 l.i)
