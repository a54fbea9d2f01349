use Rattle.std.proofs.Common.{◌≡◌}
use Rattle.std.specs.List.{fold, range_with_len}
use Rattle.dblog.specs.Sums.{with_pair}
use Rattle.dblog.proofs.sums.add_up.Given as goal

abbrev pub invariant-loop-pair : goal.invariant-loop-pair
invariant-loop-pair g l = l.sums ≡ fold (with_pair g.O.ByteOrder.number_of l.bytes) l.fn.start (range_with_len 0 l.pair)
