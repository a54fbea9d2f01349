use Rattle.std.proofs.Common.{◌≡◌}
use Rattle.std.specs.Prelude.{filter, fold}
use Rattle.std.specs.List.{range_with_len}
use Rattle.dbinjuries.specs.Kept.{no_runs, run_added}
use Rattle.dbinjuries.specs.Bits.{has_bit}
use Rattle.dbinjuries.proofs.listing.Listing.zero_runs.Given as goal

abbrev pub invariant-loop-index : goal.invariant-loop-index
invariant-loop-index g l = l.runs ≡ fold run_added no_runs (filter (has_bit l.self.zeros) (range_with_len 1 l.index))
