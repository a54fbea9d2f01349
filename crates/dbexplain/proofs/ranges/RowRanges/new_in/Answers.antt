use Rattle.std.proofs.Common.{List, None, ap₂}
use Rattle.dbexplain.proofs.Common.{KeptRanges, RangeCount, RowRange}
use Rattle.dbexplain.specs.KeptRanges.{no_ranges}
use Rattle.dbexplain.proofs.RangesKept.{none_added}
use Rattle.dbexplain.proofs.ranges.RowRanges.new_in.Goals as goal

abbrev of_parts : List RowRange → List RangeCount → KeptRanges
of_parts kept more = record { kept = kept; last = None; more = more }

pub returns : goal.returns
unfolding no_ranges
returns g c = none_added _ (ap₂ of_parts c.in_ok-kept.ensures.items c.in_ok-more.ensures)
