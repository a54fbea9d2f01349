-- How many ranges of each start and kind found no room.
use Rattle.std.specs.Prelude.{◌≡◌, ℕ, ◌≤◌, List, length, slice_set, slice_index_or}
use Rattle.dbformat.specs.Address.{freelist_start}
use Rattle.dbscan.specs.StartTable.{most_starts}
use Rattle.dbexplain.specs.KeptRanges.{no_more}
use Rattle.dbexplain.specs.declared.range_counts.RangeCounts.TheInside.{Inside}
use Rattle.dbexplain.specs.declared.ranges.RangeCount.{RangeCount}
use Rattle.dbexplain.specs.declared.ranges.RowsKind.{RowsKind}
use Rattle.dbexplain.specs.declared.ranges.RowsKind.TheVariants.{NotReached, OnFaulty, CutShort}

-- these counts, with another one of a kind
abbrev pub with_kind : RowsKind → ℕ → RangeCount → RangeCount
with_kind NotReached n c = record c { not_reached = n }
with_kind OnFaulty n c = record c { on_faulty = n }
with_kind CutShort n c = record c { cut_short = n }

-- what the fields hold: the count of the one start and kind, and all others
abbrev pub range_counts : {A : Type 0} → Inside A → List RangeCount
range_counts t = slice_set t.others t.start (with_kind t.kind t.count (slice_index_or t.others t.start no_more))

-- the one is a start
pub record HasStart {A : Type 0} (t : Inside A) : Type 0 where
  pub start : t.start ≤ freelist_start
  pub long : length t.others ≡ most_starts
