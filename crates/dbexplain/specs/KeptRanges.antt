-- What is kept of the ranges of rows.
use Rattle.std.specs.Prelude.{◌≡◌, ℕ, ◌+◌, ◌≤◌, List, [], ◌∷◌, ◌++◌, length, count_by, Option, Some, None, replicate, slice_set, slice_index_or}
use Rattle.std.specs.Prelude.{nat_lt, vec_capacity, drop, take, if◌then◌else◌}
use Rattle.dbformat.specs.Address.{freelist_start}
use Rattle.dbformat.specs.Lines.{counted}
use Rattle.dbscan.specs.StartTable.{most_starts}
use Rattle.dbtrace.specs.declared.TracedFault.{TracedFault}
use Rattle.dbexplain.specs.Ranges.{all_ranges, grown, is_of, joins, most_ranges, range_of, ranges_found}
use Rattle.dbexplain.specs.declared.ranges.RangeCount.{RangeCount}
use Rattle.dbexplain.specs.declared.ranges.RowRange.{RowRange}
use Rattle.dbexplain.specs.declared.ranges.RowRanges.TheInside.{Inside}
use Rattle.dbexplain.specs.declared.ranges.RowsKind.{RowsKind}
use Rattle.dbexplain.specs.declared.ranges.RowsKind.TheVariants.{NotReached, OnFaulty, CutShort}

-- Ranges as contracts see them: those that are kept, the last one, and how many of each start found no room.
pub record KeptRanges : Type 0 where
  pub kept : List RowRange
  pub last : Option RowRange
  pub more : List RangeCount

-- what the fields hold
abbrev pub kept_ranges : {A : Type 0} → Inside A → KeptRanges
kept_ranges r = record { kept = r.kept.items; last = r.last; more = r.more }

-- there is room for all that are kept
pub record HasRangeRoom {A : Type 0} (r : Inside A) : Type 0 where
  pub few : length r.kept.items ≤ 1000
  pub room : 1000 ≤ vec_capacity r.kept

-- how many of a kind
abbrev pub count_of : RowsKind → RangeCount → ℕ
count_of NotReached c = c.not_reached
count_of OnFaulty c = c.on_faulty
count_of CutShort c = c.cut_short

-- one more
abbrev pub one_more : RowsKind → RangeCount → RangeCount
one_more NotReached c = record c { not_reached = counted (c.not_reached + 1) }
one_more OnFaulty c = record c { on_faulty = counted (c.on_faulty + 1) }
one_more CutShort c = record c { cut_short = counted (c.cut_short + 1) }

abbrev pub no_more : RangeCount
no_more = record { not_reached = 0; on_faulty = 0; cut_short = 0 }

-- how many of start k and a kind found no room
abbrev pub unkept : KeptRanges → ℕ → RowsKind → ℕ
unkept r k kind = count_of kind (slice_index_or r.more k no_more)

-- nothing was added
unfoldable pub no_ranges : KeptRanges
no_ranges = record { kept = []; last = None; more = replicate most_starts no_more }

-- ---- a range more

-- it is kept, or counted where there is no room
abbrev pub range_kept : KeptRanges → RowRange → KeptRanges
range_kept k r =
    if nat_lt (length k.kept) most_ranges then record k { kept = k.kept ++ r ∷ [] }
    else record k { more = slice_set k.more r.start (one_more r.kind (slice_index_or k.more r.start no_more)) }

-- after the last one
abbrev pub after_last : KeptRanges → Option RowRange → RowRange → KeptRanges
after_last k None r = record k { last = Some r }
after_last k (Some s) r = if joins s r then record k { last = Some (grown s r) } else record (range_kept k s) { last = Some r }

abbrev pub range_added : KeptRanges → RowRange → KeptRanges
range_added k r = after_last k k.last r

-- the rows of a fault, if there are any
abbrev pub range_if : KeptRanges → Option RowRange → KeptRanges
range_if k None = k
range_if k (Some r) = range_added k r

abbrev pub range_reported : KeptRanges → TracedFault → KeptRanges
range_reported k t = range_if k (range_of t)

-- the last one is put to the others
abbrev pub with_last : KeptRanges → Option RowRange → KeptRanges
with_last k None = record k { last = None }
with_last k (Some s) = record (range_kept k s) { last = None }

abbrev pub closed : KeptRanges → KeptRanges
closed k = with_last k k.last

-- ---- what it all means

-- The first 1000 of these ranges are kept, and the others counted.
pub record AreKept (rs : List RowRange) (kept : List RowRange) (more : List RangeCount) : Type 0 where
  pub first : kept ≡ take most_ranges rs
  pub others : (k : ℕ) (kind : RowsKind) → k ≤ freelist_start
      → count_of kind (slice_index_or more k no_more) ≡ counted (count_by (is_of k kind) (drop most_ranges rs))
  pub long : length more ≡ most_starts

-- these are the ranges of some faults
pub record AreRangesOf (ts : List TracedFault) (k : KeptRanges) : Type 0 where
  pub last : k.last ≡ (ranges_found ts).last
  pub kept : AreKept (ranges_found ts).done k.kept k.more

-- and these all of them, where the last one was put to the others
abbrev pub AreAllKept : List TracedFault → KeptRanges → Type 0
AreAllKept ts k = AreKept (all_ranges (ranges_found ts)) k.kept k.more
