-- Which rows the faults of a tree are of (own): ranges of rowids, as the keys around them say.
use Rattle.std.specs.Prelude.{ℕ, ℤ, negsuc, pos, ◌-ℤ◌, int_lt, not, Bool, true, false, ◌&&◌, ◌||◌, List, [], ◌∷◌, ◌++◌, filter, fold, take, drop, count_by}
use Rattle.std.specs.Prelude.{Option, Some, None, option_and_then, option_to_list, ◌==◌, if◌then◌else◌}
use Rattle.std.specs.Ordering.{int_eq}
use Rattle.dbformat.specs.declared.Fault.{Fault}
use Rattle.dbformat.specs.declared.FaultCode.{FaultCode}
use Rattle.dbformat.specs.declared.FaultCode.TheVariants.{R01, R02, R03, P01, P02, P03, T04}
use Rattle.dbtrace.specs.declared.Cause.{Cause}
use Rattle.dbtrace.specs.declared.Cause.TheVariants as cause
use Rattle.dbtrace.specs.declared.Part.{Part}
use Rattle.dbtrace.specs.declared.Part.TheVariants as part
use Rattle.dbtrace.specs.declared.TracedFault.{TracedFault}
use Rattle.dbtrace.specs.declared.RowidBounds.{RowidBounds}
use Rattle.dbexplain.specs.declared.ranges.RowRange.{RowRange}
use Rattle.dbexplain.specs.declared.ranges.RowsKind.{RowsKind}
use Rattle.dbexplain.specs.declared.ranges.RowsKind.TheVariants.{NotReached, OnFaulty, CutShort}

-- ---- the rows of a fault

-- what a fault with this code says of rows, where it is of a page or a reference: the tree does not lead to them, or they are on a page
-- with faults
abbrev pub kind_of : FaultCode → RowsKind
kind_of R01 = NotReached
kind_of R02 = NotReached
kind_of R03 = NotReached
kind_of P01 = NotReached
kind_of P02 = NotReached
kind_of P03 = NotReached
kind_of T04 = NotReached
kind_of _ = OnFaulty

-- one row
abbrev pub one_row : ℤ → RowidBounds
one_row rowid = record { above = if int_lt (negsuc 9223372036854775807) rowid then Some (rowid -ℤ pos 1) else None; up_to = Some rowid }

-- rows of the tree of start k
abbrev pub rows_at : ℕ → RowsKind → RowidBounds → Option RowRange
rows_at k kind rowids = Some (record { start = k; kind = kind; rowids = rowids })

-- The rows that a fault at start k is of: those that its cause names; of a rowid out of order its row; and of a chain the row that it
-- belongs to.
abbrev pub range_by : ℕ → Fault → Cause → Option RowRange
range_by k f cause.Itself = None
range_by k f (cause.Rows rowids) = rows_at k (kind_of f.code) rowids
range_by k f (cause.Key top (Some left)) = rows_at k OnFaulty left
range_by k f (cause.Key top None) = rows_at k OnFaulty (one_row f.value)
range_by k f (cause.Leaf page rowids) = rows_at k OnFaulty rowids
range_by k f (cause.Chain c) = option_and_then (λ rowid. rows_at k CutShort (one_row rowid)) c.rowid
range_by k f (cause.Page page facts) = rows_at k (kind_of f.code) facts.rowids
range_by k f (cause.Look l facts) = rows_at k (kind_of f.code) facts.rowids

-- whether no row is within these bounds
abbrev pub is_no_range : RowidBounds → Bool
is_no_range rowids = none_between rowids.above rowids.up_to
  where
    none_between : Option ℤ → Option ℤ → Bool
    none_between (Some above) (Some up_to) = not (int_lt above up_to)
    none_between _ _ = false

-- only if there are some
abbrev pub if_some_rows : Option RowRange → Option RowRange
if_some_rows None = None
if_some_rows (Some r) = if is_no_range r.rowids then None else Some r

-- the rows of a reported fault, if there are any
abbrev pub range_of : TracedFault → Option RowRange
range_of t = at_part t.part
  where
    at_part : Part → Option RowRange
    at_part (part.Start k) = if_some_rows (range_by k t.fault t.cause)
    at_part _ = None

-- ---- ranges that are one

abbrev pub same_kind : RowsKind → RowsKind → Bool
same_kind NotReached NotReached = true
same_kind OnFaulty OnFaulty = true
same_kind CutShort CutShort = true
same_kind _ _ = false

abbrev pub same_key : Option ℤ → Option ℤ → Bool
same_key (Some a) (Some b) = int_eq a b
same_key None None = true
same_key _ _ = false

abbrev pub same_bounds : RowidBounds → RowidBounds → Bool
same_bounds one other = same_key one.up_to other.up_to && same_key one.above other.above

-- whether a range goes on where another ends
abbrev pub touches : RowidBounds → RowidBounds → Bool
touches one other = both one.up_to other.above
  where
    both : Option ℤ → Option ℤ → Bool
    both (Some a) (Some b) = int_eq a b
    both _ _ = false

-- they are of one tree, and the same is said of them; and they are equal, or touch, where they are not of single rows
abbrev pub joins : RowRange → RowRange → Bool
joins one other = (one.start == other.start) && same_kind one.kind other.kind
    && (same_bounds one.rowids other.rowids || (not (same_kind one.kind CutShort) && touches one.rowids other.rowids))

-- a range with those after it
abbrev pub grown : RowRange → RowRange → RowRange
grown one other = record { start = one.start; kind = one.kind; rowids = record { above = one.rowids.above; up_to = other.rowids.up_to } }

-- ---- all ranges of some faults, in the order in which they are found

-- those that are done, and the last one, to which the next may be joined
pub record Found : Type 0 where
  pub done : List RowRange
  pub last : Option RowRange

abbrev pub none_found : Found
none_found = record { done = []; last = None }

-- after the last one
abbrev pub found_after : List RowRange → Option RowRange → RowRange → Found
found_after done None r = record { done = done; last = Some r }
found_after done (Some s) r =
    if joins s r then record { done = done; last = Some (grown s r) } else record { done = done ++ s ∷ []; last = Some r }

-- with the rows of a fault, if there are any
abbrev pub found_with : Found → Option RowRange → Found
found_with f None = f
found_with f (Some r) = found_after f.done f.last r

abbrev pub found_more : Found → TracedFault → Found
found_more f t = found_with f (range_of t)

abbrev pub ranges_found : List TracedFault → Found
ranges_found ts = fold found_more none_found ts

abbrev pub all_ranges : Found → List RowRange
all_ranges f = f.done ++ option_to_list f.last

-- how many are kept
abbrev pub most_ranges : ℕ
most_ranges = 1000

-- whether a range is of start k, and this is said of its rows
abbrev pub is_of : ℕ → RowsKind → RowRange → Bool
is_of k kind r = (r.start == k) && same_kind r.kind kind

-- those of the first 1000 ranges, and how many of the others there are
abbrev pub shown_ranges : List TracedFault → ℕ → RowsKind → List RowRange
shown_ranges ts k kind = filter (is_of k kind) (take most_ranges (all_ranges (ranges_found ts)))

abbrev pub other_ranges : List TracedFault → ℕ → RowsKind → ℕ
other_ranges ts k kind = count_by (is_of k kind) (drop most_ranges (all_ranges (ranges_found ts)))
