-- The lines of rows by what is kept of their ranges.
use Rattle.std.specs.Prelude.{ℕ, List, [], ◌++◌, ◌&&◌, Bool, filter, nat_lt, ◌==◌, if◌then◌else◌}
use Rattle.dbexplain.specs.KeptRanges.{KeptRanges, unkept}
use Rattle.dbexplain.specs.Ranges.{is_of}
use Rattle.dbexplain.specs.RowLines.{lead_of, range_text, rows_line}
use Rattle.dbexplain.specs.declared.ranges.RowRange.{RowRange}
use Rattle.dbexplain.specs.declared.ranges.RowsKind.{RowsKind}
use Rattle.dbexplain.specs.declared.ranges.RowsKind.TheVariants.{NotReached, OnFaulty, CutShort}

-- that of start k and a kind
abbrev pub kept_line : KeptRanges → ℕ → RowsKind → List ℕ
kept_line r k kind = rows_line kind (filter (is_of k kind) r.kept) (unkept r k kind)

-- those of start k
abbrev pub kept_text : KeptRanges → ℕ → List ℕ
kept_text r k = kept_line r k NotReached ++ kept_line r k OnFaulty ++ kept_line r k CutShort

-- ---- one range after n others

-- it is written, where it is of start k and a kind, and one of ten
abbrev pub is_wanted : ℕ → RowsKind → ℕ → RowRange → Bool
is_wanted k kind n r = nat_lt n 10 && is_of k kind r

abbrev pub piece : ℕ → RowsKind → ℕ → RowRange → List ℕ
piece k kind n r = if is_wanted k kind n r then lead_of kind (n == 0) ++ range_text kind r.rowids else []

abbrev pub one_if : ℕ → RowsKind → ℕ → RowRange → ℕ
one_if k kind n r = if is_wanted k kind n r then 1 else 0
