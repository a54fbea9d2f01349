-- The lines of rows below the count of a tree in the summary (own).
use Rattle.std.specs.Prelude.{ℕ, ℤ, ◌+◌, ◌-◌, not, Bool, true, false, ◌&&◌, List, [], ◌∷◌, ◌++◌, length, take, Option, Some, None, is_none, codes, decimal}
use Rattle.std.specs.Prelude.{◌==◌}
use Rattle.std.specs.Prelude.{if◌then◌else◌}
use Rattle.std.specs.Fmt.{signed_decimal}
use Rattle.std.specs.List.{list_any}
use Rattle.std.specs.Option.{option_map_or}
use Rattle.dbformat.specs.Lines.{counted, line_feed}
use Rattle.dbtrace.specs.declared.TracedFault.{TracedFault}
use Rattle.dbtrace.specs.declared.RowidBounds.{RowidBounds}
use Rattle.dbexplain.specs.Ranges.{other_ranges, shown_ranges}
use Rattle.dbexplain.specs.declared.ranges.RowRange.{RowRange}
use Rattle.dbexplain.specs.declared.ranges.RowsKind.{RowsKind}
use Rattle.dbexplain.specs.declared.ranges.RowsKind.TheVariants.{NotReached, OnFaulty, CutShort}

-- what is said of the rows
abbrev pub words_of : RowsKind → List ℕ
words_of NotReached = codes "rows not reached: "
words_of OnFaulty = codes "rows on pages with faults: "
words_of CutShort = codes "rows cut short: "

-- between two keys
abbrev pub bounds_text : Option ℤ → Option ℤ → List ℕ
bounds_text None None = codes "all rows"
bounds_text (Some above) None = codes "above " ++ signed_decimal above
bounds_text None (Some up_to) = codes "up to " ++ signed_decimal up_to
bounds_text (Some above) (Some up_to) = codes "above " ++ signed_decimal above ++ codes " and up to " ++ signed_decimal up_to

-- a range; of a row that is cut short its rowid
abbrev pub range_text : RowsKind → RowidBounds → List ℕ
range_text NotReached b = bounds_text b.above b.up_to
range_text OnFaulty b = bounds_text b.above b.up_to
range_text CutShort b = option_map_or signed_decimal b.up_to []

-- what comes before a range: between two a comma
abbrev pub lead_of : RowsKind → Bool → List ℕ
lead_of kind false = codes ", "
lead_of NotReached true = codes "rowids "
lead_of OnFaulty true = codes "rowids "
lead_of CutShort true = []

-- ranges one after another
abbrev pub list_text : RowsKind → Bool → List RowRange → List ℕ
list_text kind first [] = []
list_text kind first (r ∷ rs) = lead_of kind first ++ range_text kind r.rowids ++ list_text kind false rs

-- how many more there are, after some or none
abbrev pub and_more : Bool → ℕ → List ℕ
and_more some n = if n == 0 then [] else (if some then codes " and " else []) ++ decimal (counted n) ++ codes " more"

-- all rows of a table are within such a range
abbrev pub is_all : RowRange → Bool
is_all r = is_none r.rowids.above && is_none r.rowids.up_to

-- these ranges, ten at most, and how many more there are
abbrev pub ranges_text : RowsKind → List RowRange → ℕ → List ℕ
ranges_text kind rs others =
    if list_any is_all rs then codes "all rows" else list_text kind true (take 10 rs) ++ and_more (not (length rs == 0)) ((length rs - 10) + others)

-- the line of what is said of some rows, if there are any
abbrev pub rows_line : RowsKind → List RowRange → ℕ → List ℕ
rows_line kind rs others =
    if (length rs == 0) && (others == 0) then [] else codes "        " ++ words_of kind ++ ranges_text kind rs others ++ line_feed ∷ []

-- that of start k and a kind, by the faults of a file
abbrev pub kind_line : List TracedFault → ℕ → RowsKind → List ℕ
kind_line ts k kind = rows_line kind (shown_ranges ts k kind) (other_ranges ts k kind)

-- the lines of start k
abbrev pub rows_text : List TracedFault → ℕ → List ℕ
rows_text ts k = kind_line ts k NotReached ++ kind_line ts k OnFaulty ++ kind_line ts k CutShort
