-- What the row of a tree adds up.
use Rattle.std.specs.Prelude.{List, length, map}
use Rattle.dbformat.specs.Lines.{counted, total_counts}
use Rattle.dbformat.specs.Rows.{StatRow}
use Rattle.dbreport.specs.declared.statistics.sums.Sums.{Sums}

-- the number of rows, which stops at the greatest number of 64 bits, and the sums of what they count
abbrev pub sums_of : List StatRow → Sums
sums_of rows = record { pages = counted (length rows); counts = total_counts (map (λ row. row.counts) rows) }
