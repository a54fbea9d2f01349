-- Which findings are rows, and which show that the schema has one.
use Rattle.std.specs.Prelude.{Bool, false, not, ◌&&◌, ◌==◌, List, filter_map, Option, Some, None}
use Rattle.dbformat.specs.Address.{schema_start}
use Rattle.dbformat.specs.Head.{is_interior}
use Rattle.dbformat.specs.Rows.{StatRow}
use Rattle.dbformat.specs.declared.PageType.{PageType}
use Rattle.dbformat.specs.declared.PageType.TheVariants.{Tree}
use Rattle.dbtrace.specs.Finding.{Finding, reported_row, reported_fault}

-- the row of a finding, if it is one
abbrev pub found_row : Finding → Option StatRow
found_row (reported_row r) = Some r
found_row (reported_fault f why) = None

-- the rows among findings
abbrev pub found_rows : List Finding → List StatRow
found_rows items = filter_map found_row items

-- whether an undamaged page is a leaf
abbrev pub is_leaf : PageType → Bool
is_leaf (Tree kind) = not (is_interior kind)
is_leaf _ = false

-- whether a row of the statistics is of a leaf of the schema with a cell
abbrev pub is_schema_leaf : StatRow → Bool
is_schema_leaf r = (r.start == schema_start) && is_leaf r.pagetype && not (r.counts.ncell == 0)

-- whether a finding is such a row
abbrev pub is_schema_row : Finding → Bool
is_schema_row (reported_row r) = is_schema_leaf r
is_schema_row (reported_fault f why) = false
