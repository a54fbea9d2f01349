-- The rows among what a reporter receives.
use Rattle.std.specs.Prelude.{List, filter_map, Option, Some, None}
use Rattle.dbformat.specs.Rows.{StatRow}
use Rattle.dbscan.specs.Notices.{Notice, received_row}

-- the row of a notice, if it is one
abbrev pub row_received : Notice → Option StatRow
row_received (received_row at r) = Some r
row_received _ = None

-- those among notices
abbrev pub rows_received : List Notice → List StatRow
rows_received notices = filter_map row_received notices
