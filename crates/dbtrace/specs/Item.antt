-- What a walk hands out at an event: rows of the statistics, faults, and rows of the schema, in one order.
use Rattle.std.specs.Prelude.{ℕ, ◌+◌, List, [], ◌∷◌, ◌++◌, map, length, filter_map, flat_map, option_to_list, Option, Some, None, nat_le}
use Rattle.std.specs.Result.{result_ok}
use Rattle.dbformat.specs.Address.{last_root_start}
use Rattle.dbformat.specs.Reference.{Reference}
use Rattle.dbformat.specs.Schema.{SchemaCell, rooted_rows}
use Rattle.dbformat.specs.SchemaRow.{SchemaRow}
use Rattle.dbformat.specs.PageFaults.{page_faults}
use Rattle.dbformat.specs.KeyFaults.{key_of, row_faults_if}
use Rattle.dbformat.specs.ReferenceFaults.{reference_faults}
use Rattle.dbformat.specs.Story.{Event, at_page, at_key, at_refused}
use Rattle.dbformat.specs.Laws.{event_row}
use Rattle.dbformat.specs.declared.Fault.{Fault}
use Rattle.dbtrace.specs.Finding.{Finding, reported_row, reported_alone, reported_by}
use Rattle.dbtrace.specs.Progress.{Progress, cause_by, depth_faults, late_faults, rows_of}

-- A finding for the report, or a row of the schema. What is reported of a row is by what its taker answers.
pub data Item : Type 0 where
  found : Finding → Item
  given : SchemaCell → Item

abbrev pub given_cell : Item → Option SchemaCell
given_cell (found f) = None
given_cell (given c) = Some c

-- the rows of the schema among the items
abbrev pub given_cells : List Item → List SchemaCell
given_cells items = filter_map given_cell items

-- the rows that can be read
abbrev pub readable : List SchemaCell → List SchemaRow
readable rows = filter_map (λ c. result_ok c.row) rows

-- how many of the rows have a root page
abbrev pub roots_in : List Item → ℕ
roots_in items = length (rooted_rows (given_cells items))

-- What the definitions report of items, where this many rows with a root page came before: the faults of a row are by how many
-- came before it.
abbrev pub counted_findings : ℕ → List Item → List Finding
counted_findings roots [] = []
counted_findings roots (found f ∷ items) = f ∷ counted_findings roots items
counted_findings roots (given c ∷ items) = map reported_alone (row_faults_if (nat_le last_root_start roots) c)
    ++ counted_findings (roots + length (rooted_rows (c ∷ []))) items

-- The faults of an event by the progress so far, where U has the visits up to it, but for those of a row of the schema. Those
-- of a page for itself are those that it has where no other page was visited.
abbrev pub faults_at : List ℕ → List Reference → Progress → Event → List Fault
faults_at file U p (at_page r) = page_faults file [] r ++ depth_faults file p.leaf r
faults_at file U p (at_key r v cell) = flat_map (late_faults p.greatest) (key_of r v cell)
faults_at file U p (at_refused r) = reference_faults file U r

-- the row of the schema that it gives
abbrev pub rows_at_event : List ℕ → List Reference → Event → List SchemaCell
rows_at_event file U (at_page r) = []
rows_at_event file U (at_key r v cell) = rows_of file U r v cell
rows_at_event file U (at_refused r) = []

-- the items of an event: the row of the schema comes first
abbrev pub items_at : List ℕ → List Reference → Progress → Event → List Item
items_at file U p event = map given (rows_at_event file U event)
    ++ map found (map reported_row (option_to_list (event_row file event)) ++ reported_by (cause_by file U p event) (faults_at file U p event))
