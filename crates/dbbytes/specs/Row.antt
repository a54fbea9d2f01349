-- Borrowed rows, as contracts see them.
use Rattle.std.specs.Prelude.{Result, Ok, Err}
use Rattle.std.specs.Option.{option_copied}
use Rattle.dbformat.specs.SchemaRow as format
use Rattle.dbformat.specs.declared.RowFault.{RowFault}
use Rattle.dbbytes.specs.declared.row.SchemaRow.{SchemaRow}

-- what a row, or the lack of one, says
abbrev pub seen : Result SchemaRow RowFault → Result format.SchemaRow RowFault
seen (Ok row) = Ok (record { kind = row.kind; root = row.root; name = option_copied row.name })
seen (Err fault) = Err fault
