-- Rows as the sink and the taker borrow them.
use Rattle.std.specs.Option.{option_copied}
use Rattle.dbformat.specs.Rows.{StatRow}
use Rattle.dbformat.specs.SchemaRow as format
use Rattle.dbbytes.specs.declared.row.SchemaRow.{SchemaRow}
use Rattle.dbwalk.specs.declared.sink.Row.{Row}

-- a row of the statistics
abbrev pub row_of : Row → StatRow
row_of r = record {
  start = r.start;
  path = r.path.now;
  chain = r.chain;
  page = r.page;
  pagetype = r.pagetype;
  counts = r.counts;
}

-- a row of the schema
abbrev pub schema_row_of : SchemaRow → format.SchemaRow
schema_row_of r = record { kind = r.kind; root = r.root; name = option_copied r.name }
