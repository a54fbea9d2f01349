-- What a sieve says of a row whose last bytes are still to come.
use Rattle.std.specs.Prelude.{◌≡◌, ℕ, List, ◌++◌, length, slice_index, Result, Err, ◌==◌, if◌then◌else◌}
use Rattle.dbformat.specs.Record.{value_of}
use Rattle.dbformat.specs.SchemaRow.{SchemaRow, row_kind, root_number, row_name, checked_row, schema_row}
use Rattle.dbformat.specs.declared.Encoding.{Encoding}
use Rattle.dbformat.specs.declared.RowFault.{RowFault}
use Rattle.dbformat.specs.declared.RowFault.TheVariants.{Malformed}
use Rattle.dbbytes.specs.Record.{progress_row}
use Rattle.dbbytes.specs.Window.{kept}
use Rattle.dbbytes.specs.declared.record_header.HeaderProgress.TheVariants as progress
use Rattle.dbbytes.specs.declared.sieve.RowSieve.{RowSieve}
use Rattle.dbbytes.specs.declared.sieve.Stage.{Stage}
use Rattle.dbbytes.specs.declared.sieve.Stage.TheVariants as stage

-- the row of columns of these types, of whose bodies these bytes are kept
abbrev pub row_of_kept : Encoding → List ℕ → List ℕ → List ℕ → List ℕ → Result SchemaRow RowFault
row_of_kept e types kind name root = checked_row (row_kind e (value_of (slice_index types 0) kind))
    (root_number (value_of (slice_index types 3) root)) (row_name e (value_of (slice_index types 1) name))

-- the row that a stage leads to where these bytes follow, which leave these kept bytes
abbrev pub stage_row : Encoding → Stage → List ℕ → List ℕ → List ℕ → List ℕ → Result SchemaRow RowFault
stage_row e (stage.HeaderSize size number) kind name root more = progress_row e (progress.Size size number) more
stage_row e (stage.SerialTypes header) kind name root more = progress_row e (progress.Types header) more
stage_row e (stage.Bodies left types) kind name root more =
    if length more == left then row_of_kept e types kind name root else Err Malformed
stage_row e stage.Malformed kind name root more = Err Malformed

-- The row that the bytes so far spell with these after them. So `row_after s []` is the row that they spell alone.
unfoldable pub row_after : RowSieve → List ℕ → Result SchemaRow RowFault
row_after s more = stage_row s.encoding s.stage (kept s.kind.gap s.kind.want s.kind.bytes.items more)
    (kept s.name.gap s.name.want s.name.bytes.items more) (kept s.root.gap s.root.want s.root.bytes.items more) more

-- The sieve has taken these bytes of a row of `size` bytes: whatever follows them, it leads to the row of all. A new
-- sieve has taken none, `feed` adds its piece, and `finish` gives the row of what was taken, so that no caller depends
-- on the form of this definition.
pub record HasTaken (sieve : RowSieve) (size : ℕ) (e : Encoding) (bytes : List ℕ) : Type 0 where
  pub tells : (more : List ℕ) → row_after sieve more ≡ schema_row (bytes ++ more) size e
