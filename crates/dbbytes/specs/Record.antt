-- Records, byte by byte.
use Rattle.std.specs.Prelude.{ℕ, ◌+◌, ◌-◌, Bool, ◌&&◌, List, [], ◌∷◌, ◌++◌, length, take, drop, Option, Some, None, Result, Err, sum, nat_le, ◌==◌}
use Rattle.std.specs.Prelude.{if◌then◌else◌}
use Rattle.dbformat.specs.Options.{◌>>=◌}
use Rattle.dbformat.specs.Record.{Value, serial_lens, varints, values}
use Rattle.dbbytes.specs.Varint.{varint_from}
use Rattle.dbformat.specs.SchemaRow.{SchemaRow, row_of_values}
use Rattle.dbformat.specs.declared.Encoding.{Encoding}
use Rattle.dbformat.specs.declared.RowFault.{RowFault}
use Rattle.dbformat.specs.declared.RowFault.TheVariants.{Malformed}
use Rattle.dbbytes.specs.declared.record_header.HeaderProgress.{HeaderProgress}
use Rattle.dbbytes.specs.declared.record_header.HeaderProgress.TheVariants as progress

-- the lengths of the values of these types, if they add up to `bodies`
abbrev pub body_lens : List ℕ → ℕ → Option (List ℕ)
body_lens types bodies = do
  lens ← serial_lens types
  if sum lens == bodies then Some lens else None

-- the values of these types, whose bodies have `bodies` bytes in all
abbrev pub body_values : List ℕ → ℕ → List ℕ → Option (List Value)
body_values types bodies bytes = do
  lens ← body_lens types bodies
  Some (values types lens bytes)

-- a varint that goes on with these bytes, and `others` more after it
abbrev pub numbers_from : ℕ → ℕ → ℕ → List ℕ → Option (List ℕ)
numbers_from n value others bytes = do
  first ← varint_from n value bytes
  rest ← varints others first.2
  Some (first.0 ∷ rest)

-- The values of a record: how many bytes of its header are left, how many bytes its bodies have, its types so far, and
-- how many types follow the one that is being read.
unfoldable pub values_from : ℕ → ℕ → List ℕ → ℕ → ℕ → ℕ → List ℕ → Option (List Value)
values_from left bodies types others n value bytes =
    if nat_le left (length bytes) then (do
      rest ← numbers_from n value others (take left bytes)
      body_values (types ++ rest) bodies (drop left bytes)) else None

-- the values of a record of `size` bytes; the size of its header goes on with these bytes
unfoldable pub sized_values : ℕ → ℕ → ℕ → List ℕ → Option (List Value)
sized_values size n value bytes = do
  first ← varint_from n value bytes
  if nat_le first.1 first.0 && nat_le first.0 size then values_from (first.0 - first.1) (size - first.0) [] 4 0 0 first.2 else None

-- the same, where the number that was being read has ended, with this value
unfoldable pub values_with : ℕ → ℕ → List ℕ → ℕ → ℕ → List ℕ → Option (List Value)
values_with left bodies types others value bytes =
    if nat_le left (length bytes) then (do
      rest ← varints others (take left bytes)
      body_values (types ++ value ∷ rest) bodies (drop left bytes)) else None

-- the row of the values, where as many bytes come as there should
abbrev pub row_by : Encoding → Bool → Option (List Value) → Result SchemaRow RowFault
row_by e complete values = if complete then row_of_values e values else Err Malformed

-- the row where a byte of the header led so far, and these bytes follow
abbrev pub progress_row : Encoding → HeaderProgress → List ℕ → Result SchemaRow RowFault
progress_row e (progress.Size size number) bytes = row_by e (number.length + length bytes == size) (sized_values size number.length number.value bytes)
progress_row e (progress.Types header) bytes = row_by e (length bytes == header.left + header.bodies)
    (values_from header.left header.bodies (take header.count header.types) (4 - header.count) header.number.length header.number.value bytes)
progress_row e (progress.Whole types bodies) bytes = row_by e (length bytes == bodies) (body_values types bodies bytes)
progress_row e progress.Malformed bytes = Err Malformed
