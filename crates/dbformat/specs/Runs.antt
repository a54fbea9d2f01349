-- Runs of one byte, and the longest one of a page (own).
use Rattle.std.specs.Prelude.{ℕ, ◌+◌, ◌-◌, ◌&&◌, Bool, List, [], ◌∷◌, take, Option, Some, None, slice_range, nat_le, nat_lt, ◌==◌, if◌then◌else◌}
use Rattle.std.specs.List.{list_any, prefix_len, range_with_len}
use Rattle.dbformat.specs.Head.{View, content_start}
use Rattle.dbformat.specs.Cell.{cell_pointer, count}
use Rattle.dbformat.specs.declared.ByteRun.{ByteRun}

-- how many bytes are as the first of them, up to the first other one
abbrev pub run_len : List ℕ → ℕ
run_len [] = 0
run_len (first ∷ bytes) = prefix_len (λ byte. byte == first) bytes + 1

-- the longer of two runs, and of equal ones the first
abbrev pub longer : ByteRun → ByteRun → ByteRun
longer run other = if nat_le other.len run.len then run else other

-- The longest run of one byte, and of equal ones the first, of bytes that begin at this offset: the run that begins there, or a
-- longer one after its first byte.
unfoldable pub longest_run : ℕ → List ℕ → ByteRun
longest_run at [] = record { start = at; len = 0; byte = 0 }
longest_run at (first ∷ bytes) = longer (record { start = at; len = run_len (first ∷ bytes); byte = first }) (longest_run (at + 1) bytes)

-- it is reported if it has 64 bytes or more
abbrev pub long_run : ByteRun → Option ByteRun
long_run run = if nat_le 64 run.len then Some run else None

-- that of the usable bytes of a page
abbrev pub usable_run : ℕ → List ℕ → Option ByteRun
usable_run usable page = long_run (longest_run 0 (take usable page))

-- whether cell i begins in a run: its pointer is in bounds, and leads into the run
abbrev pub begins_in : View → ByteRun → ℕ → Bool
begins_in v run i = let at = cell_pointer v i in
    nat_le (content_start v.number v.bytes) at && nat_le at (v.usable - 4) && nat_le run.start at && nat_lt at (run.start + run.len)

-- where a cell begins in it
abbrev pub run_with_cell : View → ByteRun → Option ByteRun
run_with_cell v run = if list_any (begins_in v run) (range_with_len 0 (count v)) then long_run run else None

-- that of the content area of a page, where a cell begins in it
abbrev pub content_run : View → Option ByteRun
content_run v = run_with_cell v (longest_run (content_start v.number v.bytes) (slice_range v.bytes (content_start v.number v.bytes) v.usable))
