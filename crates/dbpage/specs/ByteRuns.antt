-- Runs of one byte, looked at from the last byte on.
use Rattle.std.specs.Prelude.{ℕ, ◌+◌, ◌&&◌, nat_lt, ◌==◌, if◌then◌else◌}
use Rattle.dbformat.specs.declared.ByteRun.{ByteRun}

-- the run that begins with a byte, before the one that begins after it
abbrev pub run_before : ByteRun → ℕ → ℕ → ByteRun
run_before run start byte = record { start = start; len = if nat_lt 0 run.len && (run.byte == byte) then run.len + 1 else 1; byte = byte }
