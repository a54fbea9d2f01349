-- Errors of a header as errors of a run, and who failed at an error.
use Rattle.std.specs.Prelude.{Bool, true, false}
use Rattle.dbsource.specs.declared.error.OpenError.{OpenError}
use Rattle.dbsource.specs.declared.error.OpenError.TheVariants as opening
use Rattle.dbsource.specs.declared.error.RunError.{RunError}
use Rattle.dbsource.specs.declared.error.RunError.TheVariants as running

-- the same refusal, or the same failure
abbrev pub run_error : OpenError → RunError
run_error (opening.Refused refusal) = running.Refused refusal
run_error opening.ReadFailed = running.ReadFailed

-- whether the source failed when the header was read
abbrev pub is_open_failed : OpenError → Bool
is_open_failed opening.ReadFailed = true
is_open_failed (opening.Refused refusal) = false

-- whether the source failed in a run
abbrev pub is_read_failed : RunError → Bool
is_read_failed running.ReadFailed = true
is_read_failed _ = false

-- whether an Out failed
abbrev pub is_write_failed : RunError → Bool
is_write_failed running.WriteFailed = true
is_write_failed _ = false

-- whether memory was refused
abbrev pub is_out_of_memory : RunError → Bool
is_out_of_memory running.OutOfMemory = true
is_out_of_memory _ = false
