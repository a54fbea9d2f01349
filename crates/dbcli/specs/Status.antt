-- The exit status for each outcome of a run, and for a command line that is not taken.
use Rattle.std.specs.Prelude.{ℕ, Result, Ok, Err}
use Rattle.clap.specs.declared.error.kind.ErrorKind.{ErrorKind}
use Rattle.clap.specs.declared.error.kind.ErrorKind.TheVariants.{DisplayHelp, DisplayVersion, OutOfMemory as NoMemory}
use Rattle.dbformat.specs.Report.{status}
use Rattle.dbformat.specs.declared.Verdict.{Verdict}
use Rattle.dbsource.specs.declared.error.RunError.{RunError}
use Rattle.dbsource.specs.declared.error.RunError.TheVariants.{Refused, ReadFailed, OutOfMemory, WriteFailed}
use Rattle.dbcli.specs.declared.command_line.LineError.{LineError}
use Rattle.dbcli.specs.declared.command_line.LineError.TheVariants.{Words, Limit, With, NotText}

-- the status of a report, and those of the errors that are none
abbrev pub exit_status : Result Verdict RunError → ℕ
exit_status (Ok verdict) = status (Ok verdict)
exit_status (Err (Refused refusal)) = status (Err refusal)
exit_status (Err ReadFailed) = 4
exit_status (Err OutOfMemory) = 5
exit_status (Err WriteFailed) = 6

-- 0 where help or the version was asked for, 5 for want of memory, and else 2
abbrev pub kind_status : ErrorKind → ℕ
kind_status DisplayHelp = 0
kind_status DisplayVersion = 0
kind_status NoMemory = 5
kind_status _ = 2

abbrev pub line_status : LineError → ℕ
line_status (Words kind) = kind_status kind
line_status Limit = 2
line_status (With error) = 2
line_status (NotText number) = 2
