-- The line of an error, and the one that an exit status leaves on standard error.
use Rattle.std.specs.Prelude.{ℕ, ◌==◌, if◌then◌else◌, List, [], codes, Option, Some, None}
use Rattle.dbformat.specs.declared.Refusal.{Refusal}
use Rattle.dbformat.specs.declared.Refusal.TheVariants.{Short, Magic, PageSize, Usable, NoPage, TooManyPages, MapAtLock}
use Rattle.dbcli.specs.declared.error_lines.Unrun.{Unrun}
use Rattle.dbcli.specs.declared.error_lines.Unrun.TheVariants.{PastEnd, Version, PageSize}
use Rattle.dbsource.specs.declared.error.RunError.{RunError}
use Rattle.dbsource.specs.declared.error.RunError.TheVariants.{Refused, ReadFailed, OutOfMemory, WriteFailed}

-- the line that says why a file is refused
unfoldable pub refusal_line : Refusal → List ℕ
refusal_line Short = codes "dbck: E1 file is shorter than 100 bytes\n"
refusal_line Magic = codes "dbck: E2 file is not a SQLite 3 database\n"
refusal_line PageSize = codes "dbck: E3 page size is not valid\n"
refusal_line Usable = codes "dbck: E4 usable size is below 480\n"
refusal_line NoPage = codes "dbck: E5 file has no whole page\n"
refusal_line TooManyPages = codes "dbck: E6 file has more than 67108864 pages\n"
refusal_line MapAtLock = codes "dbck: E7 pointer map at the lock-byte page\n"

-- the line of any error that ends a run
unfoldable pub error_line : RunError → List ℕ
error_line (Refused refusal) = refusal_line refusal
error_line ReadFailed = codes "dbck: E8 the file cannot be read\n"
error_line OutOfMemory = codes "dbck: E9 out of memory\n"
error_line WriteFailed = codes "dbck: E10 the output cannot be written\n"

-- the line that says why there is no run of a file that was opened: a change is past its end, or its log does not fit it
unfoldable pub unrun_line : Unrun → List ℕ
unrun_line PastEnd = codes "dbck: E11 a byte of --with is past the end of the file\n"
unrun_line Version = codes "dbck: E11 the log does not fit the database\n"
unrun_line PageSize = codes "dbck: E11 the log does not fit the database\n"

-- at 3 the line of the file's refusal
abbrev pub refused_line : Option Refusal → List ℕ
refused_line (Some refusal) = error_line (Refused refusal)
refused_line None = []

-- the line of the error of an exit status, where this is why the file is refused, if it is; and none at a verdict
abbrev pub exit_line : ℕ → Option Refusal → List ℕ
exit_line status why =
    if status == 3 then refused_line why
    else (if status == 4 then error_line ReadFailed
    else (if status == 5 then error_line OutOfMemory
    else (if status == 6 then error_line WriteFailed else [])))
