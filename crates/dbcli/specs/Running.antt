-- From the words of a command line to an exit status: what was opened, what became of it, and how it was given back.
use Rattle.std.specs.Prelude.{◌≡◌, ◌⊎◌, ℕ, Bool, List, [], Option, Result, Ok, Err}
use Rattle.clap.specs.Words.{Text, fault_of, subcommand_of}
use Rattle.dbsource.specs.Changes.{AreChanges, Change}
use Rattle.dbsource.specs.declared.error.RunError.{RunError}
use Rattle.dbsource.specs.declared.out.Out.{Ghosts as OutWords}
use Rattle.dbsource.specs.declared.source.ReadFailed.{ReadFailed as Unread}
use Rattle.dbsource.specs.declared.source.Source.{Ghosts as SourceWords}
use Rattle.dbcli.specs.Beside.{EndsSo, RunsFiles}
use Rattle.dbcli.specs.CommandLine.{AreSpelled, AsksFor, HasLimit, IsErrorOf, IsRecoveredOf, dbck_app}
use Rattle.dbcli.specs.ErrorLines.{error_line}
use Rattle.dbcli.specs.OpeningFiles.{ClosesFiles, OpensFiles}
use Rattle.dbcli.specs.Status.{exit_status, line_status}
use Rattle.dbcli.specs.declared.command_line.LineError.{LineError}
use Rattle.dbcli.specs.declared.log.Log.{Log}
use Rattle.dbcli.specs.declared.task.Task.{Task}

-- the status of an error of the words, or 6 where they ask for help or the version, which could not be printed
abbrev pub IsErrorStatus : ℕ → LineError → Type 0
IsErrorStatus status error = (status ≡ line_status error) ⊎ ((line_status error ≡ 0) × (status ≡ 6))

module _ {F S O E : Type 0} (opens : F → List ℕ → Result S Unread → F → Type 0)
    (opens_log : F → List ℕ → Log → Result (Option S) RunError → F → Type 0) (closes : F → S → F → Type 0)
    (source : SourceWords S) (out : OutWords O) (err : OutWords E) (finds : List ℕ → Bool → Type 0) where
  -- What was opened was run with these changes, and was given back as that left it: nothing else was asked of it. Or nothing is open.
  abbrev pub RunsOpened : List Change → Task → ℕ → Result (S × Option S × Option S) RunError → F × O × E → F × O × E → Type 0
  RunsOpened changes asked status (Ok opened) old new = (left : S × Option S × Option S)
      × RunsFiles source out err finds changes asked status opened left (old.1, old.2) (new.1, new.2)
      × ClosesFiles opens opens_log closes left old.0 new.0
  RunsOpened changes asked status (Err e) old new =
      (status ≡ exit_status (Err e)) × EndsSo err (error_line e) (old.1, old.2) (new.1, new.2) × (new.0 ≡ old.0)

  -- What became of a line that asks this of the file at this path, with its logs or without, and with these changes.
  pub record RunsLine (recovered : Bool) (changes : List Change) (asked : Task) (path : Text) (status : ℕ) (old new : F × O × E) : Type 0 where
    -- that file was opened, and its logs, if the line asks for them, or could not be, and no other
    pub answer : Result (S × Option S × Option S) RunError
    pub between : F
    pub opened : OpensFiles opens opens_log closes recovered path answer old.0 between
    -- and what was opened was run
    pub ran : RunsOpened changes asked status answer (between, old.1, old.2) new

  -- What became of words that are taken, in which the parser finds no fault: what they ask for, of the file that they name, was run.
  pub record RunsWords (words : List Text) (status : ℕ) (old new : F × O × E) : Type 0 where
    pub taken : fault_of dbck_app words ≡ []
    pub task : Task
    pub file : Text
    pub asked : AsksFor (subcommand_of dbck_app words) task file
    pub limit : HasLimit task
    pub changes : List Change
    pub are_changes : AreChanges changes
    pub spelled : AreSpelled changes (subcommand_of dbck_app words)
    pub recovered : Bool
    pub is_recovered : IsRecoveredOf recovered (subcommand_of dbck_app words)
    pub ran : RunsLine recovered changes task file status old new

  module _ {N : Type 0} (notes : OutWords N) where
    -- What became of words that are not: no file was opened, and nothing was put to an Out or to the notes.
    pub record IsUnrun (old new : F × O × E × N) : Type 0 where
      pub files : new.0 ≡ old.0
      pub first : new.1 ≡ old.1
      pub second : err.held new.2 ≡ err.held old.2
      pub notes_kept : notes.held new.3 ≡ notes.held old.3

    -- And of any words: they were taken; or they have an error, and the status says which.
    abbrev pub AnswersWords : List Text → ℕ → F × O × E × N → F × O × E × N → Type 0
    AnswersWords words status old new =
        RunsWords words status (old.0, old.1, old.2) (new.0, new.1, new.2)
        ⊎ ((error : LineError) × IsErrorOf error words × IsErrorStatus status error × IsUnrun old new)
