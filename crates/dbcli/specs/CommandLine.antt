-- The command line, as `clap` sees it, and what a line that it takes says.
use Rattle.std.specs.Prelude.{◌≡◌, ◌≤◌, ◌⊎◌, ℕ, pos, Bool, true, false, not, List, [], ◌∷◌, Option, Some, None, codes, unwrap_or, ⊤}
use Rattle.std.specs.Path.{path_file_name}
use Rattle.std.specs.List.{AllZip}
use Rattle.clap.specs.Words.{App, Row, Rule, Text, all_of, first_of, new_app, new_rule, one_of, with_rule, with_subcommand}
use Rattle.clap.specs.Words.{IsAmong, fault_of, subcommand_of}
use Rattle.clap.specs.declared.builder.action.ArgAction.TheVariants.{Append, SetTrue}
use Rattle.clap.specs.declared.error.kind.ErrorKind.{ErrorKind}
use Rattle.clap.specs.declared.error.kind.ErrorKind.TheVariants.{OutOfMemory}
use Rattle.clap.specs.declared.builder.value_parser.ValueParser.TheVariants as parser
use Rattle.dbcli.specs.Spelled.{Spells, SpellsChange}
use Rattle.dbcli.specs.declared.command_line.LineError.{LineError}
use Rattle.dbcli.specs.declared.command_line.LineError.TheVariants.{Words, Limit, With, NotText}
use Rattle.dbcli.specs.declared.request.Request.TheVariants.{Report, Explain, Map}
use Rattle.dbcli.specs.declared.task.Task.{Task}
use Rattle.dbcli.specs.declared.task.Task.TheVariants.{Run, Mend}
use Rattle.dbformat.specs.declared.Command.TheVariants.{Check, Stat}
use Rattle.dbsource.specs.Changes.{AreChanges, Change}

-- the file, which is required
abbrev pub file_rule : Rule
file_rule = record (new_rule (codes "FILE")) { required = true }

-- the limit, from 1 to a greatest one, and a usual one where it is not given
abbrev pub limit_rule : ℕ → Text → Rule
limit_rule most usual = record (new_rule (codes "N")) {
  long = Some (codes "limit");
  parser = Some (parser.Signed (pos 1) (pos most));
  defaults = usual ∷ [];
}

-- a flag, by its name, without a value
abbrev pub flag_rule : Text → Rule
flag_rule name = record (new_rule name) { long = Some name; action = Some SetTrue }

-- the flag that turns progress off
abbrev pub no_progress_rule : Rule
no_progress_rule = flag_rule (codes "no-progress")

-- the changes of the file, each given by an option of its own
abbrev pub changes_rule : Rule
changes_rule = record (new_rule (codes "OFFSET=HEX")) { long = Some (codes "with"); action = Some Append }

-- the flag that has the log of the file read too
abbrev pub recovered_rule : Rule
recovered_rule = flag_rule (codes "recovered")

-- a subcommand with what each has: the log, the changes, the flag that turns progress off, and the file
abbrev pub with_file_rules : App → App
with_file_rules app = with_rule (with_rule (with_rule (with_rule app recovered_rule) changes_rule) no_progress_rule) file_rule

-- a subcommand of this name with a limit, which is 100 where it is not given
abbrev pub limited_app : Text → ℕ → App
limited_app name most = with_file_rules (with_rule (new_app name) (limit_rule most (codes "100")))

-- the subcommands check and explain, with their greatest limits
abbrev pub check_app : App
check_app = limited_app (codes "check") 1000000

abbrev pub explain_app : App
explain_app = limited_app (codes "explain") 10000

-- the subcommand map
abbrev pub map_app : App
map_app = with_file_rules (new_app (codes "map"))

-- the subcommand mend, of at most 16 changes, and of 8 where it is not said
abbrev pub mend_app : App
mend_app = with_file_rules (with_rule (new_app (codes "mend")) (limit_rule 16 (codes "8")))

-- the subcommand stat with its own flags
abbrev pub stat_flags : App
stat_flags = with_rule (with_rule (new_app (codes "stat")) (flag_rule (codes "aggregate"))) (flag_rule (codes "all"))

-- the subcommand stat
abbrev pub stat_app : App
stat_app = with_file_rules stat_flags

abbrev pub top_app : App
top_app = let a = new_app (codes "dbck") in record a { top = record a.top { has_version = true; subcommand_required = true } }

-- `dbck` with the first three of its subcommands
abbrev pub first_app : App
first_app = with_subcommand (with_subcommand (with_subcommand top_app check_app.top) explain_app.top) map_app.top

-- `dbck`, which has a version, and whose subcommand is required
abbrev pub dbck_app : App
dbck_app = with_subcommand (with_subcommand first_app mend_app.top) stat_app.top

-- the subcommand that asks for this
abbrev pub name_of : Task → Text
name_of (Run (Report (Check limit))) = codes "check"
name_of (Run (Report (Stat aggregate all))) = codes "stat"
name_of (Run (Explain limit)) = codes "explain"
name_of (Run (Map name)) = codes "map"
name_of (Mend limit) = codes "mend"

-- a number from 1 to a greatest one
abbrev pub IsLimit : ℕ → ℕ → Type 0
IsLimit most limit = (1 ≤ limit) × (limit ≤ most)

-- a check has a limit from 1 to 1000000, an explanation one from 1 to 10000, and a mend one from 1 to 16
abbrev pub HasLimit : Task → Type 0
HasLimit (Run (Report (Check limit))) = IsLimit 1000000 limit
HasLimit (Run (Report (Stat aggregate all))) = ⊤
HasLimit (Run (Explain limit)) = IsLimit 10000 limit
HasLimit (Run (Map name)) = ⊤
HasLimit (Mend limit) = IsLimit 16 limit

-- a limit is the number that the text of its row spells
abbrev pub IsInRow : ℕ → List Row → Type 0
IsInRow limit rows = (text : Text) × (one_of (codes "N") rows ≡ Some text) × Spells text limit

-- and so for what has a limit
abbrev pub IsLimitOf : Task → List Row → Type 0
IsLimitOf (Run (Report (Check limit))) rows = IsInRow limit rows
IsLimitOf (Run (Report (Stat aggregate all))) rows = ⊤
IsLimitOf (Run (Explain limit)) rows = IsInRow limit rows
IsLimitOf (Run (Map name)) rows = ⊤
IsLimitOf (Mend limit) rows = IsInRow limit rows

-- Whether a flag is set, by the text of its row: a flag that was given has the text `true`, and one that was not `false`.
pub record IsFlag (set : Bool) (name : Text) (rows : List Row) : Type 0 where
  pub given : one_of name rows ≡ Some (codes "true") → set ≡ true
  pub left_out : one_of name rows ≡ Some (codes "false") → set ≡ false
  pub absent : one_of name rows ≡ None → set ≡ false

-- the statistics have the form that the two flags say
abbrev pub HasFlags : Task → List Row → Type 0
HasFlags (Run (Report (Check limit))) rows = ⊤
HasFlags (Run (Explain limit)) rows = ⊤
HasFlags (Run (Map name)) rows = ⊤
HasFlags (Run (Report (Stat aggregate all))) rows = IsFlag aggregate (codes "aggregate") rows × IsFlag all (codes "all") rows
HasFlags (Mend limit) rows = ⊤

-- a picture has the name of its file: the last part of the path, or all of a path that has none
abbrev pub IsNameOf : Task → Text → Type 0
IsNameOf (Run (Report command)) file = ⊤
IsNameOf (Run (Explain limit)) file = ⊤
IsNameOf (Run (Map name)) file = name.now ≡ unwrap_or (path_file_name file) file
IsNameOf (Mend limit) file = ⊤

-- progress is shown unless a flag of the subcommand turns it off
abbrev pub IsProgressOf : Bool → Option (Text × List Row) → Type 0
IsProgressOf shown None = ⊥
IsProgressOf shown (Some (name, rows)) = IsFlag (not shown) (codes "no-progress") rows

-- the log of the file is read if a flag of the subcommand says so
abbrev pub IsRecoveredOf : Bool → Option (Text × List Row) → Type 0
IsRecoveredOf recovered None = ⊥
IsRecoveredOf recovered (Some (name, rows)) = IsFlag recovered (codes "recovered") rows

-- the words in which the changes are given
abbrev pub change_texts : Option (Text × List Row) → List Text
change_texts None = []
change_texts (Some (name, rows)) = unwrap_or (all_of (codes "OFFSET=HEX") rows) []

-- they spell these changes, in their order
abbrev pub AreSpelled : List Change → Option (Text × List Row) → Type 0
AreSpelled changes met = AllZip SpellsChange (change_texts met) changes

-- The subcommand that the words name, with its rows, asks for this of this file.
pub record AsksFor (met : Option (Text × List Row)) (task : Task) (file : Text) : Type 0 where
  pub rows : List Row
  pub named : met ≡ Some (name_of task, rows)
  pub file_given : first_of (codes "FILE") rows ≡ Some file
  pub flags : HasFlags task rows
  pub limit : IsLimitOf task rows
  pub title : IsNameOf task file

-- want of memory, or a kind of fault that `clap` finds in the words
abbrev pub IsKindOf : ErrorKind → List Text → Type 0
IsKindOf kind words = (kind ≡ OutOfMemory) ⊎ IsAmong kind (fault_of dbck_app words)

-- nothing with a limit in range is asked for
abbrev pub AsksForNone : Option (Text × List Row) → Type 0
AsksForNone met = (task : Task) (file : Text) → HasLimit task → AsksFor met task file → ⊥

-- no changes are spelled that are taken: at most 16, of 1 to 16 bytes each, of which no two overlap
abbrev pub SpellsNone : Option (Text × List Row) → Type 0
SpellsNone met = (changes : List Change) → AreChanges changes → AreSpelled changes met → ⊥

-- why a subcommand that was met is not taken, or that there was no memory for the error
abbrev pub IsErrorIn : LineError → Option (Text × List Row) → Type 0
IsErrorIn (Words kind) met = kind ≡ OutOfMemory
IsErrorIn Limit met = AsksForNone met
IsErrorIn (With e) met = SpellsNone met
IsErrorIn (NotText number) met = ⊥

-- Why the words are not taken: one of the kinds of fault that `clap` finds in them, or want of memory. Where it finds
-- none, only words are refused that ask for nothing with a limit in range, or that spell no changes that are taken.
abbrev pub IsErrorOf : LineError → List Text → Type 0
IsErrorOf (Words kind) words = IsKindOf kind words
IsErrorOf Limit words = (fault_of dbck_app words ≡ []) × AsksForNone (subcommand_of dbck_app words)
IsErrorOf (With e) words = (fault_of dbck_app words ≡ []) × SpellsNone (subcommand_of dbck_app words)
IsErrorOf (NotText number) words = ⊥
