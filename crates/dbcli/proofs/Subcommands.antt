-- The subcommand that a parse met.
use Rattle.std.proofs.Common.{◌≡◌, ◌∙◌, ◌⊎◌, inl, inr, ℕ, List, [], Option, Some, None, Result, Ok, Err, refl, sym, ap, subst, true, codes, slice_index, arith}
use Rattle.std.specs.Prelude.{IfErr, IfNone, option_map}
use Rattle.std.specs.Result.{IsErrAnd}
use Rattle.std.specs.Box.{box_value}
use Rattle.clap.specs.Words.{HasKind, Row, Text, fault_of, first_of, found_of, is_simple, is_simple_and_free, rows_of}
use Rattle.clap.specs.Words.{subcommand_name_of, subcommand_of, subcommand_rows_of}
use Rattle.clap.specs.declared.parser.matches.ArgMatches.{ArgMatches}
use Rattle.clap.specs.declared.parser.matches.ArgMatches.TheViews.{out-ArgMatches, out-SubCommand}
use Rattle.clap.specs.declared.error.Error.{Error}
use Rattle.clap.specs.declared.error.kind.ErrorKind.{ErrorKind}
use Rattle.clap.specs.declared.error.kind.ErrorKind.TheVariants.{OutOfMemory}
use Rattle.clap.specs.Values.{kind_of}
use Rattle.dbcli.specs.declared.command_line.LineError.{LineError}
use Rattle.dbcli.specs.declared.command_line.LineError.TheVariants.{Words, Limit, With, NotText}
use Rattle.clap.proofs.OnLiterals.{clap_on_literals}
use Rattle.dbcli.specs.CommandLine.{AsksFor, AsksForNone, HasLimit, IsErrorIn, IsErrorOf, IsInRow, IsKindOf, IsLimit, IsLimitOf, SpellsNone, dbck_app, name_of}
use Rattle.dbcli.specs.declared.request.Request.TheVariants.{Report, Explain, Map}
use Rattle.dbcli.specs.declared.task.Task.{Task}
use Rattle.dbcli.specs.declared.task.Task.TheVariants.{Run, Mend}
use Rattle.dbformat.specs.declared.Command.TheVariants.{Check, Stat}

-- a name and rows that were found are those of one subcommand
met_pair : {B N R : Type 0} (f : B → N) (g : B → R) (o : Option B) (n : N) (r : R)
    → option_map f o ≡ Some n → option_map (λ (p : N × R). p.1) (option_map {U = N × R} (λ b. (f b, g b)) o) ≡ Some r
    → option_map {U = N × R} (λ b. (f b, g b)) o ≡ Some (n, r)
met_pair f g None n r h k = cc
met_pair f g (Some b) n r h k = let e : f b ≡ n = cc in let d : g b ≡ r = cc in rw (e, d) refl

-- the subcommand that a parse met, by its name and its rows
pub named_by : (matches : ArgMatches) (name : Text) (rows : List Row) → Some name ≡ subcommand_name_of matches
    → Some rows ≡ option_map (λ (p : Text × List Row). p.1) (subcommand_rows_of matches) → subcommand_rows_of matches ≡ Some (name, rows)
named_by matches name rows named found =
    met_pair (λ b. (out-SubCommand (box_value b)).name.now) (λ b. rows_of (found_of (out-SubCommand (box_value b)).matches))
    (out-ArgMatches matches).subcommand name rows (sym named) (sym found)

-- `clap` says all of this command
pub is_simple_dbck : is_simple dbck_app ≡ true
unfolding clap_on_literals
is_simple_dbck = refl

-- and why it takes no line of it
pub is_free_dbck : is_simple_and_free dbck_app ≡ true
unfolding clap_on_literals
is_free_dbck = refl

-- want of memory, handed on as an error of the line
pub memory_error : {A : Type 0} (r : Result A LineError) (words : List Text)
    → IsErrAnd r (λ error. error ≡ Words OutOfMemory) → IfErr r (λ error. IsErrorOf error words)
memory_error (Ok a) words h = tt
memory_error (Err error) words h = let P : LineError → Type 0 = λ l. IsErrorOf l words in subst P (sym h) (inl refl)

-- an error of the parser, said of the words as they are shown
pub words_error : (error : LineError) (e : Error) (kind : ErrorKind) (words : List Text) → (error ≡ Words kind) ⊎ (error ≡ Words OutOfMemory) → kind ≡ kind_of e
    → HasKind (fault_of dbck_app words) e → IsErrorOf error words
words_error error e kind words (inl h) same k =
    let P : LineError → Type 0 = λ l. IsErrorOf l words in
    let Q : ErrorKind → Type 0 = λ k. IsKindOf k words in
    subst P (sym h) (subst Q (sym same) k)
words_error error e kind words (inr h) same k = let P : LineError → Type 0 = λ l. IsErrorOf l words in subst P (sym h) (inl refl)

-- an error of a subcommand that was met is one of the words
pub error_in_words : (error : LineError) (words : List Text) (met : Option (Text × List Row)) → fault_of dbck_app words ≡ []
    → met ≡ subcommand_of dbck_app words
    → IsErrorIn error met → IsErrorOf error words
error_in_words (Words e) words met taken same h = inl h
error_in_words Limit words met taken same h = (taken, subst AsksForNone same h)
error_in_words (With e) words met taken same h = (taken, subst SpellsNone same h)
error_in_words (NotText number) words met taken same h = h

pub error_is_in_words : {A : Type 0} (r : Result A LineError) (words : List Text) (met : Option (Text × List Row)) → fault_of dbck_app words ≡ []
    → met ≡ subcommand_of dbck_app words → IfErr r (λ error. IsErrorIn error met) → IfErr r (λ error. IsErrorOf error words)
error_is_in_words (Ok a) words met taken same h = tt
error_is_in_words (Err error) words met taken same h = error_in_words error words met taken same h

-- what a subcommand with these rows asks for has its name, and is in these rows
pub asked_of : (met : Option (Text × List Row)) (name : Text) (rows : List Row) (task : Task) (file : Text) → met ≡ Some (name, rows)
    → AsksFor met task file → (name ≡ name_of task) × (first_of (codes "FILE") rows ≡ Some file) × IsLimitOf task rows
asked_of met name rows task file e asks =
    let both : Some (name, rows) ≡ Some (name_of task, asks.rows) = sym e ∙ asks.named in
    let pair : (name, rows) ≡ (name_of task, asks.rows) = cc in
    let same : rows ≡ asks.rows = ap (λ (p : Text × List Row). p.1) pair in
    (ap (λ (p : Text × List Row). p.0) pair, rw same asks.file_given, rw same asks.limit)

-- what follows where there is no value
pub none_more : {T P Q : Type 0} (o : Option T) → IfNone o P → (P → Q) → IfNone o Q
none_more None p f = f p
none_more (Some x) p f = tt

-- names that have another byte at a place are others
other_name : (k : ℕ) (a b name : Text) → name ≡ a → name ≡ b → (slice_index a k ≡ slice_index b k → ⊥) → ⊥
other_name k a b name e named other = other (ap (λ (l : Text). slice_index l k) (sym e ∙ named))

-- a check alone has its name
pub only_checks : (task : Task) (name : Text) (rows : List Row) → name ≡ codes "check"
    → ((limit : ℕ) → IsLimit 1000000 limit → IsInRow limit rows → ⊥) → HasLimit task → name ≡ name_of task → IsLimitOf task rows → ⊥
only_checks (Run (Report (Check limit))) name rows e none range named value = none limit range value
only_checks (Run (Report (Stat aggregate all))) name rows e none range named value =
    other_name 0 (codes "check") (codes "stat") name e named (λ h. absurd (omega (arith, h)))
only_checks (Run (Explain limit)) name rows e none range named value =
    other_name 0 (codes "check") (codes "explain") name e named (λ h. absurd (omega (arith, h)))
only_checks (Run (Map title)) name rows e none range named value =
    other_name 0 (codes "check") (codes "map") name e named (λ h. absurd (omega (arith, h)))
only_checks (Mend limit) name rows e none range named value =
    other_name 0 (codes "check") (codes "mend") name e named (λ h. absurd (omega (arith, h)))

-- and an explanation
pub only_explains : (task : Task) (name : Text) (rows : List Row) → name ≡ codes "explain"
    → ((limit : ℕ) → IsLimit 10000 limit → IsInRow limit rows → ⊥) → HasLimit task → name ≡ name_of task → IsLimitOf task rows → ⊥
only_explains (Run (Explain limit)) name rows e none range named value = none limit range value
only_explains (Run (Report (Check limit))) name rows e none range named value =
    other_name 0 (codes "explain") (codes "check") name e named (λ h. absurd (omega (arith, h)))
only_explains (Run (Report (Stat aggregate all))) name rows e none range named value =
    other_name 0 (codes "explain") (codes "stat") name e named (λ h. absurd (omega (arith, h)))
only_explains (Run (Map title)) name rows e none range named value =
    other_name 0 (codes "explain") (codes "map") name e named (λ h. absurd (omega (arith, h)))
only_explains (Mend limit) name rows e none range named value =
    other_name 0 (codes "explain") (codes "mend") name e named (λ h. absurd (omega (arith, h)))

-- and a mend
pub only_mends : (task : Task) (name : Text) (rows : List Row) → name ≡ codes "mend"
    → ((limit : ℕ) → IsLimit 16 limit → IsInRow limit rows → ⊥) → HasLimit task → name ≡ name_of task → IsLimitOf task rows → ⊥
only_mends (Mend limit) name rows e none range named value = none limit range value
only_mends (Run (Report (Check limit))) name rows e none range named value =
    other_name 0 (codes "mend") (codes "check") name e named (λ h. absurd (omega (arith, h)))
only_mends (Run (Report (Stat aggregate all))) name rows e none range named value =
    other_name 0 (codes "mend") (codes "stat") name e named (λ h. absurd (omega (arith, h)))
only_mends (Run (Explain limit)) name rows e none range named value =
    other_name 0 (codes "mend") (codes "explain") name e named (λ h. absurd (omega (arith, h)))
only_mends (Run (Map title)) name rows e none range named value =
    other_name 1 (codes "mend") (codes "map") name e named (λ h. absurd (omega (arith, h)))

-- a row that is there is not away
pub not_away : (row : Option Text) (text : Text) → row ≡ None → row ≡ Some text → ⊥
not_away row text none some = let bad : None ≡ Some text = sym none ∙ some in cc
