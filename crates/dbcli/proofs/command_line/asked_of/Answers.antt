use Rattle.std.proofs.Common.{Option, Some, None, List, [], ◌≡◌, ◌∙◌, ap, refl, sym, codes}
use Rattle.std.specs.Borrow.{Bor}
use Rattle.std.specs.Prelude.{map, option_map, unwrap_or}
use Rattle.clap.specs.Words.{Text, first_of, found_of, rows_of}
use Rattle.clap.proofs.WalkLemmas.{first_value-rows, raw_values-rows}
use Rattle.dbcli.specs.CommandLine.{change_texts}
use Rattle.dbcli.specs.Spelled.{texts_in}
use Rattle.dbcli.proofs.Subcommands.{asked_of, named_by, not_away}
use Rattle.dbcli.proofs.command_line.asked_of.Goals as goal

pub returns-clause-asks : goal.returns-clause-asks
returns-clause-asks c =
    let rows = rows_of (found_of c.in_ok-name.given.now) in
    let met = named_by c.args.matches.now c.in_ok-name.name.now rows c.in_ok-name.ensures.name c.in_ok-name.ensures.rows in
    record {
      rows = rows;
      named = met ∙ ap (λ (name : Text). Some (name, rows)) c.in_ok-task_of.ensures.named;
      file_given = sym (first_value-rows (found_of c.in_ok-name.given.now) (codes "FILE")) ∙ sym c.in_ok-file.ensures;
      flags = c.in_ok-task_of.ensures.flags;
      limit = c.in_ok-task_of.ensures.value;
      title = c.in_ok-task_of.ensures.title;
    }

pub returns-in_err-file-clause-none : goal.returns-in_err-file-clause-none
returns-in_err-file-clause-none c =
    let rows = rows_of (found_of c.in_ok-name.given.now) in
    let met = named_by c.args.matches.now c.in_ok-name.name.now rows c.in_ok-name.ensures.name c.in_ok-name.ensures.rows in
    let file_row = sym (first_value-rows (found_of c.in_ok-name.given.now) (codes "FILE")) ∙ sym c.in_err-file.ensures in
    rw c.from_residual-in_err-file.ensures (λ task file range asks.
    not_away (first_of (codes "FILE") rows) file file_row (asked_of _ c.in_ok-name.name.now rows task file met asks).1)

pub returns-clause-changes : goal.returns-clause-changes
returns-clause-changes c =
    let rows = rows_of (found_of c.in_ok-name.given.now) in
    let met = named_by c.args.matches.now c.in_ok-name.name.now rows c.in_ok-name.ensures.name c.in_ok-name.ensures.rows in
    in_texts c.get_strs.result ∙ ap (λ (o : Option (List Text)). unwrap_or o [])
    (c.get_strs.ensures ∙ raw_values-rows (found_of c.in_ok-name.given.now) (codes "OFFSET=HEX"))
    ∙ ap change_texts (sym met)
  where
    in_texts : (o : Option (Bor (List (Bor Text))))
        → texts_in o ≡ unwrap_or (option_map (λ (s : Bor (List (Bor Text))). map (λ (w : Bor Text). w.now) s.now) o) []
    in_texts None = refl
    in_texts (Some words) = refl
