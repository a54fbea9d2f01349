use Rattle.std.proofs.Common.{ap, ◌∙◌, ◌≡◌, sym, subst, map, [], Ok, Err}
use Rattle.std.specs.Prelude.{IfOk}
use Rattle.clap.specs.Words.{HasKind, fault_of, is_simple, is_simple_and_free, subcommand_of}
use Rattle.dbcli.proofs.Subcommands.{error_is_in_words, is_free_dbck, is_simple_dbck, memory_error, words_error}
use Rattle.dbcli.specs.CommandLine.{AreSpelled, AsksFor, IsProgressOf, IsRecoveredOf, dbck_app}
use Rattle.dbcli.proofs.command_line.line_of.Goals as goal

pub returns-in-Ok-clause-asks : goal.returns-in-Ok-clause-asks
returns-in-Ok-clause-asks c =
    let app = c.in_ok-command.ensures in
    let words = map (λ word. word.now) c.args.words.now in
    let met = (c.in-Ok.ensures.matches (ap is_simple app ∙ is_simple_dbck)).1 ∙ ap (λ a. subcommand_of a words) app in
    subst (λ a. IfOk c.line_in.result (λ line. AsksFor a line.task line.file.now)) met c.line_in.ensures.asks

pub returns-in-Ok-clause-progress : goal.returns-in-Ok-clause-progress
returns-in-Ok-clause-progress c =
    let app = c.in_ok-command.ensures in
    let words = map (λ word. word.now) c.args.words.now in
    let met = (c.in-Ok.ensures.matches (ap is_simple app ∙ is_simple_dbck)).1 ∙ ap (λ a. subcommand_of a words) app in
    subst (λ a. IfOk c.line_in.result (λ line. IsProgressOf line.progress a)) met c.line_in.ensures.progress

pub returns-in-Ok-clause-recovered : goal.returns-in-Ok-clause-recovered
returns-in-Ok-clause-recovered c =
    let app = c.in_ok-command.ensures in
    let words = map (λ word. word.now) c.args.words.now in
    let met = (c.in-Ok.ensures.matches (ap is_simple app ∙ is_simple_dbck)).1 ∙ ap (λ a. subcommand_of a words) app in
    subst (λ a. IfOk c.line_in.result (λ line. IsRecoveredOf line.recovered a)) met c.line_in.ensures.recovered

pub returns-in-Ok-clause-changes : goal.returns-in-Ok-clause-changes
returns-in-Ok-clause-changes c =
    let app = c.in_ok-command.ensures in
    let words = map (λ word. word.now) c.args.words.now in
    let met = (c.in-Ok.ensures.matches (ap is_simple app ∙ is_simple_dbck)).1 ∙ ap (λ a. subcommand_of a words) app in
    subst (λ a. IfOk c.line_in.result (λ line. AreSpelled line.changes a)) met c.line_in.ensures.changes

pub returns-in-Ok-clause-limit : goal.returns-in-Ok-clause-limit
returns-in-Ok-clause-limit c = c.line_in.ensures.limit

pub returns-in-Ok-clause-apart : goal.returns-in-Ok-clause-apart
returns-in-Ok-clause-apart c = c.line_in.ensures.apart

pub returns-in-Ok-clause-taken : goal.returns-in-Ok-clause-taken
returns-in-Ok-clause-taken c =
    let app = c.in_ok-command.ensures in
    let words = map (λ word. word.now) c.args.words.now in
    elim c.line_in.result as (λ r. IfOk r (λ line. fault_of dbck_app words ≡ [])) [
      | Ok line ↦ sym (ap (λ a. fault_of a words) app) ∙ c.in-Ok.ensures.kinds (ap is_simple_and_free app ∙ is_free_dbck)
      | Err error ↦ tt
    ]

pub returns-in-Ok-clause-refused : goal.returns-in-Ok-clause-refused
returns-in-Ok-clause-refused c =
    let app = c.in_ok-command.ensures in
    let words = map (λ word. word.now) c.args.words.now in
    let met = (c.in-Ok.ensures.matches (ap is_simple app ∙ is_simple_dbck)).1 ∙ ap (λ a. subcommand_of a words) app in
    error_is_in_words c.line_in.result words _
    (sym (ap (λ a. fault_of a words) app) ∙ c.in-Ok.ensures.kinds (ap is_simple_and_free app ∙ is_free_dbck)) met c.line_in.ensures.refused

pub returns-in_err-command-clause-refused : goal.returns-in_err-command-clause-refused
returns-in_err-command-clause-refused c = memory_error c.from_residual.result (map (λ word. word.now) c.args.words.now) c.from_residual.ensures.1

pub returns-in-Err-clause-refused : goal.returns-in-Err-clause-refused
returns-in-Err-clause-refused c =
    let words = map (λ word. word.now) c.args.words.now in
    let e = c.in-Err.error in
    words_error c.error_of.result e c.kind.result words c.error_of.ensures c.kind.ensures
    (subst (λ a. HasKind (fault_of a words) e) c.in_ok-command.ensures (c.in-Err.ensures.kinds (ap is_simple_and_free c.in_ok-command.ensures ∙ is_free_dbck)))
