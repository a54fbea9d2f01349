use Rattle.clap.specs.Words.{found_of, rows_of}
use Rattle.dbcli.proofs.Subcommands.{none_more, only_checks, only_explains, only_mends}
use Rattle.dbcli.proofs.command_line.task_of.Goals as goal

pub returns-in-check-clause-none : goal.returns-in-check-clause-none
returns-in-check-clause-none c = none_more c.check_of.result c.check_of.ensures.none
    (λ none task. only_checks task c.args.name.now (rows_of (found_of c.args.given.now)) c.in-check.is none)

pub returns-in-explain-clause-none : goal.returns-in-explain-clause-none
returns-in-explain-clause-none c = none_more c.explain_of.result c.explain_of.ensures.none
    (λ none task. only_explains task c.args.name.now (rows_of (found_of c.args.given.now)) c.in-explain.is none)

pub returns-in-mend-clause-none : goal.returns-in-mend-clause-none
returns-in-mend-clause-none c = none_more c.mend_of.result c.mend_of.ensures.none
    (λ none task. only_mends task c.args.name.now (rows_of (found_of c.args.given.now)) c.in-mend.is none)
