use Rattle.std.proofs.Common.{ap, ◌∙◌, ◌≡◌, true, codes}
use Rattle.clap.specs.Words.{App, app_of, new_app, with_subcommand}
use Rattle.clap.specs.Simple.{app_of_fields}
use Rattle.dbcli.specs.CommandLine.{check_app, explain_app, map_app, mend_app, stat_app}
use Rattle.dbcli.proofs.arguments.dbck_command.Goals as goal

abbrev versioned : App → App
versioned a = record a { top = record a.top { has_version = true } }

abbrev required : App → App
required a = record a { top = record a.top { subcommand_required = true } }

abbrev after : App → App → App
after sub a = with_subcommand a sub.top

pub returns : goal.returns
returns c =
    let first : app_of c.version.result ≡ versioned (new_app (codes "dbck")) = ap app_of_fields c.version.ensures ∙ ap versioned c.described.ensures.app in
    let top : app_of c.subcommand_required-command.result ≡ required (versioned (new_app (codes "dbck"))) =
    ap app_of_fields c.subcommand_required-command.ensures ∙ ap required first in
    let check = c.in_ok-command.ensures check_app c.check_command.ensures ∙ ap (after check_app) top in
    let explain = c.in_ok-command-2.ensures explain_app c.explain_command.ensures ∙ ap (after explain_app) check in
    let map = c.in_ok-command-3.ensures map_app c.map_command.ensures ∙ ap (after map_app) explain in
    let mend = c.in_ok-command-4.ensures mend_app c.mend_command.ensures ∙ ap (after mend_app) map in
    c.in_ok-with_command.ensures stat_app c.stat_command.ensures ∙ ap (after stat_app) mend
