use Rattle.std.proofs.Common.{codes}
use Rattle.clap.specs.Words.{App, new_app, with_rule}
use Rattle.dbcli.specs.CommandLine.{limit_rule}
use Rattle.dbcli.proofs.Adding.{one_more}
use Rattle.dbcli.proofs.arguments.mend_command.Goals as goal

pub returns : goal.returns
returns c =
    let app : App = new_app (codes "mend") in
    let limited = one_more c.described.result c.limit_arg-limit.result c.in_ok-command.command app (limit_rule 16 (codes "8"))
    (c.described.ensures.app, c.described.ensures.local) c.limit_arg-limit.ensures.rule c.limit_arg-limit.ensures.local c.in_ok-command.ensures in
    c.with_file.ensures (with_rule app (limit_rule 16 (codes "8"))) limited.0 limited.1
