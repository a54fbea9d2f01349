use Rattle.std.proofs.Common.{codes}
use Rattle.clap.specs.Words.{App, new_app, with_rule}
use Rattle.dbcli.specs.CommandLine.{flag_rule, stat_flags}
use Rattle.dbcli.proofs.Adding.{one_more}
use Rattle.dbcli.proofs.arguments.stat_command.Goals as goal

pub returns : goal.returns
returns c =
    let app : App = new_app (codes "stat") in
    let first = one_more c.described.result c.flag_arg.result c.in_ok-arg.field-0 app (flag_rule (codes "aggregate"))
    (c.described.ensures.app, c.described.ensures.local) c.flag_arg.ensures.rule c.flag_arg.ensures.local c.in_ok-arg.ensures in
    let both = one_more c.in_ok-arg.field-0 c.flag_arg-2.result c.in_ok-command.command (with_rule app (flag_rule (codes "aggregate")))
    (flag_rule (codes "all")) first c.flag_arg-2.ensures.rule c.flag_arg-2.ensures.local c.in_ok-command.ensures in
    c.with_file.ensures stat_flags both.0 both.1
