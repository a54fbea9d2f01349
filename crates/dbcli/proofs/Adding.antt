-- A command to which an argument is added, where none of its arguments is global.
use Rattle.std.proofs.Common.{◌≡◌, Bool, false, ◌||◌, ap₂, ◌∙◌}
use Rattle.clap.specs.Words.{AddsArg, App, Rule, app_of, rule_of, with_rule}
use Rattle.clap.specs.declared.builder.arg.Arg.{Arg}
use Rattle.clap.specs.declared.builder.command.Command.{Command}
use Rattle.clap.specs.declared.builder.command.Command.TheViews.{out-Command}

-- what a command takes, and that none of its arguments is global
abbrev pub Takes : App → Command → Type 0
Takes app c = (app_of c ≡ app) × ((out-Command c).has_globals ≡ false)

pub one_more : (old : Command) (arg : Arg) (new : Command) (app : App) (rule : Rule) → Takes app old → rule_of arg ≡ rule → arg.global ≡ false
    → AddsArg old arg new → Takes (with_rule app rule) new
one_more old arg new app rule was is local adds =
    (adds.shape local ∙ ap₂ with_rule was.0 is, adds.globals ∙ ap₂ (λ (a b : Bool). a || b) was.1 local)
