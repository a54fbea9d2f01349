use Rattle.std.proofs.Common.{ap, ap₂, ◌∙◌}
use Rattle.std.specs.Option.{unwrap_or}
use Rattle.std.proofs.lemmas.Option.{unwrap_or-slice_get}
use Rattle.dbexplain.specs.Tallies.{count_at, no_count}
use Rattle.dbexplain.proofs.tally.Tally.start.Goals as goal

pub returns : goal.returns
returns g c =
    let zero = c.default.ensures in
    c.unwrap_or.ensures ∙ ap₂ unwrap_or c.get.ensures (λ i. record { faults = zero.0 i; reached = zero.1.0 i; faulty = zero.1.1 i })
    ∙ unwrap_or-slice_get c.self.inside.starts c.args.start no_count ∙ ap (λ t. count_at t c.args.start) c.self.view_is
