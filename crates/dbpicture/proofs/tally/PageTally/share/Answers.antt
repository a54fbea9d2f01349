use Rattle.std.proofs.Common.{ap, ap₂, ◌∙◌}
use Rattle.std.specs.Option.{unwrap_or}
use Rattle.std.proofs.lemmas.Option.{unwrap_or-slice_get}
use Rattle.dbpicture.specs.Owners.{no_share}
use Rattle.dbpicture.specs.Tallies.{share_at}
use Rattle.dbpicture.proofs.tally.PageTally.share.Goals as goal

pub returns : goal.returns
returns g c =
    let none = c.default.ensures in
    c.unwrap_or.ensures ∙ ap₂ unwrap_or c.get.ensures (λ i. record { pages = none.0 i; overflow = none.1 i })
    ∙ unwrap_or-slice_get c.self.inside.starts c.args.start no_share ∙ ap (λ t. share_at t.starts c.args.start) c.self.view_is
