use Rattle.std.proofs.Common.{refl, ◌∙◌}
use Rattle.std.specs.Prelude.{replicate}
use Rattle.dbscan.specs.StartTable.{most_starts}
use Rattle.dbexplain.proofs.Tallies.{nothing_reported}
use Rattle.dbexplain.proofs.tally.Tally.new_in.Goals as goal

pub returns : goal.returns
returns g c =
    let zero = c.default.ensures in
    nothing_reported c.args.geometry.now.pages _ refl refl
    (c.in_ok-starts.ensures ∙ (λ i. replicate most_starts (record { faults = zero.0 i; reached = zero.1.0 i; faulty = zero.1.1 i })))
    refl c.in_ok-pages.ensures.room c.in_ok-pages.ensures.none
