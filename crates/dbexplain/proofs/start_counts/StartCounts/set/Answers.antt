use Rattle.std.proofs.Common.{sym, ap, ap₂, ◌∙◌}
use Rattle.std.specs.Prelude.{slice_set}
use Rattle.std.proofs.lemmas.List.{set-set}
use Rattle.dbexplain.proofs.start_counts.StartCounts.set.Goals as goal

pub returns-then-start-self : goal.returns-then-start-self
returns-then-start-self g c =
    let t = c.self.inside in
    sym (set-set t.others t.start t.counts c.args.counts)
    ∙ ap₂ (λ w k. slice_set w k c.args.counts) c.self.view_is (sym c.if-start-self.true)
