use Rattle.std.proofs.Common.{◌<◌, length, sym, ap, ap₂, ◌∙◌, arith}
use Rattle.std.specs.Option.{unwrap_or}
use Rattle.std.specs.Prelude.{slice_index_or}
use Rattle.std.proofs.lemmas.Option.{unwrap_or-slice_get}
use Rattle.dbexplain.proofs.Common.{most_starts, no_more, with_kind}
use Rattle.dbexplain.proofs.RangeCounts.{apart_is, other_is}
use Rattle.dbexplain.proofs.range_counts.RangeCounts.get.Goals as goal

pub returns-then-start-self : goal.returns-then-start-self
unfolding most_starts
returns-then-start-self g c =
    let t = c.self.inside in
    let zero = c.default.ensures in
    let within : t.start < length t.others = omega (arith, c.self.invariant.start, c.self.invariant.long) in
    c.with_kind.ensures ∙ ap (with_kind t.kind t.count) (c.unwrap_or-count.ensures
    ∙ ap₂ unwrap_or c.get.ensures (λ i. record { not_reached = zero.0 i; on_faulty = zero.1.0 i; cut_short = zero.1.1 i })
    ∙ unwrap_or-slice_get t.others c.args.start no_more ∙ ap (λ k. slice_index_or t.others k no_more) c.if-start-self.true)
    ∙ apart_is t.others t.start t.kind t.count within
    ∙ ap₂ (λ w k. slice_index_or w k no_more) c.self.view_is (sym c.if-start-self.true)

pub returns-else-start-self : goal.returns-else-start-self
returns-else-start-self g c =
    let t = c.self.inside in
    let zero = c.default.ensures in
    c.unwrap_or-count.ensures
    ∙ ap₂ unwrap_or c.get.ensures (λ i. record { not_reached = zero.0 i; on_faulty = zero.1.0 i; cut_short = zero.1.1 i })
    ∙ unwrap_or-slice_get t.others c.args.start no_more
    ∙ other_is t.others t.start t.kind t.count c.args.start c.if-start-self.false
    ∙ ap (λ w. slice_index_or w c.args.start no_more) c.self.view_is
