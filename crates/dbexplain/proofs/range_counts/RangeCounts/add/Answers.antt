use Rattle.std.proofs.Common.{◌<◌, length, sym, ap, ap₂, ◌∙◌, arith}
use Rattle.std.specs.Prelude.{slice_set, slice_index_or}
use Rattle.dbexplain.proofs.Common.{most_starts, no_more, with_kind}
use Rattle.dbexplain.specs.KeptRanges.{one_more}
use Rattle.dbexplain.proofs.RangeCounts.{kinds_are, one_apart}
use Rattle.dbexplain.proofs.range_counts.RangeCounts.add.Goals as goal

pub returns-then-same_kind : goal.returns-then-same_kind
unfolding most_starts
returns-then-same_kind g c =
    let t = c.self.inside in
    let within : t.start < length t.others = omega (arith, c.self.invariant.start, c.self.invariant.long) in
    ap (λ n. slice_set t.others t.start (with_kind t.kind n (slice_index_or t.others t.start no_more))) c.saturating_add-self-inside.ensures
    ∙ one_apart t.others t.start t.kind t.count within
    ∙ ap₂ (λ w k. slice_set w k (one_more t.kind (slice_index_or w k no_more))) c.self.view_is (sym c.if-start-self.true)
    ∙ ap (λ kind. slice_set c.args.self.now c.args.start (one_more kind (slice_index_or c.args.self.now c.args.start no_more)))
    (kinds_are c.args.kind t.kind (sym c.same_kind.ensures ∙ c.if-same_kind.true))
