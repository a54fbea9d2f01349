use Rattle.std.proofs.Common.{◌≤◌, length, sym, ap, ◌∙◌, arith}
use Rattle.std.specs.Prelude.{slice_set, slice_index_or}
use Rattle.dbscan.specs.StartTable.{most_starts}
use Rattle.dbexplain.specs.KeptRanges.{no_more, one_more}
use Rattle.dbexplain.proofs.RangeCounts.{past_all}
use Rattle.dbexplain.proofs.range_counts.RangeCounts.turn_to.Goals as goal

pub returns-else-start-le-FREELIST_START : goal.returns-else-start-le-FREELIST_START
unfolding most_starts
returns-else-start-le-FREELIST_START g c =
    let t = c.self.inside in
    let k = c.args.start in
    let past : length t.others ≤ k = omega (arith, c.self.invariant.long, c.if-start-le-FREELIST_START.false) in
    sym c.self.view_is ∙ past_all t.others t.start t.kind t.count k (one_more c.args.kind (slice_index_or c.args.self.now k no_more)) past
    ∙ ap (λ w. slice_set w k (one_more c.args.kind (slice_index_or c.args.self.now k no_more))) c.self.view_is
