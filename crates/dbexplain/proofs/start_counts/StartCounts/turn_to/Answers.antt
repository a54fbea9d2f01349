use Rattle.std.proofs.Common.{◌≤◌, length, sym, ap, ◌∙◌, arith, length-set}
use Rattle.std.specs.Prelude.{slice_set}
use Rattle.std.proofs.lemmas.List.{set_past}
use Rattle.dbscan.specs.StartTable.{most_starts}
use Rattle.dbexplain.proofs.start_counts.StartCounts.turn_to.Goals as goal

pub returns-else-start-le-FREELIST_START : goal.returns-else-start-le-FREELIST_START
unfolding most_starts
returns-else-start-le-FREELIST_START g c =
    let t = c.self.inside in
    let all = slice_set t.others t.start t.counts in
    let long = length-set t.others t.start t.counts in
    let past : length all ≤ c.args.start = omega (arith, long, c.self.invariant.long, c.if-start-le-FREELIST_START.false) in
    sym c.self.view_is ∙ sym (set_past all c.args.start c.args.counts past)
    ∙ ap (λ w. slice_set w c.args.start c.args.counts) c.self.view_is
