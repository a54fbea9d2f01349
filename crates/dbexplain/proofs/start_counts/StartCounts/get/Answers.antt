use Rattle.std.proofs.Common.{◌≡◌, ◌<◌, List, length, sym, ap, ◌∙◌, arith}
use Rattle.std.specs.Prelude.{slice_get, slice_set}
use Rattle.dbscan.specs.StartTable.{most_starts}
use Rattle.dbscan.proofs.Slots.{get_set, get_set_other}
use Rattle.dbexplain.proofs.start_counts.StartCounts.get.Goals as goal

pub returns-then-start-self : goal.returns-then-start-self
unfolding most_starts
returns-then-start-self g c =
    let t = c.self.inside in
    let within : t.start < length t.others = omega (arith, c.self.invariant.start, c.self.invariant.long) in
    sym (get_set t.others t.start t.counts within) ∙ ap (slice_get (slice_set t.others t.start t.counts)) (sym c.if-start-self.true)
    ∙ ap (λ w. slice_get w c.args.start) c.self.view_is

pub returns-else-start-self : goal.returns-else-start-self
returns-else-start-self g c =
    let t = c.self.inside in
    c.get.ensures ∙ sym (get_set_other t.others t.start c.args.start t.counts c.if-start-self.false)
    ∙ ap (λ w. slice_get w c.args.start) c.self.view_is
