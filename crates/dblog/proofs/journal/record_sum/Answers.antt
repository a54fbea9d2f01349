use Rattle.std.proofs.Common.{ap, ◌+◌, ◌%◌, ◌^◌}
use Rattle.dblog.proofs.Adding.{one_more}
use Rattle.dblog.specs.Journal.{with_byte}
use Rattle.dblog.proofs.journal.record_sum.Goals as goal

pub loop-i-preserved : goal.loop-i-preserved
loop-i-preserved c = one_more (with_byte c.args.page.now) c.args.nonce c.loop-i.sum _ c.loop-i.i c.loop-i.invariant
    (ap (λ x. (c.loop-i.sum + x) % 2 ^ 32) c.from-sum.ensures)
