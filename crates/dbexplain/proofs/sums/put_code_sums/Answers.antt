use Rattle.dblines.proofs.Writing.{wrote_all, wrote_more, wrote_none}
use Rattle.dbexplain.specs.Sums.{code_sum}
use Rattle.dbexplain.proofs.sums.put_code_sums.Goals as goal

pub loop-code-init : goal.loop-code-init
loop-code-init g c = wrote_none (code_sum c.args.tally.now) c.args.codes.now c.args.writer.now

pub loop-code-preserved : goal.loop-code-preserved
loop-code-preserved g c =
    wrote_more (code_sum c.args.tally.now) c.args.codes.now c.loop-code.code-index _ c.loop-code-test.true c.loop-code.invariant c.put_code_sum.ensures

pub returns : goal.returns
returns g c = wrote_all (code_sum c.args.tally.now) c.args.codes.now c.loop-code.code-index c.loop-code-test.false c.loop-code.invariant
