use Rattle.std.proofs.Common.{◌∙◌}
use Rattle.dblines.proofs.Writing.{wrote_all, wrote_as, wrote_more, wrote_none}
use Rattle.dbexplain.specs.Summary.{zero_run_line}
use Rattle.dbexplain.proofs.zeros.put_runs.Goals as goal

pub loop-run-init : goal.loop-run-init
loop-run-init g c = wrote_none (zero_run_line c.args.shape.page_size) c.args.runs.now c.args.writer.now

pub loop-run-preserved : goal.loop-run-preserved
loop-run-preserved g c =
    wrote_more (zero_run_line c.args.shape.page_size) c.args.runs.now c.loop-run.run-index _ c.loop-run-test.true c.loop-run.invariant
    (wrote_as (c.as_slice.ensures.value ∙ c.zero_run_line.ensures) c.put.ensures)

pub returns : goal.returns
returns g c = wrote_all (zero_run_line c.args.shape.page_size) c.args.runs.now c.loop-run.run-index c.loop-run-test.false c.loop-run.invariant
