use Rattle.dblines.proofs.Writing.{of_every, of_more, of_none}
use Rattle.dbexplain.specs.Keeping.{kept_injury_text}
use Rattle.dbexplain.proofs.injury_lines.put_injuries.Goals as goal

pub loop-injury-init : goal.loop-injury-init
loop-injury-init g c = of_none kept_injury_text c.args.injuries.now c.args.writer.now

pub loop-injury-preserved : goal.loop-injury-preserved
loop-injury-preserved g c =
    of_more kept_injury_text c.args.injuries.now c.loop-injury.injury-index _ c.loop-injury-test.true c.loop-injury.invariant c.put_injury.ensures

pub returns : goal.returns
returns g c = of_every kept_injury_text c.args.injuries.now c.loop-injury.injury-index c.loop-injury-test.false c.loop-injury.invariant
