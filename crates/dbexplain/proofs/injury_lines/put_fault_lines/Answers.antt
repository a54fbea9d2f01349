use Rattle.dblines.proofs.Writing.{wrote_all, wrote_more, wrote_none}
use Rattle.dbformat.specs.Lines.{fault_line}
use Rattle.dbinjuries.specs.declared.injury.Injury.{Injury}
use Rattle.dbexplain.proofs.injury_lines.put_fault_lines.Goals as goal

pub loop-injury-init : goal.loop-injury-init
loop-injury-init g c = wrote_none (λ (e : Injury). fault_line e.first.fault) c.args.injuries.now c.args.writer.now

pub loop-injury-preserved : goal.loop-injury-preserved
loop-injury-preserved g c =
    wrote_more (λ (e : Injury). fault_line e.first.fault) c.args.injuries.now c.loop-injury.injury-index _ c.loop-injury-test.true c.loop-injury.invariant
    c.put_fault.ensures

pub returns : goal.returns
returns g c = wrote_all (λ
    (e : Injury). fault_line e.first.fault) c.args.injuries.now c.loop-injury.injury-index c.loop-injury-test.false c.loop-injury.invariant
