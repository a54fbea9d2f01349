use Rattle.dblines.proofs.Writing.{of_all, of_then}
use Rattle.dbexplain.proofs.injury_lines.put_injury.Goals as goal

pub returns : goal.returns
returns g c =
    of_then (of_then (of_all c.put_fault.ensures) (of_then c.put_below.ensures c.put_missing.ensures))
    (of_then (of_all c.put_cause.ensures) (of_then c.put_after_cause.ensures (of_all c.put_others.ensures.line)))
