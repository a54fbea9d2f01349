use Rattle.dbformat.proofs.Theory
use Rattle.dbformat.proofs.reported_in_order.Goals as goal

pub returns : goal.returns
returns c = record { theory = λ file. Theory.in_the_theory file; reported = λ file. Theory.reported_in_order file }
