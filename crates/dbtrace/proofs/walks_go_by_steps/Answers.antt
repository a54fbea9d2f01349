use Rattle.dbtrace.proofs.Asides.{are_aside}
use Rattle.dbtrace.proofs.Stepping.{has_steps}
use Rattle.dbtrace.proofs.walks_go_by_steps.Goals as goal

pub returns-clause-steps : goal.returns-clause-steps
returns-clause-steps c file = has_steps file

pub returns-clause-aside : goal.returns-clause-aside
returns-clause-aside c file = are_aside file
