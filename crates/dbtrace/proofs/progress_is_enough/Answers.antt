use Rattle.dbtrace.proofs.Folding.{is_fold}
use Rattle.dbtrace.proofs.progress_is_enough.Goals as goal

pub returns : goal.returns
returns c file = is_fold file
