use Rattle.dbscan.proofs.Common.{rules}
use Rattle.dbscan.proofs.end_faults.use_fault.Goals as goal

pub returns-after-stored-own : goal.returns-after-stored-own
returns-after-stored-own c = search rules
