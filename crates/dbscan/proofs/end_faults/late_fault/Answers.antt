use Rattle.dbscan.proofs.Common.{rules}
use Rattle.dbscan.proofs.end_faults.late_fault.Goals as goal

pub returns : goal.returns
returns c = search rules
