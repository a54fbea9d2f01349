use Rattle.dbscan.proofs.Common.{arith, append_assoc, header_faults}
use Rattle.dbscan.proofs.header_faults.header_faults.Goals as goal

pub returns : goal.returns
unfolding header_faults
returns c = grind (arith, append_assoc)
