use Rattle.dbscan.proofs.Common.{arith, append_assoc, nat_tests}
use Rattle.dbscan.proofs.end_faults.counted_faults.Goals as goal

pub returns : goal.returns
returns c = grind (arith, nat_tests, append_assoc)
