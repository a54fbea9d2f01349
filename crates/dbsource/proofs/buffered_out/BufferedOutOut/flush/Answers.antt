use Rattle.std.proofs.Common.{arith}
use Rattle.std.proofs.lemmas.Grind.{common_steps}
use Rattle.dbsource.proofs.buffered_out.BufferedOutOut.flush.Goals as goal

pub returns-else-is_err-clause-whole : goal.returns-else-is_err-clause-whole
returns-else-is_err-clause-whole g c = grind (arith, common_steps)

pub returns-else-is_err-clause-flushes : goal.returns-else-is_err-clause-flushes
returns-else-is_err-clause-flushes g c = grind (arith, common_steps)

pub returns-else-is_err-clause-writes : goal.returns-else-is_err-clause-writes
returns-else-is_err-clause-writes g c = grind (arith, common_steps)

pub returns-then-is_err-clause-writes : goal.returns-then-is_err-clause-writes
returns-then-is_err-clause-writes g c = grind (arith, common_steps)
