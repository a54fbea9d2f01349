use Rattle.std.proofs.Common.{rules}
use Rattle.dbsource.proofs.memory_out.MemOutOut.put.Goals as goal

pub returns-in-Ok-clause-puts : goal.returns-in-Ok-clause-puts
returns-in-Ok-clause-puts g c = search rules
