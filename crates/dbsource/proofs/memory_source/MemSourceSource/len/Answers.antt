use Rattle.std.proofs.Common.{rules}
use Rattle.dbsource.proofs.memory_source.MemSourceSource.len.Goals as goal

pub returns-clause-number : goal.returns-clause-number
returns-clause-number c = search rules
