use Rattle.std.proofs.Common.{rules}
use Rattle.dbsource.proofs.memory_source.MemSourceSource.read_at.Goals as goal

pub returns-then-copy_range-clause-bytes : goal.returns-then-copy_range-clause-bytes
returns-then-copy_range-clause-bytes c = search rules

pub returns-then-copy_range-clause-inside : goal.returns-then-copy_range-clause-inside
returns-then-copy_range-clause-inside c = search rules
