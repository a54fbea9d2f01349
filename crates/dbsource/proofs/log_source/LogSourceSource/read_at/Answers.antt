use Rattle.std.proofs.Common.{rules}
use Rattle.dbsource.proofs.log_source.LogSourceSource.read_at.Goals as goal

pub returns-clause-trail : goal.returns-clause-trail
returns-clause-trail c = search rules

pub returns-clause-inside : goal.returns-clause-inside
returns-clause-inside c = search rules
