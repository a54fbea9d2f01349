use Rattle.std.proofs.Common.{rules}
use Rattle.dbsource.proofs.Lines.{begun_all, begun_behind}
use Rattle.dbsource.proofs.buffered_out.begun_at.Goals as goal

pub returns-in-Some-clause-line : goal.returns-in-Some-clause-line
returns-in-Some-clause-line c = begun_behind c.args.bytes.now c.in-Some.at (search rules) (search rules) (search rules)

pub returns-in-None-clause-line : goal.returns-in-None-clause-line
returns-in-None-clause-line c = begun_all c.args.bytes.now (search rules)
