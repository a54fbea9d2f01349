use Rattle.dblog.proofs.RolledBack.{both_logs_recover}
use Rattle.dblog.proofs.laws.both_logs_recover.Goals as goal

pub returns : goal.returns
returns c = both_logs_recover
