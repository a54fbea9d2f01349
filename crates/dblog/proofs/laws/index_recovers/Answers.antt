use Rattle.dblog.proofs.Recovery.{index_recovers}
use Rattle.dblog.proofs.laws.index_recovers.Goals as goal

pub returns : goal.returns
returns c = index_recovers
