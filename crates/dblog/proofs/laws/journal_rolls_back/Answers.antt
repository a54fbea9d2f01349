use Rattle.dblog.proofs.RolledBack.{journal_rolls_back}
use Rattle.dblog.proofs.laws.journal_rolls_back.Goals as goal

pub returns : goal.returns
returns c = journal_rolls_back
