use Rattle.dblog.proofs.BothRuns.{both_are_read}
use Rattle.dblog.proofs.laws.both_are_read.Goals as goal

pub returns : goal.returns
returns g c = both_are_read g.B.Source.step g.L.Source.step g.C.Claim.asks g.C.Claim.holds
