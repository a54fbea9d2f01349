use Rattle.std.proofs.Common.{◌≡◌}
use Rattle.dbpicture.specs.Tallies.{others}
use Rattle.dbpicture.proofs.tally.PageTally.others.Given as goal

abbrev pub invariant-loop-start : goal.invariant-loop-start
invariant-loop-start g l = (l.count, l.all) ≡ others l.self.starts l.largest l.start
