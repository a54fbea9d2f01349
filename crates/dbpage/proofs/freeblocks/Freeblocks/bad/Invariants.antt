use Rattle.std.proofs.Common.{◌≡◌, length}
use Rattle.dbpage.proofs.freeblocks.Freeblocks.bad.Given as goal

abbrev pub invariant-loop : goal.invariant-loop
invariant-loop l = l.rest.page ≡ l.self.page

abbrev pub decreases-loop : goal.decreases-loop
decreases-loop l = length l.rest.left
