use Rattle.std.proofs.Common.{◌≤◌}
use Rattle.dbpicture.specs.Groups.{claims}
use Rattle.dbpicture.proofs.FirstMost.{IsFirst}
use Rattle.dbpicture.proofs.bands.Bands.next.Given as goal

abbrev pub invariant-loop-number : goal.invariant-loop-number
invariant-loop-number l = IsFirst (claims l.shares l.all l.self.heights) l.number l.next l.most × (l.next ≤ 16)
