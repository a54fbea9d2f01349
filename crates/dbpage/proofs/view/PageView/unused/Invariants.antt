use Rattle.std.proofs.Common.{◌≡◌, ◌+◌, sum_by}
use Rattle.dbformat.specs.Coverage.{unused}
use Rattle.dbpage.proofs.view.PageView.unused.Given as goal

abbrev pub invariant-loop-freeblock : goal.invariant-loop-freeblock
invariant-loop-freeblock l = l.total + sum_by (λ f. f.len) l.freeblock-iterator.left ≡ unused l.self
