use Rattle.std.proofs.Common.{◌≡◌, get_or}
use Rattle.dbformat.specs.Coverage.{freeblocks}
use Rattle.dbpage.proofs.Overlaps.{no_span}
use Rattle.dbpage.proofs.view.PageView.item_offset.Given as goal

abbrev pub invariant-loop-freeblock : goal.invariant-loop-freeblock
invariant-loop-freeblock l = get_or (freeblocks l.self) l.number no_span ≡ get_or l.freeblock-iterator.left l.left no_span
