use Rattle.dbformat.specs.Head.{content_start}
use Rattle.dbpage.specs.Marking.{AreMarked, cells_upto}
use Rattle.dbpage.specs.Packed.{AddUpTo}
use Rattle.dbpage.proofs.view.PageView.packed_from_marks_of.Given as goal

abbrev pub invariant-loop-i : goal.invariant-loop-i
invariant-loop-i g l = record {
  read : AddUpTo l.self l.i l.sums;
  marked : AreMarked (cells_upto l.self l.i) (content_start l.self.number l.self.bytes) l.self.usable l.table l.held;
}
