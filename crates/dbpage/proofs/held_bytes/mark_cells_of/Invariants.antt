use Rattle.std.proofs.Common.{◌≡◌, ◌+◌}
use Rattle.dbformat.specs.Head.{content_start}
use Rattle.dbpage.specs.Marking.{AreMarked, cells_upto}
use Rattle.dbpage.proofs.held_bytes.mark_cells_of.Given as goal

abbrev pub invariant-loop-i : goal.invariant-loop-i
invariant-loop-i g l = record {
  marked : AreMarked (cells_upto l.view l.i) (content_start l.view.number l.view.bytes) l.view.usable l.table l.held;
  counted : l.mark_count ≡ l.fn.mark_count + l.held;
}
