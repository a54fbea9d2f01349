use Rattle.std.proofs.Common.{◌≡◌, ◌+◌, ◌-◌, ◌≤◌}
use Rattle.dbformat.specs.Head.{content_start}
use Rattle.dbpage.specs.Marking.{AreMarked, cells_upto}
use Rattle.dbpage.specs.Packed.{AddUpTo}
use Rattle.dbpage.proofs.PackedLemmas.{keyless_sums}
use Rattle.dbpage.proofs.view.PageView.mark_short_index_cells_in_place.Given as goal

abbrev pub invariant-loop-i : goal.invariant-loop-i
invariant-loop-i g l = record {
  cells : l.cells ≡ l.i;
  from : l.begun.cells ≤ l.i;
  more : l.begun.sums.payload ≤ l.payload;
  read : AddUpTo l.self l.i (keyless_sums l.begun.sums l.payload l.greatest);
  marked : AreMarked (cells_upto l.self l.i) (content_start l.self.number l.self.bytes) l.self.usable l.table
      (l.in_cells + (l.payload - l.begun.sums.payload) + (l.i - l.begun.cells));
}
