use Rattle.std.proofs.Common.{◌≡◌, ◌+◌, ◌++◌, List, length}
use Rattle.dbformat.specs.Head.{content_start}
use Rattle.dbformat.specs.Cell.{count}
use Rattle.dbformat.specs.Coverage.{Span, freeblocks}
use Rattle.dbpage.specs.Marking.{AreMarked, cell_spans}
use Rattle.dbpage.proofs.held_bytes.mark_freeblocks.Given as goal

abbrev pub invariant-loop-freeblock : goal.invariant-loop-freeblock
invariant-loop-freeblock g l = record {
  done : List Span;
  whole : done ++ l.freeblock-iterator.left ≡ freeblocks l.view;
  marked : AreMarked (cell_spans l.view ++ done) (content_start l.view.number l.view.bytes) l.view.usable l.table l.all;
  number : l.item ≡ count l.view + length done;
  counted : l.mark_count + l.fn.held ≡ l.fn.mark_count + l.all;
}

abbrev pub decreases-loop-freeblock : goal.decreases-loop-freeblock
decreases-loop-freeblock g l = length l.freeblock-iterator.left
