use Rattle.std.proofs.Common.{◌≡◌, ◌+◌, ◌*◌, ◌≤◌, ◌++◌, List, length}
use Rattle.dbformat.specs.Coverage.{Span, freeblocks}
use Rattle.dbpage.specs.Marking.{cell_spans}
use Rattle.dbpage.specs.Notes.{AreNotedIn}
use Rattle.dbpage.proofs.view.PageView.note_freeblocks.Given as goal

abbrev pub invariant-loop-freeblock : goal.invariant-loop-freeblock
invariant-loop-freeblock l = record {
  done : List Span;
  whole : done ++ l.freeblock-iterator.left ≡ freeblocks l.self;
  noted : AreNotedIn l.self (cell_spans l.self ++ done) l.table l.all;
  few : l.all ≤ l.fn.held + length done * 16384;
}

abbrev pub decreases-loop-freeblock : goal.decreases-loop-freeblock
decreases-loop-freeblock l = length l.freeblock-iterator.left
