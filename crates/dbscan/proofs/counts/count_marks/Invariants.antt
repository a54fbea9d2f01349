use Rattle.dbscan.proofs.Common.{◌≡◌, ◌≤◌, take, filter, count_by, fold, max, find, is_free_mark, is_root_mark, is_other_mark, is_marked, SinkMoves}
use Rattle.dbscan.proofs.Common.{range_with_len}
use Rattle.dbscan.proofs.PagesReceived.{HasReceivedPages}
use Rattle.dbscan.proofs.counts.count_marks.Given as goal

abbrev pub invariant-loop-index : goal.invariant-loop-index
invariant-loop-index g l = record {
  received : HasReceivedPages g.K.Reporter.receives l.geometry l.marks l.index l.initial.reporter l.reporter;
  moves : SinkMoves (g.K.Reporter.held l.initial.reporter) (g.K.Reporter.held l.reporter);
  free : l.free_pages ≡ count_by is_free_mark (take l.index l.marks);
  most : l.free_pages ≤ l.index;
  greatest : l.greatest_root ≡ fold max 1 (filter (is_marked is_root_mark l.marks) (range_with_len 1 l.index));
  least : l.least_other ≡ find (is_marked is_other_mark l.marks) (range_with_len 1 l.index);
}
