use Rattle.std.proofs.Common.{◌≡◌, ◌==◌, length, flat_map}
use Rattle.dbwalk.proofs.Common.{cell_fault, reported_by, inner_cause, IsReportedTo, range_with_len}
use Rattle.dbwalk.proofs.page.report_cells.Given as goal

abbrev pub invariant-loop-i : goal.invariant-loop-i
invariant-loop-i g l = record {
  reported : IsReportedTo g.K.Sink.takes g.K.Sink.held l.initial.sink
      (reported_by (inner_cause l.cause) (flat_map (cell_fault l.view) (range_with_len 0 l.i))) l.sink;
  good : l.good ≡ (length (flat_map (cell_fault l.view) (range_with_len 0 l.i)) == 0);
}
