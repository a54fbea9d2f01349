use Rattle.dbscan.proofs.Common.{take, Moves, SinkMoves, items_of}
use Rattle.dbscan.proofs.report.report_all.Given as goal

abbrev pub invariant-loop-fault : goal.invariant-loop-fault
invariant-loop-fault g l = record {
  reported : Moves g.K.Reporter.receives l.initial.reporter (items_of l.part (take l.fault-index l.faults)) l.reporter;
  writes : SinkMoves (g.K.Reporter.held l.initial.reporter) (g.K.Reporter.held l.reporter);
}
