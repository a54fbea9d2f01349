use Rattle.std.proofs.Common.{take}
use Rattle.dbwalk.proofs.Common.{reported_by, inner_cause, IsReportedTo}
use Rattle.std.specs.List.{flat_map}
use Rattle.std.specs.Option.{option_to_list}
use Rattle.dbwalk.proofs.page.report_each.Given as goal

abbrev pub invariant-loop-found : goal.invariant-loop-found
invariant-loop-found g l = IsReportedTo g.K.Sink.takes g.K.Sink.held l.initial.sink
    (reported_by (inner_cause l.cause) (flat_map option_to_list (take l.found-index l.faults))) l.sink
