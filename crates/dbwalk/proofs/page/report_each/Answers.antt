use Rattle.std.proofs.Common.{◌≡◌, ◌+◌, ◌++◌, arith, take, slice_index_or, None}
use Rattle.dbwalk.proofs.Common.{common_steps}
use Rattle.std.specs.List.{flat_map}
use Rattle.std.specs.Option.{option_to_list}
use Rattle.dbwalk.specs.Found.{inner_cause}
use Rattle.dbwalk.proofs.Pages.PageReportings.{faults_then, reported_nothing}
use Rattle.dbwalk.proofs.page.report_each.Goals as goal

pub loop-found-init : goal.loop-found-init
loop-found-init g c = reported_nothing

pub loop-found-preserved : goal.loop-found-preserved
loop-found-preserved g c =
    let fs = c.args.faults.now in
    let i = c.loop-found.found-index in
    let more : flat_map option_to_list (take (i + 1) fs) ≡ flat_map option_to_list (take i fs) ++ option_to_list (slice_index_or fs i None) =
    grind (arith, common_steps) in
    rw more (faults_then (inner_cause c.args.cause.now) (flat_map option_to_list (take i fs)) (option_to_list (slice_index_or fs i None)) c.loop-found.invariant
    c.report_found.ensures)
