use Rattle.std.proofs.Common.{rules, ◌≡◌, ◌&&◌, ◌==◌, length, ap, ◌∙◌, refl, subst}
use Rattle.dbwalk.proofs.Common.{cell_faults, reported_by, inner_cause, IsReportedTo, is_none}
use Rattle.dbwalk.proofs.Pages.PageReportings.{inner_found, inner_reported, faults_then}
use Rattle.dbwalk.proofs.page.report_inner.Goals as goal

pub returns : goal.returns
returns g c =
    let v = c.args.view.now in
    let cause = c.cause_within-cause.result in
    let good = c.report_cells-are_cells_good.ensures.good in
    let none : c.is_none.result ≡ is_none c.freeblock_fault-freeblock.result = search rules in
    subst (λ L. IsReportedTo g.K.Sink.takes g.K.Sink.held c.args.sink.now L c.report_each.new.sink)
    (ap (reported_by (inner_cause cause)) (inner_found v c.args.is_child (c.report_cells-are_cells_good.result && c.is_none.result) c.fragment_fault.result
    c.freeblock_fault-freeblock.result c.coverage_fault-coverage.result c.empty_fault-empty.result (cell_faults v) refl
    c.fragment_fault.ensures c.freeblock_fault-freeblock.ensures c.coverage_fault-coverage.ensures c.empty_fault-empty.ensures
    (ap (λ x. x && c.is_none.result) good ∙ ap (λ x. (length (cell_faults v) == 0) && x) none))
    ∙ inner_reported c.args.place.now.rowids v c.args.place.now.page c.args.is_child c.requires.number cause c.cause_within-cause.ensures)
    (faults_then (inner_cause cause) _ _ c.report_found.ensures
    (faults_then (inner_cause cause) (cell_faults v) _ c.report_cells-are_cells_good.ensures.reported c.report_each.ensures))
