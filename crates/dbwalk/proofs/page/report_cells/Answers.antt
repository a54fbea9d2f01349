use Rattle.std.proofs.Common.{◌==◌, ◌&&◌, length, sym, ap, ◌∙◌, flat_map}
use Rattle.dbwalk.proofs.Common.{cell_fault, inner_cause, range_with_len}
use Rattle.dbwalk.proofs.Pages.PageReportings.{faults_then, faults_more, none_more}
use Rattle.dbwalk.proofs.page.report_cells.Goals as goal

pub loop-i-preserved : goal.loop-i-preserved
loop-i-preserved g c =
    let f = cell_fault c.args.view.now in
    record {
      reported = rw (faults_more f c.loop-i.i) (faults_then (inner_cause c.args.cause.now) (flat_map f (range_with_len 0 c.loop-i.i)) (f c.loop-i.i)
          c.loop-i.invariant.reported c.report_cell-good.ensures.reported);
      good = ap (λ x. x && c.report_cell-good.result) c.loop-i.invariant.good
          ∙ ap (λ x. (length (flat_map f (range_with_len 0 c.loop-i.i)) == 0) && x) c.report_cell-good.ensures.good
          ∙ sym (none_more (flat_map f (range_with_len 0 c.loop-i.i)) (f c.loop-i.i)) ∙ ap (λ fs. length fs == 0) (sym (faults_more f c.loop-i.i));
    }
