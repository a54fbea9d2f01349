use Rattle.std.proofs.Common.{ap, ap₂, ◌∙◌}
use Rattle.std.specs.Prelude.{codes}
use Rattle.std.specs.List.{flat_map}
use Rattle.dblines.proofs.Writing.{wrote_as, wrote_then}
use Rattle.dbexplain.proofs.Common.{reported_faults, count_text, code_sum, rows_sum}
use Rattle.dbscan.specs.Roots.{Listed}
use Rattle.dbexplain.specs.Summary.{sum_line}
use Rattle.dbexplain.proofs.Summaries.{known_rows, known_summary, known_zeros}
use Rattle.dbexplain.proofs.summary.put_summary.Goals as goal

pub returns : goal.returns
returns g c =
    let t = c.count_pages.new.tally in
    let roots = c.names-names.result.roots.now in
    let all = c.all-all.ensures in record {
      all = _;
      wrote =
          wrote_then (wrote_as (c.as_slice.ensures.value ∙ c.count_text.ensures ∙ ap count_text all) c.put.ensures)
          (wrote_then (wrote_as (ap (flat_map (code_sum t)) c.all.ensures) c.put_code_sums.ensures)
          (wrote_then c.put_start_sums.ensures (wrote_then c.put_start_sum.ensures
          (wrote_then (wrote_as (ap₂ (λ n w. sum_line n w (codes "in the whole file")) all c.whole.ensures) c.put_sum.ensures)
          (wrote_then c.put_zeros.ensures c.put_trees.ensures)))));
      is = λ file V h. (
          let o = h.owners in
          known_summary file V o.survey c.args.owners.now.header.now roots.rows c.names-names.result.encoding t c.geometry-shape.result.page_size
          c.zero_runs.result
          (rows_sum c.args.rows.now.ranges.now c.args.rows.now.indexes.now roots.rows)
          o.header (ap (λ (l : Listed). l.rows) c.names-names.ensures.roots ∙ o.rows) c.names-names.ensures.encoding
          (c.count_pages.ensures file V (reported_faults file V) o h.tally)
          (known_zeros file V c.geometry-shape.result c.args.listing.now.zeros c.zero_runs.result (c.geometry-shape.ensures.shape ∙ o.header.shape)
          h.zeros c.zero_runs.ensures)
          (known_rows file V roots.rows c.args.rows.now.ranges.now c.args.rows.now.indexes.now
          (ap (λ (l : Listed). l.rows) c.names-names.ensures.roots ∙ o.rows) h.ranges h.indexes));
    }
