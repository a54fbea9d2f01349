use Rattle.std.proofs.Common.{ℕ, take, ap, ◌∙◌}
use Rattle.std.specs.List.{flat_map}
use Rattle.dblines.proofs.Writing.{wrote_as, wrote_then}
use Rattle.dbexplain.specs.Summary.{more_zeros_line, zero_run_line}
use Rattle.dbexplain.proofs.zeros.put_zeros.Goals as goal

pub returns : goal.returns
returns g c =
    let lines = flat_map (zero_run_line c.args.shape.page_size) in
    wrote_then (wrote_as (ap (λ (n : ℕ). lines (take n c.args.runs.now.kept)) c.min-shown.ensures) c.put_runs.ensures)
    (wrote_as (c.as_slice.ensures.value ∙ c.more_zeros_line.ensures ∙ ap more_zeros_line c.saturating_sub.ensures) c.put.ensures)
