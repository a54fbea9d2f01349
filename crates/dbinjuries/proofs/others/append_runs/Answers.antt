use Rattle.std.proofs.Common.{◌++◌, ◌∙◌, ap, get_or, arith}
use Rattle.dbinjuries.specs.Kept.{no_run}
use Rattle.dbinjuries.specs.Others.{next_run_text}
use Rattle.dbinjuries.proofs.Belonging.{run_more}
use Rattle.dbinjuries.proofs.others.append_runs.Goals as goal

pub loop-index-preserved : goal.loop-index-preserved
loop-index-preserved g c =
    let runs = c.args.runs.now in
    let i = c.loop-index.index in
    let text =
    c.append_next_run.ensures.text
    ∙ ap (λ w. w ++ next_run_text i (get_or runs i no_run)) c.loop-index.invariant.0 in
    let short = c.append_next_run.ensures.short in
    let before = c.loop-index.invariant.1 in
    (run_more runs c.args.line.now.items _ i c.loop-index-test.true text, omega (arith, short, before))
