use Rattle.std.proofs.Common.{ap, ◌∙◌}
use Rattle.std.specs.Prelude.{filter}
use Rattle.std.specs.List.{list_any}
use Rattle.std.proofs.lemmas.List.{take_all}
use Rattle.dbexplain.proofs.Common.{is_of, is_all}
use Rattle.dbexplain.proofs.RowLoops.{all_next}
use Rattle.dbexplain.proofs.row_lines.has_all.Goals as goal

pub loop-range-preserved : goal.loop-range-preserved
loop-range-preserved c = all_next c.args.start c.args.kind c.args.ranges.now c.loop-range.range-index _ c.loop-range-test.true _ _
    c.loop-range.invariant c.is_all_of-found.ensures

pub returns : goal.returns
returns c = c.loop-range.invariant ∙ ap (λ l. list_any is_all (filter (is_of c.args.start c.args.kind) l))
    (take_all c.loop-range.range-index c.args.ranges.now c.loop-range-test.false)
