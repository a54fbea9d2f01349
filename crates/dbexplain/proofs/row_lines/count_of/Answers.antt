use Rattle.std.proofs.Common.{◌+◌, length, sym, ap, ◌∙◌, arith}
use Rattle.std.specs.Prelude.{filter}
use Rattle.std.proofs.lemmas.List.{take_all}
use Rattle.dbexplain.specs.Ranges.{is_of}
use Rattle.dbexplain.proofs.RowLoops.{none_counted, one_counted}
use Rattle.dbexplain.proofs.row_lines.count_of.Goals as goal
use Rattle.dbexplain.proofs.row_lines.count_of.Goals.{then-is_of, else-is_of}

pub loop-range-preserved : goal.loop-range-preserved
loop-range-preserved c =
    let xs = c.args.ranges.now in
    let i = c.loop-range.range-index in
    elim c.if-is_of.branch [
      | then-is_of w ↦ record {
        counted = w.count-is ∙ ap (λ n. n + 1) c.loop-range.invariant.counted
            ∙ one_counted c.args.start c.args.kind xs i _ c.loop-range-test.true (sym c.is_of.ensures ∙ w.if-is_of.true);
        most = omega arith;
      }
      | else-is_of w ↦ record {
        counted = w.count-is ∙ c.loop-range.invariant.counted
            ∙ none_counted c.args.start c.args.kind xs i _ c.loop-range-test.true (sym c.is_of.ensures ∙ w.if-is_of.false);
        most = omega arith;
      }
    ]

pub returns : goal.returns
returns c = c.loop-range.invariant.counted ∙ ap (λ l. length (filter (is_of c.args.start c.args.kind) l))
    (take_all c.loop-range.range-index c.args.ranges.now c.loop-range-test.false)
