use Rattle.std.proofs.Common.{true, take, ◌∙◌, subst}
use Rattle.std.specs.Prelude.{filter}
use Rattle.std.proofs.lemmas.List.{take_all}
use Rattle.dbexplain.proofs.Common.{Wrote, is_of, list_text}
use Rattle.dblines.proofs.Writing.{wrote_as, wrote_nothing, wrote_then}
use Rattle.dbexplain.proofs.RowLoops.{ten_next}
use Rattle.dbexplain.proofs.row_lines.put_list.Goals as goal

pub loop-range-init : goal.loop-range-init
loop-range-init g c = record { written = wrote_nothing c.args.writer.now; shown = λ i. 0 }

pub loop-range-preserved : goal.loop-range-preserved
loop-range-preserved g c =
    let k = c.args.start in
    let xs = c.args.ranges.now in
    let i = c.loop-range.range-index in
    record {
      written = wrote_as (ten_next k c.args.kind xs i _ c.loop-range-test.true c.loop-range.shown c.loop-range.invariant.shown).0
          (wrote_then c.loop-range.invariant.written c.put_if-shown.ensures.put);
      shown = c.put_if-shown.ensures.shown
          ∙ (ten_next k c.args.kind xs i _ c.loop-range-test.true c.loop-range.shown c.loop-range.invariant.shown).1;
    }

pub returns : goal.returns
returns g c = subst (λ l. Wrote g.O.Out.held c.args.writer.now (list_text c.args.kind true (take 10 (filter
    (is_of c.args.start c.args.kind) l))) c.loop-range.writer)
    (take_all c.loop-range.range-index c.args.ranges.now c.loop-range-test.false) c.loop-range.invariant.written
