use Rattle.std.proofs.Common.{ap, sym, ◌∙◌, arith}
use Rattle.std.proofs.lemmas.List.{take_rest}
use Rattle.dbpage.proofs.Blanks.{are_all, not_all, same_passed}
use Rattle.dbpage.proofs.looks.are_all.Goals as goal

pub loop-start-preserved : goal.loop-start-preserved
loop-start-preserved c =
    let now = c.loop-start.invariant in
    let start = c.loop-start.start in
    record {
      within = omega arith;
      passed = sym (same_passed c.args.one 32 start c.args.bytes.now (omega arith) c.if-has_other.ensures) ∙ now.passed;
    }

pub returns-then-has_other : goal.returns-then-has_other
returns-then-has_other c = sym (not_all c.args.one c.loop-start.start _ c.args.bytes.now (omega arith) c.if-has_other.ensures)

pub returns : goal.returns
returns c = c.is_each.ensures ∙ ap (are_all c.args.one) (take_rest c.args.bytes.now c.loop-start.start) ∙ c.loop-start.invariant.passed
