use Rattle.std.proofs.Common.{arith, sym, ◌∙◌, length-set}
use Rattle.dbbytes.proofs.BodyLemmas.{lens_from-more, lens_from-all}
use Rattle.dbbytes.proofs.serial.body_lens.Goals as goal

pub loop-i-preserved : goal.loop-i-preserved
loop-i-preserved c = record {
  same = lens_from-more c.loop-i.i c.in_ok-len.len c.loop-i.left c.loop-i.lens c.args.types.now (omega arith) c.loop-i.invariant.five c.told-types
      (sym c.in_ok-len.ensures) (omega arith) ∙ c.loop-i.invariant.same;
  five = length-set c.loop-i.lens c.loop-i.i c.in_ok-len.len ∙ c.loop-i.invariant.five;
}

pub returns-then-left-eq0 : goal.returns-then-left-eq0
returns-then-left-eq0 c =
    rw c.if-left-eq0.true at (sym (lens_from-all c.loop-i.i c.loop-i.left c.loop-i.lens c.args.types.now (omega arith) c.loop-i.invariant.five c.told-types)
    ∙ c.loop-i.invariant.same)
