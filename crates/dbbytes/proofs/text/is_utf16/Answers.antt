use Rattle.std.proofs.Common.{◌≡◌, true, not, length, sym, ap, ◌∙◌, arith, length-drop}
use Rattle.std.specs.Char.Utf16.{has_unpaired_surrogate}
use Rattle.dbbytes.specs.Units.{units}
use Rattle.dbbytes.proofs.ListLemmas.{tail}
use Rattle.dbbytes.proofs.UnitLemmas.{unpaired_first, unpaired_next, unpaired_end, paired_test}
use Rattle.dbbytes.proofs.text.is_utf16.Goals as goal

pub loop-at-preserved : goal.loop-at-preserved
loop-at-preserved c =
    let bytes = c.args.bytes.now in
    let at = c.loop-at.at in
    let char = rw (tail at bytes) at c.in-Some.ensures in
    record {
      within = omega (arith, char.within, length-drop at bytes);
      even = omega (arith, char.even);
      same = unpaired_next c.args.order bytes at c.in-Some.field-0-0 c.in-Some.len char ∙ c.loop-at.invariant.same;
    }

pub returns-in-None : goal.returns-in-None
returns-in-None c =
    let bytes = c.args.bytes.now in
    let first = rw (tail c.loop-at.at bytes) at c.in-None.ensures in
    let lost : has_unpaired_surrogate (units c.args.order bytes) ≡ true = sym c.loop-at.invariant.same ∙ unpaired_first _ _ first in
    sym (paired_test (length bytes) (has_unpaired_surrogate (units c.args.order bytes)) (omega arith) ∙ ap not lost)

pub returns : goal.returns
returns c =
    let bytes = c.args.bytes.now in
    sym (paired_test (length bytes) (has_unpaired_surrogate (units c.args.order bytes)) (omega arith)
    ∙ ap not (unpaired_end c.args.order bytes c.loop-at.at (omega arith) c.loop-at.invariant.same))
