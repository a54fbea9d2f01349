use Rattle.std.proofs.Common.{◌∙◌}
use Rattle.dbbytes.proofs.UnitLemmas.{utf8_test}
use Rattle.dbbytes.proofs.text.is_well_formed.Goals as goal

pub returns-in-Utf8 : goal.returns-in-Utf8
returns-in-Utf8 c = rw c.in-Utf8.is (c.is_ok.ensures.value ∙ utf8_test _ _ c.from_utf8.result c.args.bytes.now c.from_utf8.ensures.cases)
