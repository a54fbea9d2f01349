use Rattle.std.proofs.Common.{◌≡◌, true, sym, ◌∙◌}
use Rattle.std.specs.Str.{is_utf8}
use Rattle.dbformat.specs.Text.{is_well_formed}
use Rattle.dbbytes.proofs.UnitLemmas.{utf8_test}
use Rattle.dbbytes.proofs.plain.plain_name_text.Goals as goal

pub unwrap-requires : goal.unwrap-requires
unwrap-requires g c =
    let same : is_well_formed c.args.encoding c.args.name.now ≡ true = sym c.is_well_formed.ensures ∙ c.if-not-is_well_formed.false in
    let text : is_utf8 c.args.name.now ≡ true = rw c.in-Utf8.is at same in
    utf8_test _ _ c.from_utf8.result c.args.name.now c.from_utf8.ensures.cases ∙ text
