use Rattle.dbformat.specs.PlainNames.{plain_name}
use Rattle.dbformat.specs.declared.Encoding.TheVariants.{Utf8}
use Rattle.dbpicture.proofs.KeptTexts.{kept_is}
use Rattle.dbpicture.proofs.shown.shown_file.Goals as goal

pub returns : goal.returns
returns c =
    kept_is c.plain_name_text.result c.plain_name_text.new.out (plain_name Utf8 c.args.name.now) c.of.result
    (rw (c.new-kept.ensures, c.as_bytes.ensures.value) at c.plain_name_text.ensures) c.of.ensures.bytes c.of.ensures.full c.of.ensures.most
