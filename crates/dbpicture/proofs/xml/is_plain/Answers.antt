use Rattle.dbpicture.proofs.Escaping.{next_plain, none_left}
use Rattle.dbpicture.proofs.xml.is_plain.Goals as goal

pub loop-byte-preserved : goal.loop-byte-preserved
loop-byte-preserved c =
    λ rest. c.loop-byte.invariant (next_plain c.args.text.now c.loop-byte.byte-index _ c.loop-byte-test.true (c.is_markup.ensures c.if-is_markup.false) rest)

pub returns : goal.returns
returns c = λ e. c.loop-byte.invariant (none_left c.args.text.now c.loop-byte.byte-index c.loop-byte-test.false)
