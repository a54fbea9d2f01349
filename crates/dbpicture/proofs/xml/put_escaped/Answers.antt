use Rattle.std.proofs.Common.{◌+◌, drop}
use Rattle.std.proofs.lemmas.Result.{err_from_is_err_and}
use Rattle.dbbytes.proofs.NameLemmas.{put_more, put_stop}
use Rattle.dbpicture.specs.Xml.{escaped}
use Rattle.dbpicture.proofs.Escaping.{next_byte}
use Rattle.dbpicture.proofs.xml.put_escaped.Goals as goal

pub returns-in_err-put_byte : goal.returns-in_err-put_byte
returns-in_err-put_byte g c =
    let text = c.args.text.now in
    let i = c.loop-byte.byte-index in
    let p = err_from_is_err_and c.from_residual.result c.from_residual.ensures.1 in
    put_stop _ (escaped (drop (i + 1) text)) c.loop-byte.invariant c.in_err-put_byte.was p.1
    c.put_byte.ensures (next_byte text i _ c.loop-byte-test.true)

pub loop-byte-preserved : goal.loop-byte-preserved
loop-byte-preserved g c =
    let text = c.args.text.now in
    let i = c.loop-byte.byte-index in
    put_more _ (escaped (drop (i + 1) text)) c.loop-byte.invariant c.in_ok-put_byte.was
    c.put_byte.ensures (next_byte text i _ c.loop-byte-test.true)
