use Rattle.std.proofs.Common.{rules, ◌≡◌, take, sym}
use Rattle.dbsource.proofs.Puts.{puts_then}
use Rattle.dbpicture.specs.Pieces.{ellipsis}
use Rattle.dbpicture.specs.Xml.{escaped}
use Rattle.dbpicture.proofs.Texts.{cut_text}
use Rattle.dbpicture.proofs.shown.put_shown.Goals as goal

pub returns : goal.returns
returns g c =
    let n = c.fitting-fitting.result in
    let cut = cut_text c.as_slice-text.result.now c.args.width n c.fitting-fitting.ensures.fit (search rules) in
    let same : c.as_slice-text.result.now ≡ c.args.shown.now = search rules in
    let dots = rw c.as_bytes.ensures.value at c.put_escaped-3.ensures in
    rw (sym same) (rw cut (puts_then c.put_escaped-3.result (escaped (take n c.as_slice-text.result.now)) (escaped ellipsis) c.in_ok-put_escaped.was
    c.put_escaped-2.ensures dots))
