use Rattle.std.proofs.Common.{◌++◌, ◌∙◌, ap, get_or, arith}
use Rattle.dbformat.specs.Text.{hex_text}
use Rattle.dblines.proofs.Bytes.{flat_map_more}
use Rattle.dbmend.proofs.texts.append_hex.Goals as goal

pub loop-byte-preserved : goal.loop-byte-preserved
loop-byte-preserved g c =
    let bytes = c.args.bytes.now in
    let i = c.loop-byte.byte-index in
    let text = c.append_byte.ensures.text ∙ ap (λ w. w ++ hex_text 2 (get_or bytes i 0)) c.loop-byte.invariant.0 in
    let long = c.append_byte.ensures.long in
    let before = c.loop-byte.invariant.1 in
    (flat_map_more (hex_text 2) bytes c.args.line.now.items _ i c.loop-byte-test.true text, omega (arith, long, before))
