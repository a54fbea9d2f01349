use Rattle.std.proofs.Common.{[], ◌∷◌, ◌++◌, ◌∙◌, ap, get_or, arith}
use Rattle.dbformat.specs.FirstBytes.{shown_byte}
use Rattle.dblines.proofs.Bytes.{map_more}
use Rattle.dblines.proofs.first_bytes.append_shown.Goals as goal

pub loop-byte-preserved : goal.loop-byte-preserved
loop-byte-preserved g c =
    let bytes = c.args.bytes.now in
    let i = c.loop-byte.byte-index in
    let text = (rw c.shown_byte.ensures at c.push.ensures.items) ∙ ap (λ w. w ++ shown_byte (get_or bytes i 0) ∷ []) c.loop-byte.invariant.0 in
    let long = c.push.ensures.len in
    let before = c.loop-byte.invariant.1 in
    (map_more shown_byte bytes c.args.line.now.items _ i c.loop-byte-test.true text, omega (arith, long, before))
