use Rattle.std.proofs.Common.{◌≡◌, ◌+◌, ◌-◌, ◌∷◌, true, take, drop, get_or, arith, length-drop}
use Rattle.std.specs.List.{flat_map}
use Rattle.std.proofs.lemmas.Result.{err_from_is_err_and}
use Rattle.dbformat.specs.Text.{escape_byte, hex_text}
use Rattle.dbbytes.specs.Escapes.{is_escaped}
use Rattle.dbbytes.proofs.ListLemmas.{tail}
use Rattle.dbbytes.proofs.NameLemmas.{first_escaped, rest_escaped, rest_plain, put_more, put_stop}
use Rattle.dbbytes.proofs.name.put_escaped.Goals as goal

pub returns-in_err-put : goal.returns-in_err-put
returns-in_err-put g c =
    let text = c.args.text.now in
    let at = c.loop-at.at in
    let p = err_from_is_err_and c.from_residual.result c.from_residual.ensures.1 in
    let next = rw (tail at text) at c.plain_len-plain.ensures.next in
    let first : is_escaped (get_or text at 0) ≡ true = first_escaped text at c.plain_len-plain.result c.loop-at-test.true c.if-plain-eq0.true next in
    put_stop (92 ∷ 120 ∷ hex_text 2 (get_or text at 0)) (flat_map escape_byte (drop (at + 1) text)) c.loop-at.invariant.put c.in_err-put.was p.1
    (rw c.escape.ensures at c.put.ensures) (rest_escaped text at c.loop-at-test.true first)

pub loop-at-preserved-then-plain-eq0 : goal.loop-at-preserved-then-plain-eq0
loop-at-preserved-then-plain-eq0 g c =
    let text = c.args.text.now in
    let at = c.loop-at.at in
    let next = rw (tail at text) at c.plain_len-plain.ensures.next in
    let first : is_escaped (get_or text at 0) ≡ true = first_escaped text at c.plain_len-plain.result c.loop-at-test.true c.if-plain-eq0.true next in
    record {
      within = omega arith;
      put = put_more (92 ∷ 120 ∷ hex_text 2 (get_or text at 0)) (flat_map escape_byte (drop (at + 1) text)) c.loop-at.invariant.put c.in_ok-put.was
          (rw c.escape.ensures at c.put.ensures) (rest_escaped text at c.loop-at-test.true first);
    }

pub returns-in_err-put-2 : goal.returns-in_err-put-2
returns-in_err-put-2 g c =
    let text = c.args.text.now in
    let at = c.loop-at.at in
    let plain = c.plain_len-plain.result in
    let p = err_from_is_err_and c.from_residual-in_err-put-2.result c.from_residual-in_err-put-2.ensures.1 in
    let same = rw (tail at text) at c.plain_len-plain.ensures.plain in
    let cut : at + plain - at ≡ plain = omega arith in
    put_stop (take plain (drop at text)) (flat_map escape_byte (drop (at + plain) text)) c.loop-at.invariant.put c.in_err-put-2.was p.1
    (rw cut at c.put-else-plain-eq0.ensures) (rest_plain text at plain same)

pub loop-at-preserved : goal.loop-at-preserved
loop-at-preserved g c =
    let text = c.args.text.now in
    let at = c.loop-at.at in
    let plain = c.plain_len-plain.result in
    let same = rw (tail at text) at c.plain_len-plain.ensures.plain in
    let room = rw (tail at text) at c.plain_len-plain.ensures.within in
    let cut : at + plain - at ≡ plain = omega arith in
    record {
      within = omega (arith, length-drop at text, room);
      put = put_more (take plain (drop at text)) (flat_map escape_byte (drop (at + plain) text)) c.loop-at.invariant.put c.in_ok-put-2.was
          (rw cut at c.put-else-plain-eq0.ensures) (rest_plain text at plain same);
    }
