use Rattle.std.proofs.Common.{◌+◌, drop, ap, arith, length-drop}
use Rattle.std.specs.List.{flat_map}
use Rattle.std.proofs.lemmas.Result.{err_from_is_err_and}
use Rattle.dbformat.specs.Text.{escape_byte}
use Rattle.dbbytes.specs.Units.{text_of}
use Rattle.dbbytes.proofs.ListLemmas.{tail}
use Rattle.dbbytes.proofs.NameLemmas.{rest_text, put_more, put_stop, put_all}
use Rattle.dbbytes.proofs.UnitLemmas.{text_none}
use Rattle.dbbytes.proofs.name.put_utf16.Goals as goal

pub returns-in_err-put_escaped : goal.returns-in_err-put_escaped
returns-in_err-put_escaped g c =
    let name = c.args.name.now in
    let at = c.loop-at.at in
    let part = c.next_text-text.result in
    let p = err_from_is_err_and c.from_residual.result c.from_residual.ensures.1 in
    let text = rw (tail at name) at c.next_text-text.ensures.text in
    put_stop (flat_map escape_byte part.0.items) (flat_map escape_byte (text_of c.args.order (drop (at + part.1) name))) c.loop-at.invariant.put
    c.in_err-put_escaped.was p.1 (rw c.as_slice.ensures.value at c.put_escaped.ensures) (rest_text c.args.order name part.0.items at part.1 text)

pub loop-at-preserved : goal.loop-at-preserved
loop-at-preserved g c =
    let name = c.args.name.now in
    let at = c.loop-at.at in
    let part = c.next_text-text.result in
    let text = rw (tail at name) at c.next_text-text.ensures.text in
    let room = rw (tail at name) at c.next_text-text.ensures.within in
    record {
      within = omega (arith, length-drop at name, room);
      put = put_more (flat_map escape_byte part.0.items) (flat_map escape_byte (text_of c.args.order (drop (at + part.1) name))) c.loop-at.invariant.put
          c.in_ok-put_escaped.was (rw c.as_slice.ensures.value at c.put_escaped.ensures) (rest_text c.args.order name part.0.items at part.1 text);
    }

pub returns : goal.returns
returns g c =
    put_all c.loop-at.invariant.put
    (ap (flat_map escape_byte) (text_none c.args.order (drop c.loop-at.at c.args.name.now) (omega (arith, length-drop c.loop-at.at c.args.name.now))))
