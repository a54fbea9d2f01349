use Rattle.std.proofs.Common.{◌+◌, drop, ap, arith, length-drop}
use Rattle.std.specs.Char.Utf16.{utf16_lossy_chars}
use Rattle.std.specs.List.{flat_map}
use Rattle.std.proofs.lemmas.Result.{err_from_is_err_and}
use Rattle.dbformat.specs.PlainNames.{plain_char}
use Rattle.dbbytes.specs.Units.{units}
use Rattle.dbbytes.proofs.ListLemmas.{tail}
use Rattle.dbbytes.proofs.NameLemmas.{rest_chars, put_more, put_stop, put_all}
use Rattle.dbbytes.proofs.UnitLemmas.{chars_none}
use Rattle.dbbytes.proofs.plain.put_units.Goals as goal

pub returns-in_err-put_char : goal.returns-in_err-put_char
returns-in_err-put_char g c =
    let name = c.args.name.now in
    let at = c.loop-at.at in
    let char = c.first_char_lossy-char.result.0 in
    let len = c.first_char_lossy-char.result.1 in
    let p = err_from_is_err_and c.from_residual.result c.from_residual.ensures.1 in
    let next = rw (tail at name) at c.first_char_lossy-char.ensures.chars in
    put_stop (plain_char char) (flat_map plain_char (utf16_lossy_chars (units c.args.order (drop (at + len) name)))) c.loop-at.invariant.put
    c.in_err-put_char.was p.1 c.put_char.ensures (rest_chars plain_char c.args.order name char at len next)

pub loop-at-preserved : goal.loop-at-preserved
loop-at-preserved g c =
    let name = c.args.name.now in
    let at = c.loop-at.at in
    let char = c.first_char_lossy-char.result.0 in
    let len = c.first_char_lossy-char.result.1 in
    let next = rw (tail at name) at c.first_char_lossy-char.ensures.chars in
    let room = rw (tail at name) at c.first_char_lossy-char.ensures.within in
    record {
      within = omega (arith, length-drop at name, room);
      put = put_more (plain_char char) (flat_map plain_char (utf16_lossy_chars (units c.args.order (drop (at + len) name)))) c.loop-at.invariant.put
          c.in_ok-put_char.was c.put_char.ensures (rest_chars plain_char c.args.order name char at len next);
    }

pub returns : goal.returns
returns g c =
    put_all c.loop-at.invariant.put
    (ap (flat_map plain_char) (chars_none c.args.order (drop c.loop-at.at c.args.name.now) (omega (arith, length-drop c.loop-at.at c.args.name.now))))
