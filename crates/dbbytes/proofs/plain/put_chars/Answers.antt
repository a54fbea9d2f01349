use Rattle.std.proofs.Common.{◌+◌, length, drop, arith}
use Rattle.std.specs.List.{flat_map}
use Rattle.std.specs.Str.{chars}
use Rattle.std.proofs.lemmas.Iterator.{YieldsList-from_chars}
use Rattle.std.proofs.lemmas.Iterator.Consumers.{YieldsList-turn, YieldsList-end}
use Rattle.std.proofs.lemmas.List.{at_drop_all, length_push}
use Rattle.std.proofs.lemmas.Result.{err_from_is_err_and}
use Rattle.dbformat.specs.PlainNames.{plain_char}
use Rattle.dbbytes.proofs.NameLemmas.{rest_items, put_more, put_stop, put_all}
use Rattle.dbbytes.proofs.PlainLemmas.{plain_text}
use Rattle.dbbytes.proofs.plain.put_chars.Goals as goal

pub returns-then-are_plain : goal.returns-then-are_plain
returns-then-are_plain g c =
    let same = c.as_bytes.ensures.value in
    rw (plain_text c.args.text.now (rw same at (c.are_plain.ensures c.if-are_plain.true))) (rw c.as_bytes-then-are_plain.ensures.value at c.put.ensures)

pub returns-in_err-put_char : goal.returns-in_err-put_char
returns-in_err-put_char g c =
    let all = chars c.args.text.now in
    let at = length c.loop-char.yielded in
    let p = err_from_is_err_and c.from_residual.result c.from_residual.ensures.1 in
    let turn = YieldsList-turn (YieldsList-from_chars c.args.text.now c.utf8.text cc) c.loop-char.yielded _ c.loop-char.yielded_by _ _ c.in-Some.char
    c.in-Some.is c.next.ensures.steps in
    put_stop (plain_char c.in-Some.char) (flat_map plain_char (drop (at + 1) all)) c.loop-char.invariant c.in_err-put_char.was p.1
    c.put_char.ensures (rest_items plain_char all at c.in-Some.char c.in-Some.char turn)

pub loop-char-preserved : goal.loop-char-preserved
loop-char-preserved g c =
    let all = chars c.args.text.now in
    let at = length c.loop-char.yielded in
    let turn = YieldsList-turn (YieldsList-from_chars c.args.text.now c.utf8.text cc) c.loop-char.yielded _ c.loop-char.yielded_by _ _ c.in-Some.char
    c.in-Some.is c.next.ensures.steps in
    rw (length_push c.loop-char.yielded c.in-Some.char)
    (put_more (plain_char c.in-Some.char) (flat_map plain_char (drop (at + 1) all)) c.loop-char.invariant c.in_ok-put_char.was
    c.put_char.ensures (rest_items plain_char all at c.in-Some.char c.in-Some.char turn))

pub returns : goal.returns
returns g c =
    let end = YieldsList-end (YieldsList-from_chars c.args.text.now c.utf8.text cc) c.loop-char.yielded _ c.loop-char.yielded_by _ _ c.in-None.is
    c.next.ensures.steps in
    put_all c.loop-char.invariant (at_drop_all (flat_map plain_char) (chars c.args.text.now) (length c.loop-char.yielded) (omega (arith, end.1)))
