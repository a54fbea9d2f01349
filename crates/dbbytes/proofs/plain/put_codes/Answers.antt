use Rattle.std.proofs.Common.{◌+◌, drop, get_or, refl}
use Rattle.std.specs.List.{flat_map}
use Rattle.std.proofs.lemmas.List.{at_drop_all}
use Rattle.std.proofs.lemmas.Result.{err_from_is_err_and}
use Rattle.dbformat.specs.PlainNames.{byte_code}
use Rattle.dbbytes.proofs.NameLemmas.{rest_items, put_more, put_stop, put_all}
use Rattle.dbbytes.proofs.plain.put_codes.Goals as goal

pub returns-in_err-put : goal.returns-in_err-put
returns-in_err-put g c =
    let bytes = c.args.bytes.now in
    let at = c.loop-byte.byte-index in
    let p = err_from_is_err_and c.from_residual.result c.from_residual.ensures.1 in
    put_stop (byte_code (get_or bytes at 0)) (flat_map byte_code (drop (at + 1) bytes)) c.loop-byte.invariant c.in_err-put.was p.1
    (rw c.escape.ensures at c.put.ensures) (rest_items byte_code bytes at (get_or bytes at 0) 0 (c.loop-byte-test.true, refl))

pub loop-byte-preserved : goal.loop-byte-preserved
loop-byte-preserved g c =
    let bytes = c.args.bytes.now in
    let at = c.loop-byte.byte-index in
    put_more (byte_code (get_or bytes at 0)) (flat_map byte_code (drop (at + 1) bytes)) c.loop-byte.invariant c.in_ok-put.was
    (rw c.escape.ensures at c.put.ensures) (rest_items byte_code bytes at (get_or bytes at 0) 0 (c.loop-byte-test.true, refl))

pub returns : goal.returns
returns g c = put_all c.loop-byte.invariant (at_drop_all (flat_map byte_code) c.args.bytes.now c.loop-byte.byte-index c.loop-byte-test.false)
