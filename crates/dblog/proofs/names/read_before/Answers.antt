use Rattle.std.proofs.Common.{◌≡◌, ◌+◌, ◌-◌, length, arith, ap, true, false, refl, Some}
use Rattle.std.proofs.lemmas.Result.{err_from_is_err_and}
use Rattle.dbformat.specs.Numbers.{u32_at}
use Rattle.dblog.proofs.StatedSteps.{before_read, before_unread}
use Rattle.dblog.proofs.names.read_before.Goals as goal

pub returns-in_err-read_at : goal.returns-in_err-read_at
returns-in_err-read_at g c =
    let p = err_from_is_err_and c.from_residual.result c.from_residual.ensures.1 in
    let n : length c.read_at.new.buf ≡ u32_at 0 c.args.tail.now = omega (arith, c.read_at.auto.buf, c.requires.room) in
    rw p.1 (before_unread _ c.args.len (c.args.len - (16 + length c.args.name.now)) c.args.tail.now c.read_at.new.buf _ _
    (ap (λ n. c.args.len - (16 + n)) c.requires.room) n
    c.in_err-read_at.ensures.told c.in_err-read_at.ensures.trail c.in_err-read_at.ensures.count)

pub returns-then-is_name : goal.returns-then-is_name
returns-then-is_name g c =
    let n : length c.read_at.new.buf ≡ u32_at 0 c.args.tail.now = omega (arith, c.read_at.auto.buf, c.requires.room) in
    before_read c.args.len (c.args.len - (16 + length c.args.name.now)) c.args.tail.now c.read_at.new.buf _ _ true _
    (ap (λ n. c.args.len - (16 + n)) c.requires.room) n (omega (arith, c.requires.fits)) c.requires.has
    c.if-is_name.ensures (ap Some c.of.ensures)
    c.in_ok-read_at.ensures.told c.in_ok-read_at.ensures.trail c.in_ok-read_at.ensures.count c.in_ok-read_at.ensures.bytes

pub returns : goal.returns
returns g c =
    let n : length c.read_at.new.buf ≡ u32_at 0 c.args.tail.now = omega (arith, c.read_at.auto.buf, c.requires.room) in
    before_read c.args.len (c.args.len - (16 + length c.args.name.now)) c.args.tail.now c.read_at.new.buf _ _ false _
    (ap (λ n. c.args.len - (16 + n)) c.requires.room) n (omega (arith, c.requires.fits)) c.requires.has
    c.if-is_name.ensures refl
    c.in_ok-read_at.ensures.told c.in_ok-read_at.ensures.trail c.in_ok-read_at.ensures.count c.in_ok-read_at.ensures.bytes
