use Rattle.std.proofs.Common.{◌≡◌, length, arith, sym, refl}
use Rattle.std.proofs.lemmas.Result.{err_from_is_err_and}
use Rattle.dblog.proofs.StatedSteps.{name_none, name_read, name_short, name_unread}
use Rattle.dblog.proofs.names.super_name.Goals as goal

pub returns-then-len : goal.returns-then-len
returns-then-len g c = record { name = name_short c.args.len _ (omega (arith, c.if-len.true)) }

pub returns-in_err-read_at : goal.returns-in_err-read_at
returns-in_err-read_at g c =
    let p = err_from_is_err_and c.from_residual.result c.from_residual.ensures.1 in
    let long : length c.read_at.new.buf ≡ 16 = omega (arith, c.read_at.auto.buf) in
    rw p.1 (record {
      name = name_unread _ c.args.len c.read_at.new.buf _ _ long
          c.in_err-read_at.ensures.told c.in_err-read_at.ensures.trail c.in_err-read_at.ensures.count;
    })

pub returns-then-not-has_name : goal.returns-then-not-has_name
returns-then-not-has_name g c =
    let long : length c.read_at.new.buf ≡ 16 = omega (arith, c.read_at.auto.buf) in
    record {
      name = name_none c.args.len c.read_at.new.buf _ _ long (omega (arith, c.if-len.false)) (sym c.if-not-has_name.ensures.has)
          c.in_ok-read_at.ensures.told c.in_ok-read_at.ensures.trail c.in_ok-read_at.ensures.count c.in_ok-read_at.ensures.bytes;
    }

pub returns : goal.returns
returns g c =
    let long : length c.read_at.new.buf ≡ 16 = omega (arith, c.read_at.auto.buf) in
    record {
      name = name_read c.args.len c.read_name.result c.read_at.new.buf _ _ _ long (omega (arith, c.if-len.false)) (c.if-not-has_name.ensures.fits refl).1
          c.in_ok-read_at.ensures.told c.in_ok-read_at.ensures.trail c.in_ok-read_at.ensures.count c.in_ok-read_at.ensures.bytes
          c.read_name.ensures;
    }
