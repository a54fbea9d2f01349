use Rattle.std.proofs.Common.{◌≡◌, length, arith}
use Rattle.std.proofs.lemmas.Result.{err_from_is_err_and}
use Rattle.dblog.proofs.StatedSteps.{measure_read, measure_short, measure_unanswered, measure_unread}
use Rattle.dblog.proofs.stated.measure.Goals as goal

pub returns-in_err-len-clause-size : goal.returns-in_err-len-clause-size
returns-in_err-len-clause-size g c =
    let p = err_from_is_err_and c.from_residual.result c.from_residual.ensures.1 in
    rw p.1 (measure_unanswered _ _ _ c.in_err-len.ensures.told c.in_err-len.ensures.trail c.in_err-len.ensures.count)

pub returns-then-len-lt-LEAST_LEN-clause-size : goal.returns-then-len-lt-LEAST_LEN-clause-size
returns-then-len-lt-LEAST_LEN-clause-size g c =
    measure_short c.in_ok-len.len _ _ (omega (arith, c.if-len-lt-LEAST_LEN.true)) c.in_ok-len.ensures.told c.in_ok-len.ensures.trail
    c.in_ok-len.ensures.count c.in_ok-len.ensures.length c.in_ok-len.ensures.number

pub returns-in_err-read_at-clause-size : goal.returns-in_err-read_at-clause-size
returns-in_err-read_at-clause-size g c =
    let p = err_from_is_err_and c.from_residual-in_err-read_at.result c.from_residual-in_err-read_at.ensures.1 in
    let long : length c.read_at.new.buf ≡ 2 = omega (arith, c.read_at.auto.buf) in
    rw p.1 (measure_unread _ c.in_ok-len.len c.read_at.new.buf _ _ _ long c.in_ok-len.ensures.told c.in_ok-len.ensures.trail
    c.in_ok-len.ensures.count c.in_err-read_at.ensures.told c.in_err-read_at.ensures.trail c.in_err-read_at.ensures.count
    c.in_ok-len.ensures.length c.in_ok-len.ensures.number)

pub returns-clause-size : goal.returns-clause-size
returns-clause-size g c =
    let long : length c.read_at.new.buf ≡ 2 = omega (arith, c.read_at.auto.buf) in
    measure_read c.in_ok-len.len c.size_in.result c.read_at.new.buf _ _ _ (omega (arith, c.if-len-lt-LEAST_LEN.false)) long c.size_in.ensures
    c.in_ok-len.ensures.told c.in_ok-len.ensures.trail c.in_ok-len.ensures.count
    c.in_ok-read_at.ensures.told c.in_ok-read_at.ensures.trail c.in_ok-read_at.ensures.count c.in_ok-read_at.ensures.bytes
    c.in_ok-len.ensures.length c.in_ok-len.ensures.number
