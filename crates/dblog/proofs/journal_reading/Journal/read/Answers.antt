use Rattle.std.proofs.Common.{◌≡◌, length, arith}
use Rattle.std.proofs.lemmas.Result.{err_from_is_err_and}
use Rattle.dblog.proofs.JournalAll.{journal_headless, journal_long, journal_of_rest, journal_short, journal_unanswered}
use Rattle.dblog.proofs.journal_reading.Journal.read.Goals as goal

pub returns-in_err-len-clause-reads : goal.returns-in_err-len-clause-reads
returns-in_err-len-clause-reads g c =
    let p = err_from_is_err_and c.from_residual.result c.from_residual.ensures.1 in
    rw p.1 (rw p.2 ((journal_unanswered c.args.stored _ _ c.in_err-len.ensures.told c.in_err-len.ensures.trail c.in_err-len.ensures.count)))

pub returns-then-len-lt-LEAST_LEN-clause-reads : goal.returns-then-len-lt-LEAST_LEN-clause-reads
returns-then-len-lt-LEAST_LEN-clause-reads g c = (journal_short c.in_ok-len.len c.args.stored _ _ c.in_ok-len.ensures.told c.in_ok-len.ensures.trail
    c.in_ok-len.ensures.count
    (omega (arith, c.if-len-lt-LEAST_LEN.true)) c.in_ok-len.ensures.length c.in_ok-len.ensures.number)

pub returns-then-len-ge-MOST_LEN-clause-reads : goal.returns-then-len-ge-MOST_LEN-clause-reads
returns-then-len-ge-MOST_LEN-clause-reads g c = (journal_long c.in_ok-len.len c.args.stored _ _ c.in_ok-len.ensures.told c.in_ok-len.ensures.trail
    c.in_ok-len.ensures.count
    (omega (arith, c.if-len-ge-MOST_LEN.true)) c.in_ok-len.ensures.length c.in_ok-len.ensures.number)

pub returns-in_err-read_at-clause-reads : goal.returns-in_err-read_at-clause-reads
returns-in_err-read_at-clause-reads g c =
    let p = err_from_is_err_and c.from_residual-in_err-read_at.result c.from_residual-in_err-read_at.ensures.1 in
    let long : length c.read_at.new.buf ≡ 28 = omega (arith, c.read_at.auto.buf) in
    rw p.1 (rw p.2 ((journal_headless c.in_ok-len.len c.args.stored c.read_at.new.buf _ _ _ long (omega (arith, c.if-len-lt-LEAST_LEN.false))
    c.in_ok-len.ensures.told c.in_ok-len.ensures.trail c.in_ok-len.ensures.count
    c.in_err-read_at.ensures.told c.in_err-read_at.ensures.trail c.in_err-read_at.ensures.count
    c.in_ok-len.ensures.length c.in_ok-len.ensures.number)))

pub returns-clause-reads : goal.returns-clause-reads
returns-clause-reads g c =
    let long : length c.read_at.new.buf ≡ 28 = omega (arith, c.read_at.auto.buf) in
    (journal_of_rest c.in_ok-len.len c.args.stored c.read_at.new.buf c.read_after_head.result _ _ _ _ long
    c.in_ok-len.ensures.told c.in_ok-len.ensures.trail c.in_ok-len.ensures.count
    c.in_ok-read_at.ensures.told c.in_ok-read_at.ensures.trail c.in_ok-read_at.ensures.count c.in_ok-read_at.ensures.bytes
    c.read_after_head.ensures c.in_ok-len.ensures.length c.in_ok-len.ensures.number)
