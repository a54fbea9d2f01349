use Rattle.std.proofs.Common.{sym}
use Rattle.std.proofs.lemmas.Result.{err_from_is_err_and}
use Rattle.dblog.proofs.JournalAll.{failed_after, none_after, read_after}
use Rattle.dblog.proofs.journal_reading.read_after_head.Goals as goal

pub returns-then-not-is_journal : goal.returns-then-not-is_journal
returns-then-not-is_journal g c = none_after c.of-shape.result c.args.head.now c.args.len c.args.stored c.by_head.result _ c.requires.len
    c.of-shape.ensures (sym c.if-not-is_journal.ensures.is) c.by_head.ensures

pub returns-in_err-entries : goal.returns-in_err-entries
returns-in_err-entries g c =
    let p = err_from_is_err_and c.from_residual.result c.from_residual.ensures.1 in
    rw p.1 (rw p.2 (failed_after (λ v. v.items) c.of-shape.result c.args.head.now c.args.len c.args.stored c.in_err-entries.field-0.0 _ _
    c.of-shape.ensures c.in_err-entries.ensures.reads))

pub returns : goal.returns
returns g c = read_after (λ v. v.items) c.in_ok-entries.entries c.of-shape.result c.args.head.now c.args.len c.args.stored _ _ c.requires.len
    c.of-shape.ensures (sym c.if-not-is_journal.ensures.is) c.in_ok-entries.ensures.reads
