use Rattle.std.proofs.Common.{sym, subst, arith}
use Rattle.dblog.proofs.Finished.{finished}
use Rattle.dblog.specs.Scanning.{Scans}
use Rattle.dblog.proofs.scan.Scan.finish.Goals as goal

pub returns : goal.returns
returns g c = λ done k.
    let h = c.args.header.now in
    let broken = c.broken_at.ensures h (omega (arith, c.page_size-size.ensures)) in
    rw (c.new.ensures, c.page_size-size.ensures, c.committed.ensures)
    (finished h c.args.len _ c.into_index.result.items c.broken_at.result done c.into_index.ensures.index broken
    (subst (λ s. Scans h s done) (sym c.self.view_is) k))
