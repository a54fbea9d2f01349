use Rattle.std.proofs.lemmas.Result.{err_from_is_err_and}
use Rattle.std.proofs.Common.{Ok, Err}
use Rattle.dbmend.proofs.Done.{done_then}
use Rattle.dbmend.proofs.schema_rows.add_roots.Goals.{then-is_wanted+in_ok-read_page, else-is_wanted}
use Rattle.dbmend.proofs.schema_rows.add_roots.Goals as goal

pub loop-index-preserved : goal.loop-index-preserved
loop-index-preserved g c =
    elim c.if-is_wanted.branch [
      | then-is_wanted+in_ok-read_page w ↦ rw w.source-is (done_then g.S.Source tt (Ok tt) c.loop-index.invariant w.in_ok-read_page.ensures (λ x y p q. tt))
      | else-is_wanted w ↦ rw w.source-is c.loop-index.invariant
    ]

pub returns-in_err-read_page : goal.returns-in_err-read_page
returns-in_err-read_page g c =
    let q = err_from_is_err_and c.from_residual.result c.from_residual.ensures.1 in
    rw q.1 (rw q.2 (done_then g.S.Source tt (Err c.in_err-read_page.field-0.0) c.loop-index.invariant c.in_err-read_page.ensures (λ x y p q. tt)))
