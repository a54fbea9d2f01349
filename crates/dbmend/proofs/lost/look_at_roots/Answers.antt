use Rattle.std.proofs.lemmas.Result.{err_from_is_err_and}
use Rattle.std.proofs.Common.{Ok, Err}
use Rattle.dbmend.proofs.Done.{done_error, done_then, done_weaker}
use Rattle.dbmend.proofs.lost.look_at_roots.Goals.{then-is_wanted+in_ok-read_page+in_ok-next, else-is_wanted}
use Rattle.dbmend.proofs.lost.look_at_roots.Goals as goal

pub loop-index-preserved : goal.loop-index-preserved
loop-index-preserved g c =
    elim c.if-is_wanted.branch [
      | then-is_wanted+in_ok-read_page+in_ok-next w ↦ rw w.source-is (done_weaker g.S.Source w.in_ok-next.next tt
          (done_then g.S.Source tt (Ok w.in_ok-next.next) {R = λ a deeds. Unit {0}}
          (done_then g.S.Source tt (Ok tt) {R = λ a deeds. Unit {0}} c.loop-index.invariant w.in_ok-read_page.ensures (λ x y p q. tt))
          w.in_ok-next.ensures (λ x y p q. tt)) (λ x p. tt))
      | else-is_wanted w ↦ rw w.source-is c.loop-index.invariant
    ]

pub returns-in_err-read_page : goal.returns-in_err-read_page
returns-in_err-read_page g c =
    let q = err_from_is_err_and c.from_residual.result c.from_residual.ensures.1 in
    rw q.1 (rw q.2 (done_then g.S.Source tt (Err c.in_err-read_page.field-0.0) c.loop-index.invariant c.in_err-read_page.ensures (λ x y p q. tt)))

pub returns-in_err-next : goal.returns-in_err-next
returns-in_err-next g c =
    let q = err_from_is_err_and c.from_residual-in_err-next.result c.from_residual-in_err-next.ensures.1 in
    rw q.1 (rw q.2 (done_error g.S.Source c.in_err-next.field-0.0
    (done_then g.S.Source tt (Err c.in_err-next.field-0.0) {R = λ a deeds. Unit {0}}
    (done_then g.S.Source tt (Ok tt) {R = λ a deeds. Unit {0}} c.loop-index.invariant c.in_ok-read_page.ensures (λ x y p q. tt))
    c.in_err-next.ensures (λ x y p q. tt))))
