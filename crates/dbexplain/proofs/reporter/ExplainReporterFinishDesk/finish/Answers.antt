use Rattle.std.proofs.Common.{◌≢◌, false, Ok, Err, Result, inl, inr, refl, sym, ap, ◌∙◌}
use Rattle.std.proofs.lemmas.Result.{err_from_is_err_and}
use Rattle.dbexplain.proofs.Common.{faults, ReadFailed, Receives, LeavesExplained, listed_injuries, explain_text}
use Rattle.dbsource.specs.declared.error.RunError.TheVariants as error
use Rattle.dbsource.specs.declared.out.WriteFailed.{WriteFailed}
use Rattle.dbsource.proofs.Logs.{asks_weaker}
use Rattle.dbwalk.specs.Reporting.{one_out}
use Rattle.dbscan.proofs.Finished.{finished}
use Rattle.dbexplain.specs.Reporting.{explain_held}
use Rattle.dbinjuries.proofs.Desks.{desk_kept, looked_keeps}
use Rattle.dbexplain.proofs.Left.{all_counted, all_kept, clean_put, file_received, written}
use Rattle.dbexplain.proofs.reporter.ExplainReporterFinishDesk.finish.Goals as goal

-- the answer of a put
abbrev cut : WriteFailed → Result (Unit {0}) WriteFailed
cut e = Err e

abbrev done : Result (Unit {0}) WriteFailed
done = Ok tt

pub returns-in_err-put_ok : goal.returns-in_err-put_ok
returns-in_err-put_ok g c =
    let q = err_from_is_err_and c.from_residual.result c.from_residual.ensures.1 in
    let held = g.O.Out.held in
    let none = sym c.all-faults.ensures ∙ c.if-faults-eq0.true in
    rw q.1 (rw q.2 (finished g.S.Source Receives (explain_held held) (LeavesExplained held) (Err error.WriteFailed) c.args.desk.now c.args.source.now
    c.args.self.now _ refl
    (record { lent = refl; failures = inl (c.in_err-put_ok.ensures.count, refl) })
    (λ file V first received limit fresh. clean_put held (file_received received fresh) none (cut c.in_err-put_ok.field-0.0) c.put_ok.new.out
    c.in_err-put_ok.ensures.held)))

pub returns-then-faults-eq0 : goal.returns-then-faults-eq0
returns-then-faults-eq0 g c =
    let held = g.O.Out.held in
    let none = sym c.all-faults.ensures ∙ c.if-faults-eq0.true in
    finished g.S.Source Receives (explain_held held) (LeavesExplained held) (Ok _) c.args.desk.now c.args.source.now c.args.self.now _ tt
    (ap (λ n. one_out c.args.self.now.out.ghost_name n false) c.in_ok-put_ok.ensures.count)
    (λ file V first received limit fresh.
    let k = file_received received fresh in (
      clean_put held k none done c.put_ok.new.out c.in_ok-put_ok.ensures.held,
      c.of-verdict.ensures.faults (faults file V) (c.all-faults.ensures ∙ all_counted held k),
      k.after_end,
    ))

pub returns-in_err-look_at_lost : goal.returns-in_err-look_at_lost
returns-in_err-look_at_lost g c =
    let q = err_from_is_err_and c.from_residual-in_err-look_at_lost.result c.from_residual-in_err-look_at_lost.ensures.1 in
    let held = g.O.Out.held in
    let look = c.in_err-look_at_lost.ensures in
    rw q.1 (rw q.2 (record {
      asks = asks_weaker _ _ (Err ReadFailed) (λ n. refl) look.asks (λ log l. l) (λ file way V first received limit fresh.
          let k = file_received received fresh in
          (k.all.out, way V received.desk limit first.kept.now.listing fresh.kept.listing k.all.listing));
      keeps = looked_keeps look.desk refl (inl refl);
    }))

pub returns-in_err-put_report : goal.returns-in_err-put_report
returns-in_err-put_report g c =
    let q = err_from_is_err_and c.from_residual-in_err-put_report.result c.from_residual-in_err-put_report.ensures.1 in
    let held = g.O.Out.held in
    let some : c.args.self.now.kept.now.tally.all ≢ 0 = λ e. c.if-faults-eq0.false (c.all-faults.ensures ∙ e) in
    let look = c.in_ok-look_at_lost.ensures in
    let put = c.in_err-put_report.ensures in
    rw q.1 (rw q.2 (record {
      asks = asks_weaker _ _ (Err error.WriteFailed) (λ n. refl) look.asks (λ log l. l) (λ file way V first received limit fresh.
          let k = file_received received fresh in
          let listed = way V received.desk limit first.kept.now.listing fresh.kept.listing k.all.listing in
          let here = desk_kept c.args.desk.now c.look_at_lost.new.desk file V look.desk received.desk in
          written held k (cut c.in_err-put_report.field-0.0) c.put_report.new.out put.all
          (put.is file V (all_kept held k _ c.look_at_lost.new.self here listed some)
          ∙ ap (λ n. explain_text n file V (listed_injuries file V)) listed.0.room) put.puts.held);
      keeps = looked_keeps look.desk (record { lent = refl; failures = inl (put.puts.count, refl) }) (inr refl);
    }))

pub returns : goal.returns
returns g c =
    let held = g.O.Out.held in
    let some : c.args.self.now.kept.now.tally.all ≢ 0 = λ e. c.if-faults-eq0.false (c.all-faults.ensures ∙ e) in
    let look = c.in_ok-look_at_lost.ensures in
    let put = c.in_ok-put_report.ensures in record {
      asks = asks_weaker _ _ (Ok _) (λ n. refl) look.asks (λ log l. l) (λ file way V first received limit fresh.
          let k = file_received received fresh in
          let listed = way V received.desk limit first.kept.now.listing fresh.kept.listing k.all.listing in
          let here = desk_kept c.args.desk.now c.look_at_lost.new.desk file V look.desk received.desk in (
            written held k done c.put_report.new.out put.all
                (put.is file V (all_kept held k _ c.look_at_lost.new.self here listed some)
                ∙ ap (λ n. explain_text n file V (listed_injuries file V)) listed.0.room) put.puts.held,
            c.of-verdict.ensures.faults (faults file V) (c.all-faults.ensures ∙ all_counted held k),
            k.after_end,
          ));
      keeps = looked_keeps look.desk (ap (λ n. one_out c.args.self.now.out.ghost_name n false) put.puts.count) tt;
    }
