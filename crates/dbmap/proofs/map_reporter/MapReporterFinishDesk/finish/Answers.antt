use Rattle.std.proofs.Common.{false, Ok, Err, ap, inl, inr, refl, ◌∙◌}
use Rattle.std.proofs.lemmas.Result.{err_from_is_err_and}
use Rattle.std.specs.Io.KnownBytes.{Appends}
use Rattle.dbsource.specs.Outs.{Begins}
use Rattle.dbsource.specs.declared.error.RunError.TheVariants.{ReadFailed, WriteFailed}
use Rattle.dbsource.proofs.Logs.{asks_weaker}
use Rattle.dbwalk.specs.Reporting.{one_out}
use Rattle.dbinjuries.proofs.Desks.{desk_kept, looked_keeps}
use Rattle.dbmap.proofs.Counting.{map_counts, map_finds, map_keeps, map_receives, map_put, map_unput}
use Rattle.dbmap.proofs.map_reporter.MapReporterFinishDesk.finish.Goals as goal

pub returns-in_err-look_at_lost : goal.returns-in_err-look_at_lost
returns-in_err-look_at_lost g c =
    let q = err_from_is_err_and c.from_residual.result c.from_residual.ensures.1 in
    let look = c.in_err-look_at_lost.ensures in
    rw q.1 (rw q.2 (record {
      asks = asks_weaker _ _ (Err ReadFailed) (λ n. refl) look.asks (λ log l. l)
          (λ file way V first received empty. (tt, map_unput file V received.desk.survey first c.args.self.now empty received.received g.O.Out.held));
      keeps = looked_keeps look.desk refl (inl refl);
    }))

pub returns-in_err-put_map : goal.returns-in_err-put_map
returns-in_err-put_map g c =
    let q = err_from_is_err_and c.from_residual-in_err-put_map.result c.from_residual-in_err-put_map.ensures.1 in
    let look = c.in_ok-look_at_lost.ensures in
    let put = c.in_err-put_map.ensures in
    rw q.1 (rw q.2 (record {
      asks = asks_weaker _ _ (Err WriteFailed) (λ n. refl) look.asks (λ log l. l) (λ file way V first received empty.
          let s = received.desk.survey in
          let here = desk_kept c.args.desk.now c.look_at_lost.new.desk file V look.desk received.desk in
          let reported = map_receives file V s first c.args.self.now empty received.received in
          let looked = way V received.desk 100 first.kept.now.listing empty.listing reported in (
            tt,
            map_put file V s first c.args.self.now empty received.received g.O.Out.held (λ old. Begins old (g.O.Out.held c.put_map.new.out).bytes) put.all
                (put.is file V (record {
                  desk = here;
                  kept = map_keeps file V s first c.args.self.now empty received.received c.look_at_lost.new.self looked;
                  count = map_counts file V s first c.args.self.now empty received.received;
                })) put.puts.held,
          ));
      keeps = looked_keeps look.desk (record { lent = refl; failures = inl (put.puts.count, refl) }) (inr refl);
    }))

pub returns : goal.returns
returns g c =
    let look = c.in_ok-look_at_lost.ensures in
    let put = c.in_ok-put_map.ensures in record {
      asks = asks_weaker _ _ (Ok c.of-verdict.result) (λ n. refl) look.asks (λ log l. l) (λ file way V first received empty.
          let s = received.desk.survey in
          let here = desk_kept c.args.desk.now c.look_at_lost.new.desk file V look.desk received.desk in
          let reported = map_receives file V s first c.args.self.now empty received.received in
          let looked = way V received.desk 100 first.kept.now.listing empty.listing reported in (
            c.of-verdict.ensures.count ∙ map_finds file V s first c.args.self.now empty received.received,
            map_put file V s first c.args.self.now empty received.received g.O.Out.held (λ old. Appends old (g.O.Out.held c.put_map.new.out).bytes) put.all
                (put.is file V (record {
                  desk = here;
                  kept = map_keeps file V s first c.args.self.now empty received.received c.look_at_lost.new.self looked;
                  count = map_counts file V s first c.args.self.now empty received.received;
                })) put.puts.held,
          ));
      keeps = looked_keeps look.desk (ap (λ n. one_out c.args.self.now.out.ghost_name n false) put.puts.count) tt;
    }
