use Rattle.std.proofs.Common.{rules, ◌≡◌, ◌∙◌, ap, refl, sym, subst, true, false, Ok, Err}
use Rattle.dbcli.specs.Beside.{FindsLog, RunsLogged, joined}
use Rattle.dbcli.proofs.beside.run_beside.Goals as goal

pub returns-then-is_used : goal.returns-then-is_used
returns-then-is_used g c =
    let a = c.in-Ok.is in
    let b = c.in-Ok.index-is in
    let d = c.in-Ok.len-is in
    let is : c.find_log-found.result ≡ Ok (c.in-Ok.index, c.in-Ok.len) = cc in
    let tested : c.is_used.result ≡ true = search rules in
    record {
      found = Ok (c.in-Ok.index, c.in-Ok.len);
      mid = (c.find_log-found.new.base, c.find_log-found.new.log);
      looked = subst (λ r. FindsLog g.B.Source g.L.Source r c.args.opened (c.find_log-found.new.base, c.find_log-found.new.log)) is
          c.find_log-found.ensures.found;
      ran = (
        true,
        sym tested ∙ c.is_used.ensures,
        (
          c.run_logged-status.result.1,
          c.into_inner.ensures,
          subst (λ x. RunsLogged g.B.Source g.L.Source g.O.Out g.E.Out c.args.line.now.changes c.args.line.now.task c.run_logged-status.result.0
              (x, c.args.out.now, c.args.err.now) (c.run_logged-status.result.1, c.run_logged-status.new.out, c.run_logged-status.new.err))
              (c.new-both.ensures ∙ ap (λ p. joined p c.in-Ok.len (c.find_log-found.new.base, c.find_log-found.new.log)) c.into_pages.ensures)
              c.run_logged-status.ensures,
        ),
      );
    }

pub returns-else-is_used : goal.returns-else-is_used
returns-else-is_used g c =
    let a = c.in-Ok.is in
    let b = c.in-Ok.index-is in
    let d = c.in-Ok.len-is in
    let is : c.find_log-found.result ≡ Ok (c.in-Ok.index, c.in-Ok.len) = cc in
    let tested : c.is_used.result ≡ false = search rules in
    record {
      found = Ok (c.in-Ok.index, c.in-Ok.len);
      mid = (c.find_log-found.new.base, c.find_log-found.new.log);
      looked = subst (λ r. FindsLog g.B.Source g.L.Source r c.args.opened (c.find_log-found.new.base, c.find_log-found.new.log)) is
          c.find_log-found.ensures.found;
      ran = (false, sym tested ∙ c.is_used.ensures, (c.run_over-status.ensures, refl));
    }

pub returns-in-Err : goal.returns-in-Err
returns-in-Err g c =
    let a = c.in-Err.is in
    let b = c.in-Err.error-is in
    let is : c.find_log-found.result ≡ Err c.in-Err.error = cc in
    record {
      found = Err c.in-Err.error;
      mid = (c.find_log-found.new.base, c.find_log-found.new.log);
      looked = subst (λ r. FindsLog g.B.Source g.L.Source r c.args.opened (c.find_log-found.new.base, c.find_log-found.new.log)) is
          c.find_log-found.ensures.found;
      ran = (refl, c.end_log.ensures.status, record { first = refl; second = c.end_log.ensures.line });
    }
