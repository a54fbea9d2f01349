use Rattle.std.proofs.Common.{rules, ◌≡◌, ◌∙◌, ap, refl, sym, subst, Ok, Err, Some, None}
use Rattle.dblog.specs.Rollbacks.{FindsJournal}
use Rattle.dbcli.specs.Beside.{RunsRolled, joined}
use Rattle.dbcli.proofs.rolled.run_journal.Goals as goal

pub returns-in-Some : goal.returns-in-Some
returns-in-Some g c =
    let matched = c.in-Ok.is in
    let some = c.in-Some.is in
    let is : c.find-found.result ≡ Ok c.in-Ok.found = cc in
    let given : c.into_pages.result ≡ Some c.in-Some.pages = cc in
    record {
      found = Ok c.in-Ok.found;
      mid = (c.find-found.new.base, c.find-found.new.log);
      looked = subst (λ r. FindsJournal g.S.Source.step g.S.Source.lengths g.S.Source.step g.S.Source.lengths r
          (record { base = g.S.Source.held c.args.opened.0; log = g.S.Source.held c.args.opened.1 })
          (record { base = g.S.Source.held c.find-found.new.base; log = g.S.Source.held c.find-found.new.log })) is c.find-found.ensures.found;
      ran = (
        c.has_super-is_there.result,
        c.has_super-is_there.ensures,
        Some c.in-Some.pages,
        sym given ∙ c.into_pages.ensures,
        (
          c.run_rolled-status.result.1,
          ap (λ x. (x.0, x.1, c.run_rolled-status.result.1.1)) c.into_inner-base.ensures,
          subst (λ x. RunsRolled g.S.Source g.O.Out g.E.Out c.args.line.now.changes c.args.line.now.task c.run_rolled-status.result.0
              ((x, c.args.opened.2), c.args.out.now, c.args.err.now)
              (c.run_rolled-status.result.1, c.run_rolled-status.new.out, c.run_rolled-status.new.err))
              (c.new-rolled.ensures ∙ ap (λ n. joined c.in-Some.pages n (c.find-found.new.base, c.find-found.new.log)) c.len-len.ensures)
              c.run_rolled-status.ensures,
        ),
      );
    }

pub returns-in-None : goal.returns-in-None
returns-in-None g c =
    let matched = c.in-Ok.is in
    let none = c.in-None.is in
    let is : c.find-found.result ≡ Ok c.in-Ok.found = cc in
    let given : c.into_pages.result ≡ None = cc in
    record {
      found = Ok c.in-Ok.found;
      mid = (c.find-found.new.base, c.find-found.new.log);
      looked = subst (λ r. FindsJournal g.S.Source.step g.S.Source.lengths g.S.Source.step g.S.Source.lengths r
          (record { base = g.S.Source.held c.args.opened.0; log = g.S.Source.held c.args.opened.1 })
          (record { base = g.S.Source.held c.find-found.new.base; log = g.S.Source.held c.find-found.new.log })) is c.find-found.ensures.found;
      ran = (
        c.has_super-is_there.result,
        c.has_super-is_there.ensures,
        None,
        sym given ∙ c.into_pages.ensures,
        (refl, c.run_base-status.ensures),
      );
    }

pub returns-in-Err : goal.returns-in-Err
returns-in-Err g c =
    let matched = c.in-Err.is in
    let is : c.find-found.result ≡ Err c.in-Err.error = cc in
    let why = c.run_error.ensures in
    let status = c.end-status.ensures.status in
    let line = c.end-status.ensures.line in
    record {
      found = Err c.in-Err.error;
      mid = (c.find-found.new.base, c.find-found.new.log);
      looked = subst (λ r. FindsJournal g.S.Source.step g.S.Source.lengths g.S.Source.step g.S.Source.lengths r
          (record { base = g.S.Source.held c.args.opened.0; log = g.S.Source.held c.args.opened.1 })
          (record { base = g.S.Source.held c.find-found.new.base; log = g.S.Source.held c.find-found.new.log })) is c.find-found.ensures.found;
      ran = (refl, search rules, record { first = refl; second = search rules });
    }
