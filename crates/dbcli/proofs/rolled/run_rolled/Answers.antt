use Rattle.std.proofs.Common.{rules, ◌≡◌, refl, subst, true, false, Ok, Err}
use Rattle.dbcli.specs.Beside.{LooksWith}
use Rattle.dbcli.proofs.rolled.run_rolled.Goals as goal

pub returns-then-is_fit : goal.returns-then-is_fit
returns-then-is_fit g c =
    let matched = c.in-Ok.is in
    let tested = c.if-is_fit.true in
    let is : c.fits-looked.result.0 ≡ Ok true = cc in
    record {
      fits = Ok true;
      mid = c.fits-looked.result.1;
      looked = subst (λ r. LooksWith g.S.Source g.S.Source c.args.line.now.changes r c.args.opened.0 c.fits-looked.result.1) is c.fits-looked.ensures;
      ran = c.run_base.ensures;
    }

pub returns-else-is_fit : goal.returns-else-is_fit
returns-else-is_fit g c =
    let matched = c.in-Ok.is in
    let tested : c.in-Ok.is_fit ≡ false = search rules in
    let is : c.fits-looked.result.0 ≡ Ok false = cc in
    record {
      fits = Ok false;
      mid = c.fits-looked.result.1;
      looked = subst (λ r. LooksWith g.S.Source g.S.Source c.args.line.now.changes r c.args.opened.0 c.fits-looked.result.1) is c.fits-looked.ensures;
      ran = (refl, refl, record { first = refl; second = c.put_unrun.ensures });
    }

pub returns-in-Err : goal.returns-in-Err
returns-in-Err g c =
    let matched = c.in-Err.is in
    let is : c.fits-looked.result.0 ≡ Err c.in-Err.error = cc in
    let unread = c.from.ensures in
    let status = c.end.ensures.status in
    let line = c.end.ensures.line in
    record {
      fits = Err c.in-Err.error;
      mid = c.fits-looked.result.1;
      looked = subst (λ r. LooksWith g.S.Source g.S.Source c.args.line.now.changes r c.args.opened.0 c.fits-looked.result.1) is c.fits-looked.ensures;
      ran = (refl, search rules, record { first = refl; second = search rules });
    }
