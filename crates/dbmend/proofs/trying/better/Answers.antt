use Rattle.std.proofs.Common.{◌<◌, ◌∙◌, Some, ap, arith, inr, refl, subst, sym}
use Rattle.dbmend.specs.declared.counting.Findings.{Findings}
use Rattle.dbmend.proofs.trying.better.Goals as goal

pub returns-in-Some : goal.returns-in-Some
returns-in-Some g c =
    let found = c.trial_of.ensures.found in
    inr (
      c.trial_of.result,
      refl,
      c.in-Some.is ∙ ap (λ (f : Findings g.row.A.Denot). Some f) (sym found),
      c.trial_of.ensures.edit,
      subst (λ (f : Findings g.row.A.Denot). f.count.faults < c.args.faults) (sym found) (omega (arith, c.if-found-least.true, c.least_of-least.ensures)),
    )
