use Rattle.std.proofs.Common.{◌≤◌, Option, refl, subst}
use Rattle.std.specs.Prelude.{IfSome}
use Rattle.std.proofs.lemmas.Result.{err_from_is_err_and}
use Rattle.dbmend.specs.Deeds.{runs_in}
use Rattle.dbmend.specs.Trials.{IsStep}
use Rattle.dbmend.specs.declared.stepping.Step.{Step}
use Rattle.dbmend.proofs.Steps.{put_fixed, put_looked, put_unfixed, put_unread}
use Rattle.dbmend.proofs.mending.put_next.Goals as goal

pub returns-in_err-step : goal.returns-in_err-step
returns-in_err-step g c =
    let q = err_from_is_err_and c.from_residual.result c.from_residual.ensures.1 in
    rw q.1 (rw q.2 (put_unread g.S.Source g.O.Out c.in_err-step.field-0.0 c.args.edits.now.items c.args.known.faults c.args.most 0 1
    c.args.out.now c.in_err-step.ensures))

pub returns-in_default : goal.returns-in_default
returns-in_default g c = put_looked g.S.Source g.O.Out c.in_ok-step.step tt c.args.edits.now.items c.args.known.faults c.args.most 0 1
    c.args.out.now c.in_ok-step.ensures refl

pub returns-in_err-put_step : goal.returns-in_err-put_step
returns-in_err-put_step g c =
    let q = err_from_is_err_and c.from_residual-in_err-put_step.result c.from_residual-in_err-put_step.ensures.1 in
    let step = c.in-Some.step in
    let before = c.args.edits.now.items in
    let faults = c.args.known.faults in
    let most = c.args.most in
    rw q.1 (rw q.2 (put_unfixed g.S.Source g.O.Out before faults most step.tried
    (record { change = step.edit; was = step.was.bytes; count = step.found.count }) c.args.source.now c.next_step.new.source c.args.out.now c.put_step.new.out
    c.in_ok-step.step c.in_ok-step.ensures
    (λ deeds p. subst (λ (o : Option (Step g.row.A.Denot)). IfSome o (λ s. IsStep before faults s.edit s.was.bytes s.found.count deeds
    × (runs_in deeds ≤ s.tried) × (s.tried ≤ most))) c.in-Some.is p)
    c.in_err-put_step.field-0.0 c.in_err-put_step.ensures))

pub returns : goal.returns
returns g c =
    let step = c.in-Some.step in
    let before = c.args.edits.now.items in
    let faults = c.args.known.faults in
    let most = c.args.most in
    let h = c.in_ok-step.ensures in
    let k = subst (λ (o : Option (Step g.row.A.Denot)). IfSome o (λ s. IsStep before faults s.edit s.was.bytes s.found.count h.deeds
    × (runs_in h.deeds ≤ s.tried) × (s.tried ≤ most))) c.in-Some.is h.of in (
      put_fixed g.S.Source g.O.Out before faults most step.tried
          (record { change = step.edit; was = step.was.bytes; count = step.found.count })
          c.args.source.now c.next_step.new.source c.args.out.now c.put_step.new.out
          c.in_ok-step.step c.in_ok-step.ensures
          (λ deeds p. subst (λ (o : Option (Step g.row.A.Denot)). IfSome o (λ s. IsStep before faults s.edit s.was.bytes s.found.count deeds
          × (runs_in deeds ≤ s.tried) × (s.tried ≤ most))) c.in-Some.is p)
          c.in_ok-put_step.field-0 c.in_ok-put_step.ensures,
      k.2,
    )

pub next_step-requires : goal.next_step-requires
next_step-requires g c = let h = c.requires.fits in (h.known, (h.step, h))

pub put_step-requires : goal.put_step-requires
put_step-requires g c =
    let before = c.args.edits.now.items in
    let faults = c.args.known.faults in
    let most = c.args.most in
    let h = c.in_ok-step.ensures in
    let k = subst (λ (o : Option (Step g.row.A.Denot)). IfSome o (λ s. IsStep before faults s.edit s.was.bytes s.found.count h.deeds
    × (runs_in h.deeds ≤ s.tried) × (s.tried ≤ most))) c.in-Some.is h.of in
    (c.requires.fits.step, k.0.trial.tried.size)
