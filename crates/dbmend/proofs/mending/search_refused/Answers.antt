use Rattle.std.proofs.Common.{◌≡◌, ◌∙◌, ◌<◌, ◌-◌, ◌^◌, ℕ, [], Ok, Err, arith, min, subst}
use Rattle.std.proofs.lemmas.Result.{err_from_is_err_and}
use Rattle.dbsource.specs.Outs.{Puts}
use Rattle.dbmend.specs.Mended.{left_after}
use Rattle.dbmend.specs.Stepped.{HasPut}
use Rattle.dbmend.proofs.Searches.{refused_still, refused_stopped, refused_unended, refused_whole}
use Rattle.dbmend.proofs.mending.search_refused.Goals as goal

pub of_refused-first-requires : goal.of_refused-first-requires
of_refused-first-requires g c = c.requires.fits.known

pub put_steps-requires : goal.put_steps-requires
put_steps-requires g c = (c.requires.fits.known, c.requires.fits)

pub returns-in_err-left : goal.returns-in_err-left
returns-in_err-left g c =
    let q = err_from_is_err_and c.from_residual.result c.from_residual.ensures.1 in
    rw q.1 (rw q.2 (refused_stopped g.S.Source g.O.Out c.args.limit c.args.refusal c.args.source.now c.args.out.now
    c.in_err-left.field-0.0 (c.put_steps.new.source, c.put_steps.new.out)
    (subst (λ (n : ℕ). HasPut g.S.Source g.O.Out {A = Unit {0}} [] n 255 0 (min c.args.limit 16) (Err c.in_err-left.field-0.0) (λ fixes. Unit {0})
    (c.args.source.now, c.args.out.now) (c.put_steps.new.source, c.put_steps.new.out)) c.of_refused-first.ensures c.in_err-left.ensures)))

pub returns-in_err-put : goal.returns-in_err-put
returns-in_err-put g c =
    let q = err_from_is_err_and c.from_residual-in_err-put.result c.from_residual-in_err-put.ensures.1 in
    let few : c.in_ok-left.left < 2 ^ 64 - 1 = subst (λ (n : ℕ). c.in_ok-left.left < n) c.of_refused-first.ensures c.if-left-faults.true in
    rw q.1 (rw q.2 (refused_unended g.S.Source g.O.Out c.args.limit c.args.refusal c.args.source.now c.args.out.now
    tt c.in_ok-left.left (c.put_steps.new.source, c.put_steps.new.out)
    (subst (λ (n : ℕ). HasPut g.S.Source g.O.Out {A = Unit {0}} [] n 255 0 (min c.args.limit 16) (Ok tt) (λ fixes. c.in_ok-left.left ≡ left_after n fixes)
    (c.args.source.now, c.args.out.now) (c.put_steps.new.source, c.put_steps.new.out)) c.of_refused-first.ensures c.in_ok-left.ensures)
    few c.in_err-put.field-0.0 c.put.new.self
    (subst (λ text. Puts (Err c.in_err-put.field-0.0) (g.O.Out.held c.put_steps.new.out) (g.O.Out.held c.put.new.self) text)
    (c.as_slice.ensures.value ∙ c.end_text-end.ensures) c.in_err-put.ensures)))

pub returns-in_ok-put : goal.returns-in_ok-put
returns-in_ok-put g c =
    let few : c.in_ok-left.left < 2 ^ 64 - 1 = subst (λ (n : ℕ). c.in_ok-left.left < n) c.of_refused-first.ensures c.if-left-faults.true in
    refused_whole g.S.Source g.O.Out c.args.limit c.args.refusal c.args.source.now c.args.out.now
    tt c.in_ok-left.left (c.put_steps.new.source, c.put_steps.new.out)
    (subst (λ (n : ℕ). HasPut g.S.Source g.O.Out {A = Unit {0}} [] n 255 0 (min c.args.limit 16) (Ok tt) (λ fixes. c.in_ok-left.left ≡ left_after n fixes)
    (c.args.source.now, c.args.out.now) (c.put_steps.new.source, c.put_steps.new.out)) c.of_refused-first.ensures c.in_ok-left.ensures)
    few c.in_ok-put.field-0 c.put.new.self
    (subst (λ text. Puts (Ok c.in_ok-put.field-0) (g.O.Out.held c.put_steps.new.out) (g.O.Out.held c.put.new.self) text)
    (c.as_slice.ensures.value ∙ c.end_text-end.ensures) c.in_ok-put.ensures)

pub returns-else-left-faults : goal.returns-else-left-faults
returns-else-left-faults g c =
    let same = c.of_refused-first.ensures in
    let none = c.if-left-faults.false in
    refused_still g.S.Source g.O.Out c.args.limit c.args.refusal c.args.source.now c.args.out.now
    tt c.in_ok-left.left (c.put_steps.new.source, c.put_steps.new.out)
    (subst (λ (n : ℕ). HasPut g.S.Source g.O.Out {A = Unit {0}} [] n 255 0 (min c.args.limit 16) (Ok tt) (λ fixes. c.in_ok-left.left ≡ left_after n fixes)
    (c.args.source.now, c.args.out.now) (c.put_steps.new.source, c.put_steps.new.out)) c.of_refused-first.ensures c.in_ok-left.ensures)
    (omega (arith, same, none))
