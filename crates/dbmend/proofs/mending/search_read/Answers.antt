use Rattle.std.proofs.Common.{◌≡◌, ◌∙◌, ℕ, [], Ok, Err, min, subst}
use Rattle.std.proofs.lemmas.Result.{err_from_is_err_and}
use Rattle.std.specs.Io.KnownBytes.{Appends}
use Rattle.dbsource.specs.Outs.{Puts}
use Rattle.dbmend.specs.Mended.{left_after}
use Rattle.dbmend.specs.Stepped.{HasPut}
use Rattle.dbmend.proofs.Searches.{searched_stopped, searched_unended, searched_unwritten, searched_whole}
use Rattle.dbmend.proofs.mending.search_read.Goals as goal

pub returns-in_err-put : goal.returns-in_err-put
returns-in_err-put g c =
    let q = err_from_is_err_and c.from_residual.result c.from_residual.ensures.1 in
    let e = c.in_err-put.field-0.0 in
    rw q.1 (rw q.2 (searched_unwritten g.S.Source g.O.Out c.args.limit e c.args.first.count c.args.source.now c.args.out.now c.put.new.self
    (subst (λ text. Puts (Err e) (g.O.Out.held c.args.out.now) (g.O.Out.held c.put.new.self) text)
    (c.as_slice.ensures.value ∙ c.first_text-front.ensures) c.in_err-put.ensures)))

pub returns-in_err-left : goal.returns-in_err-left
returns-in_err-left g c =
    let q = err_from_is_err_and c.from_residual-in_err-left.result c.from_residual-in_err-left.ensures.1 in
    rw q.1 (rw q.2 (searched_stopped g.S.Source g.O.Out c.args.limit c.args.first.count c.args.source.now c.args.out.now c.put.new.self
    (subst (λ text. Appends (g.O.Out.held c.args.out.now).bytes (g.O.Out.held c.put.new.self).bytes text)
    (c.as_slice.ensures.value ∙ c.first_text-front.ensures) c.in_ok-put.ensures.held)
    c.in_ok-put.ensures.count
    c.in_err-left.field-0.0 (c.put_steps.new.source, c.put_steps.new.out)
    (subst (λ (n : ℕ). HasPut g.S.Source g.O.Out {A = Unit {0}} [] n 255 0 (min c.args.limit 16) (Err c.in_err-left.field-0.0) (λ fixes. Unit {0})
    (c.args.source.now, c.put.new.self) (c.put_steps.new.source, c.put_steps.new.out)) c.of.ensures c.in_err-left.ensures)))

pub returns-in_err-put-2 : goal.returns-in_err-put-2
returns-in_err-put-2 g c =
    let q = err_from_is_err_and c.from_residual-in_err-put-2.result c.from_residual-in_err-put-2.ensures.1 in
    rw q.1 (rw q.2 (searched_unended g.S.Source g.O.Out c.args.limit c.args.first.count c.args.source.now c.args.out.now c.put.new.self
    (subst (λ text. Appends (g.O.Out.held c.args.out.now).bytes (g.O.Out.held c.put.new.self).bytes text)
    (c.as_slice.ensures.value ∙ c.first_text-front.ensures) c.in_ok-put.ensures.held)
    c.in_ok-put.ensures.count
    tt c.in_ok-left.left (c.put_steps.new.source, c.put_steps.new.out)
    (subst (λ (n : ℕ). HasPut g.S.Source g.O.Out {A = Unit {0}} [] n 255 0 (min c.args.limit 16) (Ok tt) (λ fixes. c.in_ok-left.left ≡ left_after n fixes)
    (c.args.source.now, c.put.new.self) (c.put_steps.new.source, c.put_steps.new.out)) c.of.ensures c.in_ok-left.ensures)
    c.in_err-put-2.field-0.0 c.put-2.new.self
    (subst (λ text. Puts (Err c.in_err-put-2.field-0.0) (g.O.Out.held c.put_steps.new.out) (g.O.Out.held c.put-2.new.self) text)
    (c.as_slice-2.ensures.value ∙ c.end_text-end.ensures) c.in_err-put-2.ensures)))

pub returns : goal.returns
returns g c =
    searched_whole g.S.Source g.O.Out c.args.limit c.args.first.count c.args.source.now c.args.out.now c.put.new.self
    (subst (λ text. Appends (g.O.Out.held c.args.out.now).bytes (g.O.Out.held c.put.new.self).bytes text)
    (c.as_slice.ensures.value ∙ c.first_text-front.ensures) c.in_ok-put.ensures.held)
    c.in_ok-put.ensures.count
    tt c.in_ok-left.left (c.put_steps.new.source, c.put_steps.new.out)
    (subst (λ (n : ℕ). HasPut g.S.Source g.O.Out {A = Unit {0}} [] n 255 0 (min c.args.limit 16) (Ok tt) (λ fixes. c.in_ok-left.left ≡ left_after n fixes)
    (c.args.source.now, c.put.new.self) (c.put_steps.new.source, c.put_steps.new.out)) c.of.ensures c.in_ok-left.ensures)
    c.in_ok-put-2.field-0 c.put-2.new.self
    (subst (λ text. Puts (Ok c.in_ok-put-2.field-0) (g.O.Out.held c.put_steps.new.out) (g.O.Out.held c.put-2.new.self) text)
    (c.as_slice-2.ensures.value ∙ c.end_text-end.ensures) c.in_ok-put-2.ensures)
    c.of-2.result c.of-2.ensures.count

pub put_steps-requires : goal.put_steps-requires
put_steps-requires g c = (c.requires.fits.known, c.requires.fits)

pub of-requires : goal.of-requires
of-requires g c = (c.requires.fits.findings, c.requires.fits.known)
