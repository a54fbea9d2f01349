use Rattle.std.proofs.Common.{◌≡◌, ◌∙◌, sym, ap, length, arith}
use Rattle.std.specs.Prelude.{Some}
use Rattle.std.proofs.lemmas.List.{length-take}
use Rattle.std.proofs.lemmas.Result.{err_from_is_err_and}
use Rattle.dblog.proofs.JournalSteps.{eight_more, found_failed, found_none, found_some, head_is, head_other, head_read, head_short}
use Rattle.dblog.specs.Journal.{place_after}
use Rattle.dblog.proofs.journal_reading.read_head.Goals as goal

pub returns-in_err-read_within : goal.returns-in_err-read_within
returns-in_err-read_within g c =
    let p = err_from_is_err_and c.from_residual.result c.from_residual.ensures.1 in
    rw p.1 (rw p.2 (found_failed c.args.shape c.args.place.now _ _ c.in_err-read_within.field-0.0 c.read_within.new.piece _ _ c.len.ensures c.at.ensures
    c.in_err-read_within.ensures))

pub returns-then-not-branch : goal.returns-then-not-branch
returns-then-not-branch g c =
    let size : length c.read_within.new.piece ≡ c.args.shape.sector =
    omega (arith, c.read_within.auto.piece, c.sector.ensures, length-take c.sector.result c.args.buffer.now, c.requires.room) in
    found_none c.args.shape c.args.place.now _ _ c.in_ok-read_within.field-0 c.read_within.new.piece _ _ c.len.ensures c.at.ensures
    c.in_ok-read_within.ensures
    (λ file n w r. head_short c.args.shape file c.args.place.now _ c.requires.none c.requires.at size (w ∙ c.if-not-branch.true))

pub returns-then-not-has_magic : goal.returns-then-not-has_magic
returns-then-not-has_magic g c =
    let size : length c.read_within.new.piece ≡ c.args.shape.sector =
    omega (arith, c.read_within.auto.piece, c.sector.ensures, length-take c.sector.result c.args.buffer.now, c.requires.room) in
    found_none c.args.shape c.args.place.now _ _ c.in_ok-read_within.field-0 c.read_within.new.piece _ _ c.len.ensures c.at.ensures
    c.in_ok-read_within.ensures
    (λ file n w r. head_read c.args.shape file c.args.place.now c.read_within.new.piece c.requires.none c.requires.at size
    (w ∙ c.if-not-branch.false) (r c.if-not-branch.false)
    ∙ head_other c.args.shape c.read_within.new.piece c.args.place.now.at (sym c.if-not-has_magic.ensures))

pub returns : goal.returns
returns g c =
    let size : length c.read_within.new.piece ≡ c.args.shape.sector =
    omega (arith, c.read_within.auto.piece, c.sector.ensures, length-take c.sector.result c.args.buffer.now, c.requires.room) in
    found_some c.args.shape c.args.place.now c.place_after.result _ _ c.in_ok-read_within.field-0 c.read_within.new.piece _ _ c.len.ensures c.at.ensures
    c.if-not-branch.false (ap (λ q. q.at) c.place_after.ensures ∙ omega (arith, size, c.at-2.ensures)) (omega (arith, size, c.requires.sized.sector))
    (eight_more c.args.place.now.at c.args.shape.sector _ (ap (λ q. q.at) c.place_after.ensures ∙ omega (arith, c.at-2.ensures)) c.requires.sized.sector_by_8)
    c.in_ok-read_within.ensures
    (λ file n w r. head_read c.args.shape file c.args.place.now c.read_within.new.piece c.requires.none c.requires.at size w r
    ∙ head_is c.args.shape c.read_within.new.piece c.args.place.now.at (sym c.if-not-has_magic.ensures)
    ∙ ap (λ q. Some q) (ap (place_after c.args.shape c.read_within.new.piece) (sym c.at-2.ensures) ∙ sym c.place_after.ensures))
