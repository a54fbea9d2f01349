use Rattle.std.proofs.Common.{◌≡◌, ◌∙◌, ap, length, arith}
use Rattle.std.proofs.lemmas.List.{length-take}
use Rattle.std.proofs.lemmas.Result.{err_from_is_err_and}
use Rattle.dblog.proofs.JournalSteps.{found_failed, found_none, found_some, gap_eighth, gap_moves, gap_none, gap_some}
use Rattle.dblog.specs.Journal.{gap}
use Rattle.dblog.proofs.journal_reading.read_gap.Goals as goal

pub returns-in_err-read_within : goal.returns-in_err-read_within
returns-in_err-read_within g c =
    let p = err_from_is_err_and c.from_residual.result c.from_residual.ensures.1 in
    rw p.1 (rw p.2 (found_failed c.args.shape c.args.place.now _ _ c.in_err-read_within.field-0.0 c.read_within.new.piece _ _ c.len.ensures c.at-2.ensures
    c.in_err-read_within.ensures))

pub returns-then-not-branch : goal.returns-then-not-branch
returns-then-not-branch g c =
    let long : length c.read_within.new.piece ≡ c.gap-gap.result =
    omega (arith, c.read_within.auto.piece, length-take c.gap-gap.result c.args.buffer.now, c.gap-gap.ensures.short, c.requires.room) in
    let size : length c.read_within.new.piece ≡ gap c.args.shape c.args.place.now.at =
    long ∙ c.gap-gap.ensures.gap ∙ ap (gap c.args.shape) c.at.ensures in
    found_none c.args.shape c.args.place.now _ _ c.in_ok-read_within.field-0 c.read_within.new.piece _ _ c.len.ensures c.at-2.ensures
    c.in_ok-read_within.ensures
    (λ file n w r. gap_none c.args.shape file c.args.place.now _ c.requires.none c.requires.between size (w ∙ c.if-not-branch.true))

pub returns : goal.returns
returns g c =
    let long : length c.read_within.new.piece ≡ c.gap-gap.result =
    omega (arith, c.read_within.auto.piece, length-take c.gap-gap.result c.args.buffer.now, c.gap-gap.ensures.short, c.requires.room) in
    let size : length c.read_within.new.piece ≡ gap c.args.shape c.args.place.now.at =
    long ∙ c.gap-gap.ensures.gap ∙ ap (gap c.args.shape) c.at.ensures in
    found_some c.args.shape c.args.place.now c.further.result _ _ c.in_ok-read_within.field-0 c.read_within.new.piece _ _ c.len.ensures c.at-2.ensures
    c.if-not-branch.false (ap (λ q. q.at) c.further.ensures ∙ omega (arith, long))
    (omega (arith, size, gap_moves c.args.shape c.args.place.now.at c.requires.sized c.requires.between))
    (λ e. gap_eighth c.args.shape c.args.place.now.at _ c.requires.sized c.requires.between
    (ap (λ q. q.at) c.further.ensures ∙ omega (arith, long, size))) c.in_ok-read_within.ensures
    (λ file n w r. gap_some c.args.shape file c.args.place.now c.further.result _ _ c.requires.none c.requires.between size long c.further.ensures w)
