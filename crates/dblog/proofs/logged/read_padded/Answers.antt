use Rattle.std.proofs.Common.{◌≡◌, ◌-◌, ◌++◌, ◌∙◌, length, sym, ap, arith, drop}
use Rattle.std.specs.Prelude.{min}
use Rattle.std.proofs.lemmas.List.{length-append, length-drop, length-take}
use Rattle.std.proofs.lemmas.Result.{err_from_is_err_and}
use Rattle.dblog.proofs.Padded.{padded_failed, padded_given}
use Rattle.dblog.proofs.logged.read_padded.Goals as goal

pub returns-in_err-read_at : goal.returns-in_err-read_at
returns-in_err-read_at g c =
    let p = err_from_is_err_and c.from_residual.result c.from_residual.ensures.1 in
    let read = c.read_at.new.buf in
    let rest = drop c.min-count.result c.args.buf.now in
    let size : length read ≡ c.min-count.result = omega (arith, c.read_at.auto.buf, length-take c.min-count.result c.args.buf.now) in
    let whole : length (read ++ rest) ≡ length c.args.buf.now = omega (arith, length-append read rest, length-drop c.min-count.result c.args.buf.now) in
    rw p.1 (padded_failed _ c.args.len c.args.offset c.min-count.result read (read ++ rest) _ _ (omega arith)
    (c.min-count.ensures ∙ ap (min (c.args.len - c.args.offset)) (sym whole)) size
    c.in_err-read_at.ensures.told c.in_err-read_at.ensures.trail c.in_err-read_at.ensures.count)

pub returns : goal.returns
returns g c =
    let read = c.read_at.new.buf in
    let rest = drop c.min-count.result c.args.buf.now in
    let size : length read ≡ c.min-count.result = omega (arith, c.read_at.auto.buf, length-take c.min-count.result c.args.buf.now) in
    let whole : length (read ++ rest) ≡ length c.args.buf.now = omega (arith, length-append read rest, length-drop c.min-count.result c.args.buf.now) in
    let long : length c.clear_from-2.new.buf ≡ length (read ++ rest) = c.clear_from-2.ensures.long in
    padded_given c.args.len c.args.offset c.min-count.result read rest c.clear_from-2.new.buf _ _ (omega arith)
    (c.min-count.ensures ∙ ap (min (c.args.len - c.args.offset)) (sym (long ∙ whole))) size
    c.clear_from-2.ensures.kept (λ k l m. c.clear_from-2.ensures.cleared k l (omega (arith, long)))
    c.in_ok-read_at.ensures.told c.in_ok-read_at.ensures.trail c.in_ok-read_at.ensures.count c.in_ok-read_at.ensures.bytes
