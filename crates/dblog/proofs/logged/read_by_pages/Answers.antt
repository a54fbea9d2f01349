use Rattle.std.proofs.Common.{◌≡◌, ◌+◌, ◌-◌, length, take, refl, sym, ap, arith, rules}
use Rattle.std.proofs.lemmas.List.{length-take, take_all}
use Rattle.std.proofs.lemmas.Result.{err_from_is_err_and}
use Rattle.std.proofs.lemmas.Slice.{overwrites, take-put_mid}
use Rattle.dblog.specs.Placed.{placed}
use Rattle.dblog.proofs.ByPages.{began_all, began_failed, began_more, began_none}
use Rattle.dblog.proofs.logged.read_by_pages.Goals as goal

pub loop-done-init : goal.loop-done-init
loop-done-init g c = (omega arith, refl, began_none (placed c.args.pages.now c.args.base_len) c.args.offset _ (omega (arith, c.requires.within)))

pub returns-in_err-read_in_page : goal.returns-in_err-read_in_page
returns-in_err-read_in_page g c =
    let p = err_from_is_err_and c.from_residual.result c.from_residual.ensures.1 in
    rw p.1 (began_failed _ (placed c.args.pages.now c.args.base_len) c.args.offset (c.args.offset + c.loop-done.done) (length c.args.buf.now)
    (take c.loop-done.done c.loop-done.buf) c.read_in_page.new.buf _ _ _ _ (search (rules, overwrites)) c.requires.more
    (omega (arith, c.read_in_page.auto.buf, c.min-count.ensures, c.loop-done.invariant.1, c.loop-done.invariant.0, c.requires.within))
    c.loop-done.invariant.2 c.in_err-read_in_page.ensures)

pub loop-done-preserved : goal.loop-done-preserved
loop-done-preserved g c =
    let n = c.loop-done.done in
    let piece = c.read_in_page.new.buf in
    let size : length piece ≡ c.min-count.result = omega (arith, c.read_in_page.auto.buf, c.min-count.ensures) in
    let seen = take-put_mid n (n + c.min-count.result - n) c.loop-done.buf piece (n + c.min-count.result) (omega (arith, size)) (c.loop-done.invariant.0) in
    let front : length (take n c.loop-done.buf) ≡ n = omega (arith, length-take n c.loop-done.buf, c.loop-done.invariant.0) in (
      search (rules, overwrites),
      search (rules, overwrites),
      began_more (placed c.args.pages.now c.args.base_len) c.args.offset (c.args.offset + n) (take n c.loop-done.buf) piece _ _ _ _
          seen (ap (λ k. c.args.offset + k) (sym front)) c.loop-done.invariant.2 c.in_ok-read_in_page.ensures,
    )

pub returns : goal.returns
returns g c = began_all (placed c.args.pages.now c.args.base_len) c.args.offset (take c.loop-done.done c.loop-done.buf) c.loop-done.buf _ _
    (omega (arith, c.requires.more, c.loop-done.invariant.1)) (take_all c.loop-done.done c.loop-done.buf (omega (arith, c.loop-done-test.false)))
    c.loop-done.invariant.2
