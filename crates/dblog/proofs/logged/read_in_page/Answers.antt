use Rattle.std.proofs.Common.{◌≡◌, ◌<◌, ◌+◌, ◌/◌, ◌%◌, ◌∙◌, sym, ap, ap₂, subst, arith, None, Some}
use Rattle.std.specs.Prelude.{OnOk, IfSome}
use Rattle.dbsource.specs.Answers.{IsRangeOf, answer}
use Rattle.dblog.specs.Entries.{named_frame}
use Rattle.dbformat.specs.Log.{range}
use Rattle.dblog.specs.Placed.{IsInOnePage, frame_for, page_start, placed}
use Rattle.dblog.proofs.BothRead.{read_from_base, read_from_log}
use Rattle.dblog.proofs.logged.read_in_page.Goals as goal

pub returns-in-Some : goal.returns-in-Some
returns-in-Some g c =
    let p = placed c.args.pages.now c.args.base_len in
    let size : c.from-size.result ≡ c.args.pages.now.page_size = c.from-size.ensures ∙ c.page_size.ensures.size in
    let some : 0 < c.args.pages.now.page_size = omega (arith, c.page_size.ensures.least, c.page_size.ensures.size) in
    let at : frame_for p c.args.offset ≡ Some c.in-Some.frame =
    ap (λ n. named_frame c.args.pages.now.entries (c.args.offset / n + 1)) (sym size) ∙ sym c.frame_of.ensures ∙ c.in-Some.is in
    let place : c.start_of.result + c.args.offset % c.from-size.result ≡ page_start c.args.pages.now.first c.args.pages.now.stride c.in-Some.frame
    + c.args.offset % c.args.pages.now.page_size =
    ap₂ (λ a b. a + c.args.offset % b) c.start_of.ensures.start size in
    read_from_log p c.args.offset c.in-Some.frame c.read_at.result c.read_at.new.buf _ _ _ some
    (subst (λ n. IsInOnePage p (range c.args.offset n)) (sym c.read_at.auto.buf) c.requires.one) at c.read_at.ensures.told
    (subst (λ n. g.L.Source.step (g.L.Source.held c.args.log.now).trail (answer c.read_at.result n c.read_at.new.buf)
    (g.L.Source.held c.read_at.new.self).trail)
    place c.read_at.ensures.trail) c.read_at.ensures.count
    (subst (λ n. OnOk c.read_at.result (IfSome (g.L.Source.held c.args.log.now).bytes (λ file. IsRangeOf file n c.read_at.new.buf)))
    place c.read_at.ensures.bytes)

pub returns-in-None : goal.returns-in-None
returns-in-None g c =
    let p = placed c.args.pages.now c.args.base_len in
    let size : c.from-size.result ≡ c.args.pages.now.page_size = c.from-size.ensures ∙ c.page_size.ensures.size in
    let some : 0 < c.args.pages.now.page_size = omega (arith, c.page_size.ensures.least, c.page_size.ensures.size) in
    let at : frame_for p c.args.offset ≡ None =
    ap (λ n. named_frame c.args.pages.now.entries (c.args.offset / n + 1)) (sym size) ∙ sym c.frame_of.ensures ∙ c.in-None.is in
    read_from_base p c.args.offset c.read_padded.result c.read_padded.new.buf _ _ _ some
    (subst (λ n. IsInOnePage p (range c.args.offset n)) (sym c.read_padded.auto.buf) c.requires.one) at c.read_padded.ensures
