use Rattle.std.proofs.Common.{◌-◌, ap, arith}
use Rattle.std.specs.Prelude.{sum_by}
use Rattle.std.proofs.lemmas.List.Sums.{sum_by-cons}
use Rattle.dbformat.specs.Head.{View, content_start, fragmented_bytes, pointers_end}
use Rattle.dbformat.specs.Coverage.{Span, unused}
use Rattle.dbpage.specs.Freeblocks.{Left}
use Rattle.dbpage.proofs.FreeblockLemmas.{unused_most}
use Rattle.dbpage.proofs.view.PageView.unused.Goals as goal

pub loop-freeblock-init : goal.loop-freeblock-init
unfolding unused
loop-freeblock-init c =
    let gap = ap (λ (v : View). content_start v.number v.bytes - pointers_end v.number v.kind v.bytes) c.self.view_is in
    let rest = ap (sum_by (λ (f : Span). f.len)) c.freeblocks-freeblock-items.ensures.all in
    let given = ap (λ (l : Left). sum_by (λ f. f.len) l.left) c.into_iter-freeblock-iterator.ensures.into_iter_gives in
    omega (arith, gap, rest, given, c.self.invariant.pointers_is, c.self.invariant.cells_is, c.self.invariant.start_is)

pub overflow_add-total-in-loop-freeblock : goal.overflow_add-total-in-loop-freeblock
overflow_add-total-in-loop-freeblock c =
    let len = λ (s : Span). s.len in
    let taken = ap (sum_by len) c.in-Some.ensures.steps.0 in
    let more = sum_by-cons len c.in-Some.freeblock c.next.new.self.left in
    let size = ap len c.freeblock.view_is in
    let most = unused_most c.args.self.now in
    let usable = ap (λ (v : View). v.usable) c.self.view_is in
    let start = ap (λ (v : View). content_start v.number v.bytes) c.self.view_is in
    let fragments = ap (λ (v : View). fragmented_bytes v.number v.bytes) c.self.view_is in
    omega (arith, taken, more, most, usable, start, fragments, size, c.loop-freeblock.invariant, c.self.invariant)
