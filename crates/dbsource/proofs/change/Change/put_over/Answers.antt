use Rattle.std.proofs.Common.{ap, arith, inl, inr, subst, ◌∙◌, ◌≡◌, ◌+◌, ◌-◌, ◌≤◌, ◌<◌, length, take, drop}
use Rattle.std.specs.Prelude.{min}
use Rattle.dbsource.proofs.Changed.{put_parts, put_none}
use Rattle.dbsource.proofs.change.Change.put_over.Goals as goal

pub returns-then-passed-bytes : goal.returns-then-passed-bytes
returns-then-passed-bytes c =
    let at = c.saturating_sub-skipped.result in
    let from = c.saturating_sub-passed.result in
    let count = c.min-count.result in
    let size : at + count - at ≡ count = omega arith in
    let stop : from + count - from ≡ count = omega arith in
    rw (← c.self.view_is) (put_parts _ c.args.offset at from count (at + count - at) c.args.buf.now c.copy_from_slice.new.self
    c.saturating_sub-skipped.ensures c.saturating_sub-passed.ensures c.if-skipped-buf.true
    (subst (λ l. from < length l) c.as_slice-bytes.ensures.value c.if-passed-bytes.true)
    (subst (λ l. count ≡ min (length l - from) (length c.args.buf.now - at)) c.as_slice-bytes.ensures.value c.min-count.ensures)
    (c.copy_from_slice.ensures.after ∙ ap (λ n. take n (drop from c.as_slice-bytes.result.now)) stop
    ∙ ap (λ l. take count (drop from l)) c.as_slice-bytes.ensures.value) size)

pub returns-else-skipped-buf : goal.returns-else-skipped-buf
returns-else-skipped-buf c =
    rw (← c.self.view_is) (put_none _ c.args.offset _ _ c.args.buf.now c.saturating_sub-skipped.ensures c.saturating_sub-passed.ensures
    (elim c.else-skipped-buf.either [
      | inl h ↦ inr (subst (λ l. length l ≤ c.saturating_sub-passed.result) c.as_slice-bytes.ensures.value h.1)
      | inr h ↦ inl h
    ]) c.self.invariant.some)
