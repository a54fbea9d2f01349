use Rattle.std.proofs.Common.{◌≡◌, ℕ, ◌+◌, ◌-◌, ◌<◌, inl, inr, subst, arith}
use Rattle.std.proofs.lemmas.Bool.{cases_lt}
use Rattle.dbpage.specs.Notes.{AreInside, Walked, end_at}
use Rattle.dbpage.proofs.Noted.{none_before, walk_begins, walk_on, walk_over}
use Rattle.dbpage.proofs.notes.held_in_order.Goals as goal

-- no item begins where none has a length
none_here : (ends : ℕ → ℕ) (start end at len : ℕ) → AreInside ends start end → len ≡ ends at - at → len ≡ 0 → ends at ≡ 0
none_here ends start end at len inside is none = elim (cases_lt 0 (ends at)) [
  | inl some ↦ absurd (omega (arith, is, none, inside at some))
  | inr over ↦ omega (arith, over)
]

pub loop-at-init : goal.loop-at-init
loop-at-init c =
    let ends = end_at c.args.table.now c.args.start c.args.end in
    let none : 0 ≡ c.args.start - c.args.start - 0 = omega arith in
    record {
      from = omega arith;
      before = c.requires.order;
      walked = subst (Walked ends c.args.end c.args.start) none
          (walk_begins ends c.args.start c.args.end c.requires.inside (none_before ends c.args.start c.args.end c.requires.inside));
    }

pub loop-at-preserved-then-len-eq0 : goal.loop-at-preserved-then-len-eq0
loop-at-preserved-then-len-eq0 c =
    let now = c.loop-at.invariant in
    let at = c.loop-at.at in
    let ends = end_at c.args.table.now c.args.start c.args.end in
    let seen : ℕ = at - c.args.start - c.loop-at.others in
    let as_many : seen ≡ at + 1 - c.args.start - (c.loop-at.others + 1) = omega (arith, now.from) in
    record {
      from = omega (arith, now.from);
      before = omega (arith, c.loop-at-test.true);
      walked = subst (Walked ends c.args.end (at + 1)) as_many
          (walk_on ends c.args.start c.args.end c.requires.inside at seen now.walked
          (none_here ends c.args.start c.args.end at c.len_at-len.result c.requires.inside (c.len_at-len.ensures c.args.end now.before)
          (omega (arith, c.if-len-eq0.true))));
    }

pub loop-at-preserved : goal.loop-at-preserved
loop-at-preserved c =
    let now = c.loop-at.invariant in
    let at = c.loop-at.at in
    let ends = end_at c.args.table.now c.args.start c.args.end in
    let seen : ℕ = at - c.args.start - c.loop-at.others in
    let len = c.len_at-len.ensures c.args.end now.before in
    let some : 0 < ends at = omega (arith, len, c.if-len-eq0.false) in
    let inside = c.requires.inside at some in
    let next : ends at ≡ at + c.len_at-len.result = omega (arith, len, inside) in
    let more : seen + (ends at - at) ≡ ends at - c.args.start - c.loop-at.others = omega (arith, now.from, inside) in
    record {
      from = omega (arith, now.from);
      before = omega (arith, inside, next);
      walked = subst (λ (n : ℕ). Walked ends c.args.end n (n - c.args.start - c.loop-at.others)) next
          (subst (Walked ends c.args.end (ends at)) more
          (walk_over ends c.args.start c.args.end c.requires.inside at seen now.walked some (omega (arith, inside))));
    }

pub overflow_add-at-in-loop-at : goal.overflow_add-at-in-loop-at
overflow_add-at-in-loop-at c =
    let at = c.loop-at.at in
    let len = c.len_at-len.ensures c.args.end c.loop-at.invariant.before in
    omega (arith, len, c.requires.inside at (omega (arith, len, c.if-len-eq0.false)), c.requires.most)

pub returns : goal.returns
returns c =
    let now = c.loop-at.invariant in
    let there : c.loop-at.at ≡ c.args.end = omega (arith, now.before, c.loop-at-test.false) in
    subst (λ (n : ℕ). Walked (end_at c.args.table.now c.args.start c.args.end) c.args.end n (n - c.args.start - c.loop-at.others)) there now.walked
