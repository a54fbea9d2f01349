use Rattle.std.proofs.Common.{◌≡◌, ℕ, ◌+◌, ◌<◌, ◌≤◌, inl, inr, subst, arith, ◌==◌}
use Rattle.dbwalk.proofs.Common.{View, IsEmptyAt, IsNextStep, cases_Bool, nat_tests}
use Rattle.dbwalk.proofs.steps.next_from.Goals as goal

-- one more step at which there is nothing
one_more : (v : View) (start step : ℕ) → IsEmptyAt v step → ((s : ℕ) → start ≤ s → s < step → IsEmptyAt v s) → (s : ℕ) → start ≤ s → s < step + 1
    → IsEmptyAt v s
one_more v start step here before s l h = elim (cases_Bool (s == step)) [
  | inl e ↦ (let k : step ≡ s = grind (arith, nat_tests) in subst (λ n. IsEmptyAt v n) k here)
  | inr e ↦ before s l (grind (arith, nat_tests))
]

pub loop-next-preserved : goal.loop-next-preserved
loop-next-preserved c =
    let at = c.loop-next in
    let rise = at.invariant.rise in
    record {
      rise = omega arith;
      empty = one_more c.args.view.now c.args.from at.step (subst (λ n. IsNextStep c.args.view.now at.step n) c.in-Nothing.is at.invariant.next)
          at.invariant.empty;
      next = c.at_step-next-in-Nothing.ensures;
    }
