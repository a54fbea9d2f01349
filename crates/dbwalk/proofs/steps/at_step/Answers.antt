use Rattle.std.proofs.Common.{◌≡◌, ◌/◌, subst, arith}
use Rattle.dbwalk.proofs.Common.{overflow_step, child_step, key_step, IsNextStep}
use Rattle.dbwalk.proofs.steps.at_step.Goals as goal

pub returns-in-0 : goal.returns-in-0
returns-in-0 c = let at : overflow_step (c.args.step / 3) ≡ c.args.step =
    omega arith in subst (λ s. IsNextStep c.args.view.now s c.chain_at.result) at c.chain_at.ensures

pub returns-in-1 : goal.returns-in-1
returns-in-1 c = let at : child_step (c.args.step / 3) ≡ c.args.step =
    omega arith in subst (λ s. IsNextStep c.args.view.now s c.child_at.result) at c.child_at.ensures

pub returns-in_default : goal.returns-in_default
returns-in_default c = let at : key_step (c.args.step / 3) ≡ c.args.step =
    omega arith in subst (λ s. IsNextStep c.args.view.now s c.key_at.result) at c.key_at.ensures
