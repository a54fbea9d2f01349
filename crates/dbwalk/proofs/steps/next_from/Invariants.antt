use Rattle.std.proofs.Common.{ℕ, ◌+◌, ◌-◌, ◌*◌, ◌<◌, ◌≤◌}
use Rattle.dbwalk.specs.Steps.{IsEmptyAt, IsNextStep}
use Rattle.dbwalk.proofs.steps.next_from.Given as goal

abbrev pub invariant-loop-next : goal.invariant-loop-next
invariant-loop-next l = record {
  rise : l.from ≤ l.step;
  empty : (s : ℕ) → l.from ≤ s → s < l.step → IsEmptyAt l.view s;
  next : IsNextStep l.view l.step l.next;
}

abbrev pub decreases-loop-next : goal.decreases-loop-next
decreases-loop-next l = 3 * l.cells + 2 - l.step
