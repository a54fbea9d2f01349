use Rattle.std.proofs.Common.{◌≡◌, ◌+◌, ◌-◌, ◌≤◌, drop}
use Rattle.dbpicture.specs.Widths.{fitting}
use Rattle.dbpicture.proofs.shown.fitting.Given as goal

abbrev pub invariant-loop-at : goal.invariant-loop-at
invariant-loop-at l = record {
  room : l.taken ≤ l.width;
  fit : fitting l.width l.text ≡ l.at + fitting (l.width - l.taken) (drop l.at l.text);
}
