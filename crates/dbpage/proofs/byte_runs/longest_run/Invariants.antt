use Rattle.std.proofs.Common.{◌≡◌, ◌≤◌, ◌+◌, length, drop}
use Rattle.dbformat.specs.Runs.{longest_run}
use Rattle.dbpage.proofs.LongRuns.{run_at}
use Rattle.dbpage.proofs.byte_runs.longest_run.Given as goal

abbrev pub invariant-loop-i : goal.invariant-loop-i
invariant-loop-i l = record {
  within : l.i ≤ length l.bytes;
  longest_is : l.longest ≡ longest_run (l.at + l.i) (drop l.i l.bytes);
  run_is : l.run ≡ run_at (l.at + l.i) (drop l.i l.bytes);
}

abbrev pub decreases-loop-i : goal.decreases-loop-i
decreases-loop-i l = l.i
