use Rattle.dbpage.specs.Beginning.{AreInRun}
use Rattle.dbpage.specs.Packed.{AddUpTo}
use Rattle.dbpage.proofs.view.PageView.packed_in_run.Given as goal

abbrev pub invariant-loop-i : goal.invariant-loop-i
invariant-loop-i l = record {
  read : AddUpTo l.self l.i l.sums;
  run : AreInRun l.self l.i l.run.from l.run.to;
}
