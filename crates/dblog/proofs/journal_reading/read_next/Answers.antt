use Rattle.std.proofs.Common.{arith}
use Rattle.dblog.proofs.journal_reading.read_next.Goals as goal

pub returns-then-left-gt0 : goal.returns-then-left-gt0
returns-then-left-gt0 g c = record {
  finds = c.read_record.ensures.finds;
  between = λ e. absurd (omega (arith, e, c.if-left-gt0.true, c.left.ensures));
  kept = λ l. c.read_record.ensures.kept;
}
