use Rattle.std.proofs.Common.{inl, inr, refl}
use Rattle.dbcli.proofs.running.answer_words.Goals as goal

pub returns-in-Ok : goal.returns-in-Ok
returns-in-Ok g c = inl (record {
  taken = c.in-Ok.ensures.taken;
  task = c.in-Ok.line.task;
  file = c.in-Ok.line.file.now;
  asked = c.in-Ok.ensures.asks;
  limit = c.in-Ok.ensures.limit;
  changes = c.in-Ok.line.changes;
  are_changes = c.in-Ok.ensures.apart;
  spelled = c.in-Ok.ensures.changes;
  recovered = c.in-Ok.line.recovered;
  is_recovered = c.in-Ok.ensures.recovered;
  ran = c.run_line.ensures;
})

pub returns-in-Err : goal.returns-in-Err
returns-in-Err g c = inr (
  c.in-Err.error,
  c.in-Err.ensures.refused,
  c.report_error.ensures,
  record { files = refl; first = refl; second = refl; notes_kept = refl },
)
