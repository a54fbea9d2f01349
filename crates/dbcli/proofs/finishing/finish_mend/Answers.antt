use Rattle.dbcli.proofs.finishing.finish_mend.Goals as goal

pub returns : goal.returns
returns g c = record {
  answer = c.mend-answer.result;
  written = c.mend-answer.new.out;
  mended = c.mend-answer.ensures.mended;
  outcome = c.hand_on_mend-outcome.result;
  second = c.hand_on_mend-outcome.new.err;
  handed = c.hand_on_mend-outcome.ensures;
  is_status = c.end.ensures.status;
  quiet = c.end.ensures.quiet;
  line = c.end.ensures.line;
}
