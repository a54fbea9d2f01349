use Rattle.std.proofs.Common.{Err, Result, ap, sym, subst, ◌∙◌}
use Rattle.dbexplain.proofs.Common.{Verdict, RunError}
use Rattle.dbexplain.specs.Reporting.{Ends}
use Rattle.dbexplain.proofs.reporter.ExplainReporter.end.Goals as goal

pub returns-in-Err-ReadFailed-clause-lines : goal.returns-in-Err-ReadFailed-clause-lines
returns-in-Err-ReadFailed-clause-lines g c =
    let after = record c.args.self.now { out = record c.args.self.now.out { now = c.put_found.new.out } } in
    subst (λ (r : Result Verdict RunError). Ends g.O.Out.held r c.args.self.now after)
    (sym (c.in-Err-ReadFailed.is ∙ ap Err (rw c.in-Err-ReadFailed.is at c.in-Err-ReadFailed.field-0-is)))
    (record { put = c.put_found.result; lines = c.put_found.ensures })
