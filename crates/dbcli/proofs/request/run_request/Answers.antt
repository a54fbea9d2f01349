use Rattle.std.proofs.Common.{rules, refl}
use Rattle.dbreport.proofs.RunAnswers.{first_failures, refused_unwritten}
use Rattle.dbsource.proofs.Runs.{read_weaker}
use Rattle.dbexplain.specs.Runs.{verdict_in}
use Rattle.dbcli.proofs.Explaining.{explain_fails, fail_as_answered}
use Rattle.dbcli.proofs.request.run_request.Goals as goal

pub returns-in-Report-clause-read : goal.returns-in-Report-clause-read
returns-in-Report-clause-read g c = rw c.in-Report.is (read_weaker _ _ c.run.ensures.read (λ ranges p. p) (λ file ranges p t. (t.0, t.1.run)))

pub returns-in-Report-clause-writes : goal.returns-in-Report-clause-writes
returns-in-Report-clause-writes g c =
    fail_as_answered c.run.result c.args.request (g.O.Out.held c.args.out.now) (g.O.Out.held c.run.new.out) (g.E.Out.held c.args.err.now)
    (g.E.Out.held c.run.new.err) c.run.ensures.failed.writes

pub returns-in-Explain-clause-read : goal.returns-in-Explain-clause-read
returns-in-Explain-clause-read g c =
    rw c.in-Explain.is (rw c.reported_verdict.ensures (read_weaker _ _ c.explain.ensures.read (λ ranges p. p) (λ file ranges p t. (t.0, t.1.0))))

pub returns-in-Explain-clause-writes : goal.returns-in-Explain-clause-writes
returns-in-Explain-clause-writes g c =
    rw c.in-Explain.is (rw c.reported_verdict.ensures (explain_fails (verdict_in c.explain.result) c.in-Explain.limit (g.O.Out.held c.args.out.now)
    (g.O.Out.held c.explain.new.out) (g.E.Out.held c.args.err.now) c.explain.ensures.failed.writes))

pub returns-in-Explain-clause-refused : goal.returns-in-Explain-clause-refused
returns-in-Explain-clause-refused g c = rw c.reported_verdict.ensures (record {
  asked = c.explain.ensures.refused.asked;
  first = c.explain.ensures.refused.unwritten;
  second = refused_unwritten (verdict_in c.explain.result) c.args.err.now;
})

pub returns-in-Map-clause-read : goal.returns-in-Map-clause-read
returns-in-Map-clause-read g c = rw c.in-Map.is (read_weaker _ _ c.map.ensures.read (λ ranges p. p) (λ file ranges p t. t))

pub returns-in-Map-clause-writes : goal.returns-in-Map-clause-writes
returns-in-Map-clause-writes g c =
    fail_as_answered c.map.result c.args.request (g.O.Out.held c.args.out.now) (g.O.Out.held c.map.new.out) (g.E.Out.held c.args.err.now)
    (g.E.Out.held c.args.err.now)
    (first_failures c.map.result (g.O.Out.held c.args.out.now).failures (g.O.Out.held c.map.new.out).failures (g.E.Out.held c.args.err.now).failures
    c.map.ensures.failed.writes)

pub returns-in-Map-clause-refused : goal.returns-in-Map-clause-refused
returns-in-Map-clause-refused g c = record {
  asked = c.map.ensures.refused.asked;
  first = c.map.ensures.refused.unwritten;
  second = refused_unwritten c.map.result c.args.err.now;
}

pub returns-in-Report-clause-reads : goal.returns-in-Report-clause-reads
returns-in-Report-clause-reads g c = c.run.ensures.failed.reads

pub returns-in-Report-clause-refused : goal.returns-in-Report-clause-refused
returns-in-Report-clause-refused g c = c.run.ensures.refused

pub returns-in-Explain-clause-reads : goal.returns-in-Explain-clause-reads
returns-in-Explain-clause-reads g c = rw c.reported_verdict.ensures c.explain.ensures.failed.reads

pub returns-in-Explain-clause-second : goal.returns-in-Explain-clause-second
returns-in-Explain-clause-second g c = λ is. refl

pub returns-in-Map-clause-reads : goal.returns-in-Map-clause-reads
returns-in-Map-clause-reads g c = c.map.ensures.failed.reads

pub returns-in-Map-clause-second : goal.returns-in-Map-clause-second
returns-in-Map-clause-second g c = λ is. refl

pub returns-in-Report-clause-second : goal.returns-in-Report-clause-second
returns-in-Report-clause-second g c = search rules
