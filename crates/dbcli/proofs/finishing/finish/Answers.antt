use Rattle.std.proofs.Common.{ap}
use Rattle.dbsource.proofs.Runs.{read_weaker}
use Rattle.dbcli.proofs.Exits.{finish_of, known, refused_at_3, unreported, unwritten_at_3}
use Rattle.dbcli.proofs.Handing.{failed_at_6, first_at_error, line_at_error, quiet_at_verdict, second_at_error, second_few, second_kept, source_failures}
use Rattle.dbcli.proofs.Handing.{still_for, still_refused, still_unwritten, tried_of, whole_at_verdict}
use Rattle.dbcli.proofs.finishing.finish.Goals as goal

pub returns-clause-read : goal.returns-clause-read
returns-clause-read g c =
    let o = c.run_request-outcome.result in
    let r = c.hand_on-outcome.result in
    let out = g.O.Out.held c.args.out.now in
    let err = g.E.Out.held c.args.err.now in
    let out1 = g.O.Out.held c.run_request-outcome.new.out in
    let out2 = g.O.Out.held c.hand_on-outcome.new.out in
    let err1 = g.E.Out.held c.run_request-outcome.new.err in
    let err2 = g.E.Out.held c.hand_on-outcome.new.err in
    let err3 = g.E.Out.held c.end.new.err in
    let h = c.hand_on-outcome.ensures.handed in
    rw c.end.ensures.status (record {
      read = read_weaker _ _ c.run_request-outcome.ensures.read (λ ranges p. p) (λ file ranges p t. (
        t.0,
        finish_of c.args.request file r out out2 err err2 err3
            (still_for out1 out2 err1 err2 c.args.request file o r out err h t.1)
            (unreported (λ x. (g.O.Out.held x).bytes) r c.args.out.now c.hand_on-outcome.new.out
            (still_unwritten out1 out2 err1 err2 o r c.args.out.now c.run_request-outcome.new.out c.hand_on-outcome.new.out h
            c.run_request-outcome.ensures.refused.first c.hand_on-outcome.ensures.refused))
            (λ w. second_kept out err out1 err1 out2 err2 err3 o r h (ap g.E.Out.held (c.run_request-outcome.ensures.second w)))
            c.end.ensures.quiet (second_few out err out1 err1 out2 err2 err3 c.args.request o r c.run_request-outcome.ensures.writes h) c.end.ensures.line,
      ));
      refused = refused_at_3 _ r _ _ (still_refused out1 out2 err1 err2 _ o r _ _ h c.run_request-outcome.ensures.refused.asked);
    })

pub returns-clause-status : goal.returns-clause-status
returns-clause-status g c = rw c.end.ensures.status (known c.hand_on-outcome.result)

pub returns-clause-failed : goal.returns-clause-failed
returns-clause-failed g c =
    let o = c.run_request-outcome.result in
    let r = c.hand_on-outcome.result in
    let out1 = g.O.Out.held c.run_request-outcome.new.out in
    let out2 = g.O.Out.held c.hand_on-outcome.new.out in
    let err1 = g.E.Out.held c.run_request-outcome.new.err in
    let err2 = g.E.Out.held c.hand_on-outcome.new.err in
    let err3 = g.E.Out.held c.end.new.err in
    let h = c.hand_on-outcome.ensures.handed in
    rw c.end.ensures.status (record {
      reads = source_failures out1 out2 err1 err2 o r h _ _ c.run_request-outcome.ensures.reads;
      writes = failed_at_6 (g.O.Out.held c.args.out.now) (g.E.Out.held c.args.err.now) out1 err1 out2 err2 err3 c.args.request o r
          c.run_request-outcome.ensures.writes h (tried_of r err2 err3 c.end.ensures.line);
    })

pub returns-clause-first : goal.returns-clause-first
returns-clause-first g c =
    let o = c.run_request-outcome.result in
    let r = c.hand_on-outcome.result in
    let out = g.O.Out.held c.args.out.now in
    let err = g.E.Out.held c.args.err.now in
    let out1 = g.O.Out.held c.run_request-outcome.new.out in
    let out2 = g.O.Out.held c.hand_on-outcome.new.out in
    let err1 = g.E.Out.held c.run_request-outcome.new.err in
    let err2 = g.E.Out.held c.hand_on-outcome.new.err in
    let err3 = g.E.Out.held c.end.new.err in
    let h = c.hand_on-outcome.ensures.handed in
    rw c.end.ensures.status (record {
      whole = λ k. (whole_at_verdict out err out1 err1 out2 err2 err3 c.args.request o r c.run_request-outcome.ensures.writes h c.end.ensures.quiet k).0;
      unwritten = unwritten_at_3 r c.args.out.now c.hand_on-outcome.new.out
          (still_unwritten out1 out2 err1 err2 o r c.args.out.now c.run_request-outcome.new.out c.hand_on-outcome.new.out h
          c.run_request-outcome.ensures.refused.first c.hand_on-outcome.ensures.refused);
      tried = first_at_error out err out1 err1 out2 err2 err3 c.args.request o r c.run_request-outcome.ensures.writes h;
    })

pub returns-clause-second : goal.returns-clause-second
returns-clause-second g c =
    let o = c.run_request-outcome.result in
    let r = c.hand_on-outcome.result in
    let out = g.O.Out.held c.args.out.now in
    let err = g.E.Out.held c.args.err.now in
    let out1 = g.O.Out.held c.run_request-outcome.new.out in
    let out2 = g.O.Out.held c.hand_on-outcome.new.out in
    let err1 = g.E.Out.held c.run_request-outcome.new.err in
    let err2 = g.E.Out.held c.hand_on-outcome.new.err in
    let err3 = g.E.Out.held c.end.new.err in
    let h = c.hand_on-outcome.ensures.handed in
    let few = second_few out err out1 err1 out2 err2 err3 c.args.request o r c.run_request-outcome.ensures.writes h in
    rw c.end.ensures.status (record {
      whole = λ k. (whole_at_verdict out err out1 err1 out2 err2 err3 c.args.request o r c.run_request-outcome.ensures.writes h c.end.ensures.quiet k).1;
      tried = second_at_error out err out1 err1 out2 err2 err3 r few c.end.ensures.line;
      quiet = λ w. quiet_at_verdict out err out1 err1 out2 err2 err3 r c.end.ensures.quiet
          (second_kept out err out1 err1 out2 err2 err3 o r h (ap g.E.Out.held (c.run_request-outcome.ensures.second w)));
      line = λ w. line_at_error out err out1 err1 out2 err2 err3 r few c.end.ensures.line
          (second_kept out err out1 err1 out2 err2 err3 o r h (ap g.E.Out.held (c.run_request-outcome.ensures.second w)));
    })
