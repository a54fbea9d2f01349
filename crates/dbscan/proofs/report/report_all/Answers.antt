use Rattle.dbscan.proofs.Common.{arith, ◌≡◌, [], ◌∷◌, ◌++◌, take, Some, None, refl, sym, subst, ◌∙◌, IfErr, append-nil, take_all, WriteFailed, Moves, SinkMoves}
use Rattle.dbscan.proofs.Common.{Reports, whole, items_of, Moves-append, asked_both, moves_some, moves_then}
use Rattle.dbsurvey.proofs.Moving.{Moves-one}
use Rattle.dbscan.proofs.Notifiers.{asked_after}
use Rattle.dbscan.proofs.ReportedFaults.{items_more}
use Rattle.dbscan.proofs.report.report_all.Goals.{in-Some, in_default}
use Rattle.dbscan.proofs.report.report_all.Goals as goal

pub loop-fault-preserved : goal.loop-fault-preserved
loop-fault-preserved g c =
    let faults = c.args.faults.now in
    let i = c.loop-fault.fault-index in
    let receives = g.K.Reporter.receives in
    let held = g.K.Reporter.held in
    elim c.match-fault.branch [
      | in-Some w ↦ record {
        reported = subst (λ l. Moves receives c.args.reporter.now l c.match-fault.reporter)
            (sym (items_more c.args.part faults i (Some w.in-Some.fault) c.loop-fault-test.true w.in-Some.is))
            (subst (λ s. Moves receives c.args.reporter.now (items_of c.args.part (take i faults) ++ (whole c.args.part w.in-Some.fault ∷ [])) s)
            (sym w.reporter-is)
            (Moves-append receives c.args.reporter.now c.loop-fault.reporter w.receive.new.self (items_of c.args.part (take i faults))
            (whole c.args.part w.in-Some.fault ∷ []) c.loop-fault.invariant.reported
            (Moves-one receives c.loop-fault.reporter w.receive.new.self (whole c.args.part w.in-Some.fault) w.receive.ensures.notice)));
        writes = subst (λ s. SinkMoves (held c.args.reporter.now) (held s)) (sym w.reporter-is)
            (moves_then c.loop-fault.invariant.writes w.receive.ensures.count);
      }
      | in_default w ↦ record {
        reported = subst (λ l. Moves receives c.args.reporter.now l c.match-fault.reporter)
            (sym (items_more c.args.part faults i None c.loop-fault-test.true w.in_default.is ∙ append-nil (items_of c.args.part (take i faults))))
            (subst (λ s. Moves receives c.args.reporter.now (items_of c.args.part (take i faults)) s) (sym w.reporter-is) c.loop-fault.invariant.reported);
        writes = subst (λ s. SinkMoves (held c.args.reporter.now) (held s)) (sym w.reporter-is) c.loop-fault.invariant.writes;
      }
    ]

pub returns : goal.returns
returns g c =
    let receives = g.K.Reporter.receives in
    let held = g.K.Reporter.held in
    let start = c.args.reporter.now in
    let end = c.loop-fault.reporter in
    let items = items_of c.args.part c.args.faults.now in
    let shut = (held end).is_shut in
    let all = subst (λ l. Moves receives start (items_of c.args.part l) end) (take_all c.loop-fault.fault-index c.args.faults.now (omega arith))
    c.loop-fault.invariant.reported in record {
      reported = asked_both (λ r. Reports receives r start items end) shut c.ask.ensures all (moves_some receives start end items all);
      writes = asked_after c.ask.ensures c.loop-fault.invariant.writes c.requires;
      only = asked_both (λ r. IfErr r (λ e. e ≡ WriteFailed)) shut c.ask.ensures tt refl;
    }
