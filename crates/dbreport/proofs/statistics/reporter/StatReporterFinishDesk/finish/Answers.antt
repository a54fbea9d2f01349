use Rattle.dbreport.proofs.Common.{Ok, refl, ReceivesOpen, finished, stat_held, LeavesStat}
use Rattle.dbreport.proofs.StatReports.{stat_ended}
use Rattle.dbreport.proofs.statistics.reporter.StatReporterFinishDesk.finish.Goals as goal

pub returns : goal.returns
returns g c =
    let held = g.O.Out.held in
    let held' = g.E.Out.held in
    finished g.S.Source (ReceivesOpen held held') (stat_held held held') (LeavesStat held held') (Ok c.verdict.result) c.args._desk.now c.args._source.now
    c.args.self.now c.args.self.now tt refl
    (λ file V first received. stat_ended held held' file V received.desk.survey first c.args.self.now c.requires received.received c.verdict.result
    c.verdict.ensures)
