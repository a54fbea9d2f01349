use Rattle.std.proofs.Common.{Ok, refl}
use Rattle.dbformat.specs.Report.{faults}
use Rattle.dbscan.specs.Notices.{ReceivesFaults}
use Rattle.dbscan.proofs.Finished.{finished}
use Rattle.dbmend.specs.Counts.{LeavesCount, borrows_none}
use Rattle.dbmend.proofs.Counted.{CountsFault, all_counted}
use Rattle.dbmend.proofs.counter.CounterFinishDesk.finish.Goals as goal

pub returns : goal.returns
returns g c =
    finished g.S.Source (ReceivesFaults CountsFault) borrows_none LeavesCount (Ok c.of.result) c.args._desk.now c.args._source.now c.args.self.now
    c.args.self.now tt refl
    (λ file V first received none.
    let e = all_counted file V received.desk.survey first c.args.self.now received.received none in (e, c.of.ensures.faults (faults file V) e))
