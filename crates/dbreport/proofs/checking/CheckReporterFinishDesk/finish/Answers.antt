use Rattle.dbreport.proofs.Common.{Ok, Err, [], ◌∷◌, ap, inl, refl, WriteFailed, ReceivesFaults, ShowsFault, err_is, finished, LeavesCheck, check_held}
use Rattle.dbreport.proofs.Checked.{check_cut, check_ended}
use Rattle.dbreport.proofs.ReporterStates.{one_same}
use Rattle.dbreport.proofs.checking.CheckReporterFinishDesk.finish.Goals as goal

pub returns-in_err-end : goal.returns-in_err-end
returns-in_err-end g c =
    let put = c.in_err-end.ensures in
    let held = g.O.Out.held in
    rw (err_is c.from_residual.ensures.1)
    (finished g.S.Source (ReceivesFaults (ShowsFault held)) (check_held held) (LeavesCheck held) (Err WriteFailed) c.args._desk.now
    c.args._source.now c.args.self.now c.end.new.self refl
    (record { lent = ap (λ n. n ∷ []) put.same_out; failures = inl (put.text.count, refl) })
    (λ file V first received. check_cut held file V received.desk.survey first c.args.self.now c.end.new.self c.requires received.received
    c.in_err-end.field-0.0 put.text))

pub returns : goal.returns
returns g c =
    let put = c.in_ok-end.ensures in
    let held = g.O.Out.held in
    finished g.S.Source (ReceivesFaults (ShowsFault held)) (check_held held) (LeavesCheck held) (Ok c.in_ok-end.field-0) c.args._desk.now c.args._source.now
    c.args.self.now c.end.new.self tt
    (one_same put.same_out put.text.count put.failed)
    (λ file V first received. check_ended held file V received.desk.survey first c.args.self.now c.end.new.self c.requires received.received c.in_ok-end.field-0
    put.text put.verdict)
