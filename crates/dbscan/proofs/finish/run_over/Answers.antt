use Rattle.dbscan.proofs.Common.{rules, Err, subst, sym, ◌∙◌, HeadedStep, err_is, same_front, HasReported, Leaves}
use Rattle.dbscan.proofs.Keeping.{keeps_error, keeps_then}
use Rattle.dbscan.proofs.Traced.{run_reported, scan_finished, scan_stopped}
use Rattle.dbscan.proofs.finish.run_over.Goals as goal

pub returns-in_err-scan : goal.returns-in_err-scan
returns-in_err-scan g c =
    let e = c.in_err-scan.field-0.0 in
    let held = g.K.Reporter.held in
    let leaves = Leaves g.K.Reporter.receives g.K.Finish.leaves in
    let end = c.scan.new in
    let old : g.row.S.Denot × g.row.K.Denot = (c.args.source.now, c.args.reporter.now) in
    let asks = scan_stopped g.K.Reporter.receives g.K.Finish.leaves (HeadedStep g.S.Source.step) c.renew.new.self end.desk _ _ e c.in_err-scan.ensures.asks in
    let same = (same_front g.S.Source.step _ _ _ _ _ _ _ _ asks.log).0 in
    rw (err_is c.from_residual.ensures.1)
    (subst (λ x. HasReported g.S.Source held leaves (Err e) c.args.desk.now end.desk old (x, end.reporter)) (search (rules, same))
    (run_reported g.S.Source held leaves (Err e) c.args.desk.now c.renew.new.self end.desk c.new-headed.result.header.now old
    (end.source.source.now, end.reporter) c.renew.ensures.header c.renew.ensures.refusals (c.new-headed.ensures.header ∙ c.header.ensures.value)
    c.new-headed.ensures.source c.header.ensures.accepted asks (keeps_error c.in_err-scan.ensures.keeps)))

pub returns : goal.returns
returns g c =
    let held = g.K.Reporter.held in
    let leaves = Leaves g.K.Reporter.receives g.K.Finish.leaves in
    let end = c.finish.new in
    let old : g.row.S.Denot × g.row.K.Denot = (c.args.source.now, c.args.reporter.now) in
    let asks = scan_finished g.K.Reporter.receives g.K.Finish.leaves (HeadedStep g.S.Source.step) c.renew.new.self c.scan.new.desk c.args.reporter.now
    c.scan.new.reporter end.self c.finish.result c.in_ok-scan.ensures.keeps.desk.header c.in_ok-scan.ensures.asks c.finish.ensures.asks in
    let first = (same_front g.S.Source.step _ _ _ _ _ _ _ _ c.in_ok-scan.ensures.asks.log).0 in
    let last = (same_front g.S.Source.step _ _ _ _ _ _ _ _ c.finish.ensures.asks.log).0 in
    subst (λ x. HasReported g.S.Source held leaves c.finish.result c.args.desk.now end.desk old (x, end.self)) (sym (search (rules, last ∙ first)))
    (run_reported g.S.Source held leaves c.finish.result c.args.desk.now c.renew.new.self end.desk c.new-headed.result.header.now old
    (end.source.source.now, end.self) c.renew.ensures.header c.renew.ensures.refusals (c.new-headed.ensures.header ∙ c.header.ensures.value)
    c.new-headed.ensures.source c.header.ensures.accepted asks (keeps_then c.in_ok-scan.ensures.keeps c.finish.ensures.keeps))
