use Rattle.dbscan.proofs.Common.{rules, ◌++◌, Ok, Err, refl, sym, ap, subst, ◌∙◌, geometry_of, HeaderBytes, IsHeaderOf, Reads, is_write_failed, SinkAfter}
use Rattle.dbscan.proofs.Common.{Reports, DeskView, ReadsMarked, MapReads, end_notices, AreWalked, asks_then, asks_weaker, fresh_marks, KeepsHeader, err_is}
use Rattle.dbscan.proofs.Common.{KeepsRoots}
use Rattle.dbscan.proofs.MapLogs.{asks_nothing, no_log, walk_then_map_log}
use Rattle.dbscan.proofs.Scanned.{header_stopped, scan_ended, scan_stopped}
use Rattle.dbscan.proofs.StartWalks.{later_asks, reporter_first, roots_stopped, starts_asks}
use Rattle.dbscan.proofs.TreeWalks.{schema_stopped}
use Rattle.dbscan.proofs.Keeping.{keeps_then}
use Rattle.dbscan.proofs.scans.scan.Goals as goal

pub returns-in_err-report_header-clause-asks : goal.returns-in_err-report_header-clause-asks
returns-in_err-report_header-clause-asks g c =
    let e = c.in_err-report_header.field-0.0 in
    let geo = geometry_of c.args.desk.now.header.bytes c.args.desk.now.header.file_len in
    rw (err_is c.from_residual.ensures.1) (asks_nothing g.S.Source.step _ (Err e) _ c.in_err-report_header.ensures.only
    (no_log geo c.args.desk.now.marks (fresh_marks geo c.args.desk.now.marks c.requires.fresh.marks)) (λ file is V s. record {
      reported = header_stopped g.K.Reporter.receives file V c.header.result.now (rw c.header.ensures.value is) _ e _ c.in_err-report_header.ensures.reported;
      marked = tt;
      listed = tt;
    }))

pub returns-in_err-any_rows-clause-asks : goal.returns-in_err-any_rows-clause-asks
returns-in_err-any_rows-clause-asks g c =
    rw (err_is c.from_residual-in_err-any_rows.ensures.1)
    (scan_stopped g.K.Reporter.receives g.S.Source.step c.args.desk.now c.walk_schema.new.desk _ _ _ _ c.requires.fresh
    (rw c.header.ensures.value at c.in_ok-report_header.ensures.reported)
    (asks_weaker _ _ (Err c.in_err-any_rows.field-0.0) (λ n. refl) c.in_err-any_rows.ensures.asks (λ log reads. reads)
    (λ file walked is V survey. schema_stopped g.K.Reporter.receives file V _ _ _ _ _ (walked is).tree)))

pub returns-in_err-walk_roots-clause-asks : goal.returns-in_err-walk_roots-clause-asks
returns-in_err-walk_roots-clause-asks g c =
    let receives = g.K.Reporter.receives in
    let step = g.S.Source.step in
    let m = c.walk_schema.new.desk in
    let t = c.walk_roots.new.desk in
    rw (err_is c.from_residual-in_err-walk_roots.ensures.1) (scan_stopped receives step c.args.desk.now t _ _ _ _ c.requires.fresh
    (rw c.header.ensures.value at c.in_ok-report_header.ensures.reported)
    (starts_asks receives step c.args.desk.now m t c.in_ok-any_rows.any_rows (Err c.in_err-walk_roots.field-0.0) _ _ _
    c.requires.fresh c.in_ok-any_rows.ensures.keeps.desk.header c.in_err-walk_roots.ensures.keeps.roots c.in_ok-any_rows.ensures.asks
    (roots_stopped receives step m t _ _ _ c.in_err-walk_roots.ensures.asks)))

pub returns-in_err-walk_trunks-clause-asks : goal.returns-in_err-walk_trunks-clause-asks
returns-in_err-walk_trunks-clause-asks g c =
    let receives = g.K.Reporter.receives in
    let step = g.S.Source.step in
    let a = c.report_header.new.reporter in
    let m = c.walk_schema.new.desk in
    let t = c.walk_roots.new.desk in
    let u = c.walk_trunks.new in
    let e = c.in_err-walk_trunks.field-0.0 in
    rw (err_is c.from_residual-in_err-walk_trunks.ensures.1) (scan_stopped receives step c.args.desk.now u.desk _ a _ e c.requires.fresh
    (rw c.header.ensures.value at c.in_ok-report_header.ensures.reported)
    (asks_weaker _ _ (Err e) (λ n. refl)
    (starts_asks receives step c.args.desk.now m u.desk c.in_ok-any_rows.any_rows (Err e) a _ u.notifier.reporter.now
    c.requires.fresh c.in_ok-any_rows.ensures.keeps.desk.header
    (c.in_err-walk_trunks.ensures.keeps.roots ∙ c.in_ok-walk_roots.ensures.keeps.roots) c.in_ok-any_rows.ensures.asks
    (later_asks receives step m t u.desk (Err e) _ _ _ c.in_ok-walk_roots.ensures.keeps.header
    c.in_ok-walk_roots.ensures.asks (reporter_first receives step t u.desk (Err e) c.new.ensures.reporter c.in_err-walk_trunks.ensures.asks)))
    (λ log reads. reads)
    (λ file done is V survey. subst (λ x. AreWalked receives file V (Err e) u.desk.marks u.desk.roots.rows a x) (search rules) (done is V survey))))

pub returns-clause-asks : goal.returns-clause-asks
returns-clause-asks g c =
    let geo = geometry_of c.args.desk.now.header.bytes c.args.desk.now.header.file_len in
    let receives = g.K.Reporter.receives in
    let step = g.S.Source.step in
    let old = c.args.desk.now.marks in
    let m = c.walk_schema.new.desk in
    let t = c.walk_roots.new.desk in
    let u = c.walk_trunks.new in
    let any = c.in_ok-any_rows.any_rows in
    let same = c.in_ok-walk_trunks.ensures.keeps.header ∙ c.in_ok-walk_roots.ensures.keeps.header ∙ c.in_ok-any_rows.ensures.keeps.desk.header in
    let shape_of = λ (h : HeaderBytes). geometry_of h.bytes h.file_len in
    asks_then (Reads geo.page_size old u.desk.marks) (MapReads (shape_of u.desk.header)) _ _ c.report_end.result
    (λ n. refl) (λ n. refl)
    (starts_asks receives step c.args.desk.now m u.desk any (Ok tt) _ _ u.notifier.reporter.now
    c.requires.fresh c.in_ok-any_rows.ensures.keeps.desk.header
    (c.in_ok-walk_trunks.ensures.keeps.roots ∙ c.in_ok-walk_roots.ensures.keeps.roots) c.in_ok-any_rows.ensures.asks
    (later_asks receives step m t u.desk (Ok tt) _ _ _ c.in_ok-walk_roots.ensures.keeps.header
    c.in_ok-walk_roots.ensures.asks (reporter_first receives step t u.desk (Ok tt) c.new.ensures.reporter c.in_ok-walk_trunks.ensures.asks)))
    c.report_end.ensures.asks
    (λ l m r k. subst (λ (d : DeskView). ReadsMarked geo d.marks (l ++ m)) (sym c.report_end.ensures.desk)
    (walk_then_map_log geo old u.desk.marks l m (fresh_marks geo old c.requires.fresh.marks) r (subst (λ g. MapReads g m) (ap shape_of same) k)))
    (λ file walked ended is V survey.
    scan_ended receives file V c.args.desk.now.header is _ _ (rw c.header.ensures.value at c.in_ok-report_header.ensures.reported)
    c.report_end.result any _ _ u.desk c.report_end.new.desk (walked is V survey) c.report_end.ensures.desk
    (subst (λ x. Reports receives c.report_end.result x (end_notices file V) c.report_end.new.reporter) (sym (search rules))
    (ended (subst (λ (h : HeaderBytes). IsHeaderOf h file) (sym same) is) V survey (walked is V survey).all.marked (walked is V survey).has_rows)))

pub returns-clause-keeps : goal.returns-clause-keeps
returns-clause-keeps g c =
    let held = g.K.Reporter.held in
    let t = c.walk_roots.new in
    let u = c.walk_trunks.new in
    let same = c.report_end.ensures.desk in
    let trunks = subst (λ x. KeepsRoots {A = Unit {0}} (Ok tt) t.desk u.desk (held x) (held u.notifier.reporter.now)) c.new.ensures.reporter
    c.in_ok-walk_trunks.ensures.keeps in
    subst (λ s. KeepsHeader c.report_end.result c.args.desk.now c.report_end.new.desk s (held c.report_end.new.reporter)) c.in_ok-report_header.ensures.writes
    (keeps_then (keeps_then (keeps_then c.in_ok-any_rows.ensures.keeps c.in_ok-walk_roots.ensures.keeps) trunks) (record {
      header = ap (λ (d : DeskView). d.header) same;
      roots = ap (λ (d : DeskView). d.roots) same;
      writes = subst (λ x. SinkAfter is_write_failed c.report_end.result (held x) (held c.report_end.new.reporter))
          (sym (search rules)) c.report_end.ensures.writes;
      only = c.report_end.ensures.only;
    }))
