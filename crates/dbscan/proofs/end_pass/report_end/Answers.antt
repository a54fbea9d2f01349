use Rattle.dbscan.proofs.Common.{rules, ◌≡◌, List, Err, map, refl, sym, ap, ◌∙◌, subst, end_faults, has_rows, geometry, geometry_of, Reference, Survey}
use Rattle.dbscan.proofs.Common.{is_read_failed, is_write_failed, IsHeaderOf, Asks, least_other_marked, AreMarksOf, marks_of, SinkAfter, SinkState, Reports}
use Rattle.dbscan.proofs.Common.{MovesBySome, DeskView, pages_items, IsMapInUse, MapReads, end_notices, whole, items_of, asks_weaker, err_is, some_first}
use Rattle.dbscan.proofs.Common.{some_none, moves_open}
use Rattle.dbscan.proofs.EndItems.{all_items, reports_then, pages_then}
use Rattle.dbscan.proofs.MapLogs.{asks_nothing, reads_none}
use Rattle.dbscan.proofs.Notifiers.{asked_after, asked_error, asked_ok}
use Rattle.dbtrace.specs.declared.Part.TheVariants as part
use Rattle.dbscan.proofs.end_pass.report_end.Goals as goal

pub returns-in_err-ask-clause-asks : goal.returns-in_err-ask-clause-asks
returns-in_err-ask-clause-asks g c =
    let shape = geometry_of c.args.desk.now.header.bytes c.args.desk.now.header.file_len in
    let header = ap (λ (d : DeskView). d.header) c.desk.view_is in
    let marks = ap (λ (d : DeskView). d.marks) c.desk.view_is in
    let e = c.in_err-ask.field-0.0 in
    let is = asked_error (g.K.Reporter.held c.count_marks-counts.new.reporter).is_shut c.in_err-ask.ensures in
    rw (err_is c.from_residual.ensures.1)
    (asks_nothing g.S.Source.step _ (Err e) _ is (reads_none shape.page_size (IsMapInUse shape) 1).reads (λ file of V s m rows.
    pages_then {A = Unit {0}} g.K.Reporter.receives file V (Err e) _ _ _ _ c.desk.inside.marks
    (c.geometry-geometry.ensures.shape ∙ (subst (λ h. IsHeaderOf h file) (sym header) of).shape) (marks ∙ m) c.count_marks-counts.ensures.reported.items
    (some_none g.K.Reporter.receives c.count_marks-counts.new.reporter (map (whole part.End) (end_faults file V)))))

pub returns-in_err-report_all-clause-asks : goal.returns-in_err-report_all-clause-asks
returns-in_err-report_all-clause-asks g c =
    let shape = geometry_of c.args.desk.now.header.bytes c.args.desk.now.header.file_len in
    let header = ap (λ (d : DeskView). d.header) c.desk.view_is in
    let marks = ap (λ (d : DeskView). d.marks) c.desk.view_is in
    rw (err_is c.from_residual-in_err-report_all.ensures.1) (asks_nothing g.S.Source.step _
    (Err c.in_err-report_all.field-0.0) _ c.in_err-report_all.ensures.only
    (reads_none shape.page_size (IsMapInUse shape) 1).reads (λ file is V s m rows.
    let pages = pages_items file V (least_other_marked (marks_of (geometry file) V)) (geometry file).pages in
    let its = subst (λ h. IsHeaderOf h file) (sym header) is in
    let items = all_items file V s c.desk.inside.header c.args.any_rows c.desk.inside.marks _ _ c.counted_faults-faults.result its (marks ∙ m) rows
    c.count_marks-counts.ensures.greatest c.count_marks-counts.ensures.free c.counted_faults-faults.ensures in
    pages_then {A = Unit {0}} g.K.Reporter.receives file V (Err c.in_err-report_all.field-0.0) _ _ _ _ c.desk.inside.marks
    (c.geometry-geometry.ensures.shape ∙ its.shape) (marks ∙ m) c.count_marks-counts.ensures.reported.items
    (subst (λ l. MovesBySome g.K.Reporter.receives c.count_marks-counts.new.reporter l c.report_all.new.reporter) items
    (some_first g.K.Reporter.receives _ _ (items_of part.End c.counted_faults-faults.result) pages c.in_err-report_all.ensures.reported))))

pub returns-clause-asks : goal.returns-clause-asks
returns-clause-asks g c =
    subst (λ (d : DeskView). Asks g.S.Source.step (MapReads (geometry_of d.header.bytes d.header.file_len))
    (λ file. IsHeaderOf d.header file → (V : List Reference) → Survey file V → AreMarksOf file V d.marks
    → c.args.any_rows ≡ has_rows file V → Reports g.K.Reporter.receives c.end_pages.result c.args.reporter.now (end_notices file V)
    c.end_pages.new.reporter)
    is_read_failed c.end_pages.result (g.S.Source.held c.args.source.now) (g.S.Source.held c.end_pages.new.source)) c.desk.view_is
    (asks_weaker _ _ c.end_pages.result (λ n. refl) c.end_pages.ensures.asks (λ log r. subst (λ g. MapReads g log) c.desk.invariant.shape r)
    (λ file ended is V s m rows.
    let items = all_items file V s c.desk.inside.header c.args.any_rows c.desk.inside.marks _ _ c.counted_faults-faults.result is m rows
    c.count_marks-counts.ensures.greatest c.count_marks-counts.ensures.free c.counted_faults-faults.ensures in
    let least = c.count_marks-counts.ensures.least ∙ ap least_other_marked m in
    let rest = subst (λ o. Reports g.K.Reporter.receives c.end_pages.result c.report_all.new.reporter (pages_items file V o (geometry file).pages)
    c.end_pages.new.reporter) least (ended (c.desk.invariant.shape ∙ is.shape) is.is_read V m) in
    pages_then g.K.Reporter.receives file V c.end_pages.result _ _ _ _ c.desk.inside.marks
    (c.geometry-geometry.ensures.shape ∙ is.shape) m c.count_marks-counts.ensures.reported.items
    (subst (λ l. Reports g.K.Reporter.receives c.end_pages.result c.count_marks-counts.new.reporter l c.end_pages.new.reporter) items
    (reports_then g.K.Reporter.receives c.end_pages.result _ c.report_all.new.reporter _
    (items_of part.End c.counted_faults-faults.result) (pages_items file V (least_other_marked (marks_of (geometry file) V)) (geometry file).pages)
    c.in_ok-report_all.ensures.reported rest))))

pub returns-in_err-ask-clause-writes : goal.returns-in_err-ask-clause-writes
returns-in_err-ask-clause-writes g c =
    rw (err_is c.from_residual.ensures.1) (asked_after c.in_err-ask.ensures c.count_marks-counts.ensures.reported.count c.requires)

pub end_pages-requires : goal.end_pages-requires
end_pages-requires g c = (
  search rules,
  ap (λ (s : SinkState). s.is_shut) c.in_ok-report_all.ensures.writes
      ∙ asked_ok (g.K.Reporter.held c.count_marks-counts.new.reporter).is_shut c.in_ok-ask.ensures,
)

pub returns-clause-writes : goal.returns-clause-writes
returns-clause-writes g c =
    let shut = (g.K.Reporter.held c.count_marks-counts.new.reporter).is_shut in
    subst (λ s. SinkAfter is_write_failed c.end_pages.result s (g.K.Reporter.held c.end_pages.new.reporter))
    (c.in_ok-report_all.ensures.writes ∙ moves_open c.count_marks-counts.ensures.reported.count
    (asked_ok shut c.in_ok-ask.ensures)) c.end_pages.ensures.ends.writes
