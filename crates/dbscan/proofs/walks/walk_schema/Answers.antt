use Rattle.dbscan.proofs.Common.{rules, ◌≡◌, ℕ, Bool, List, [], Result, Err, Ok, refl, ap, ◌∙◌, subst, err_from_is_err_and, geometry, Step, is_read_failed}
use Rattle.dbscan.proofs.Common.{failures_after, IsHeaderOf, Asks, SourceState, RunError, AreMarksOf, Reads, Mark, marks_of, DeskView, IsFresh, desk_view}
use Rattle.dbscan.proofs.Common.{shape_of, Notice, IsSchemaWalked, SchemaRow, err_is, asks_weaker, AreForHeader, Inside}
use Rattle.dbscan.proofs.DeskWalks.{desk_asks}
use Rattle.dbscan.proofs.SchemaWalks.{schema_own, schema_stopped, schema_walked}
use Rattle.dbscan.proofs.Notifiers.{unread}
use Rattle.dbscan.proofs.TreeWalks.{from_ended, from_stopped}
use Rattle.dbscan.proofs.walks.walk_schema.Goals as goal

-- what the walk over the parts of a fresh desk has found, of the reporter from which the notifier was made
found : {A B S : Type 0} (receives : S → Notice → S → Type 0) (step : Step) (d : Inside A) (old : DeskView) (marks : List Mark) (rows : List SchemaRow)
    (U : List ℕ → Type 0) {r : Result B RunError} (s : Result Bool RunError) {w t first last : S} {before after : SourceState}
    → AreForHeader d → desk_view d ≡ old → IsFresh old → w ≡ first → t ≡ last
    → ((n : ℕ) → failures_after is_read_failed r n ≡ failures_after is_read_failed s n)
    → Asks step (Reads d.bench.geometry.page_size d.marks marks) (λ file. d.bench.geometry ≡ geometry file → U file) is_read_failed r before after
    → ((file : List ℕ) → IsHeaderOf d.header file → AreMarksOf file [] d.marks → d.roots.rows ≡ [] → U file → IsSchemaWalked receives file s marks rows w t)
    → Asks step (Reads (shape_of old).page_size old.marks marks) (λ file. IsHeaderOf old.header file → IsSchemaWalked receives file s marks rows first last)
    is_read_failed s before after
found receives step d old marks rows U s {w = w} {first = first} {last = last} whole is fresh from to same h given =
    desk_asks step d old marks U (λ o file. IsSchemaWalked receives file s marks rows first last) s whole is same h (λ file header walked.
    let unmarked = ap (λ (d : DeskView). d.marks) is ∙ fresh.marks
    ∙ ap (λ g. marks_of g []) (subst (λ (d : DeskView). IsHeaderOf d.header file) is header).shape in
    let walk = given file header unmarked (ap (λ (d : DeskView). d.roots.rows) is ∙ fresh.roots) walked in
    subst (λ x. IsSchemaWalked receives file s marks rows x last) from (subst (λ x. IsSchemaWalked receives file s marks rows w x) to walk))

pub returns-in_err-walk_tree-clause-asks : goal.returns-in_err-walk_tree-clause-asks
returns-in_err-walk_tree-clause-asks g c =
    let e = c.in_err-walk_tree.field-0.0 in
    let receives = g.K.Reporter.receives in
    let end = c.walk_tree.new.sink in
    let own = schema_own c.encoding.result c.schema_root-root.result c.schema_root-root.ensures in
    rw (err_is c.from_residual.ensures.1) (found {B = Unit {0}} receives g.S.Source.step c.desk.inside c.args.desk.now c.walk_tree.new.marks
    c.walk_tree.new.taker.rows _ (Err e) c.desk.invariant c.desk.view_is c.requires.fresh c.new-notifier.ensures.reporter (search rules) (λ n. refl)
    c.in_err-walk_tree.ensures.asks
    (λ file is fresh empty walked. schema_stopped receives file c.walk_tree.new.marks c.new-notifier.result end c.desk.inside.roots c.walk_tree.new.taker
    (c.new-notifier.ensures.start ∙ c.schema-start.ensures) c.new-notifier.ensures.none empty
    c.desk.inside.header is c.encoding.result c.encoding.ensures c.schema_root-root.result c.schema_root-root.ensures c.desk.inside.marks fresh e
    (from_stopped receives _ _ file c.schema_root-root.result c.desk.inside.marks c.walk_tree.new.marks c.new-notifier.result end _ _ own e walked)))

pub returns-in_err-end-clause-asks : goal.returns-in_err-end-clause-asks
returns-in_err-end-clause-asks g c =
    let e = c.in_err-end.field-0.0 in
    let receives = g.K.Reporter.receives in
    let end = c.end.new.self in
    let own = schema_own c.encoding.result c.schema_root-root.result c.schema_root-root.ensures in
    let q = err_from_is_err_and c.from_residual-in_err-end.result c.from_residual-in_err-end.ensures.1 in
    let d = c.args.desk.now in
    let marks = c.walk_tree.new.marks in
    let rows = c.walk_tree.new.taker.rows in
    rw q.1 (rw q.2 (asks_weaker {A = Bool} _ _ (Err e) (λ n. refl)
    (found {B = Unit {0}} receives g.S.Source.step c.desk.inside d marks
    rows _ (Err e) c.desk.invariant c.desk.view_is c.requires.fresh c.new-notifier.ensures.reporter refl
    (unread {A = Unit {0}} (Err e) c.in_err-end.ensures.only) c.in_ok-walk_tree.ensures.asks
    (λ file is fresh empty walked. schema_stopped receives file marks c.new-notifier.result end c.desk.inside.roots c.walk_tree.new.taker
    (c.new-notifier.ensures.start ∙ c.schema-start.ensures) c.new-notifier.ensures.none empty
    c.desk.inside.header is c.encoding.result c.encoding.ensures c.schema_root-root.result c.schema_root-root.ensures c.desk.inside.marks fresh e
    (from_ended receives _ _ file c.schema_root-root.result c.desk.inside.marks marks c.new-notifier.result c.walk_tree.new.sink _ _ own end
    c.in_err-end.ensures.ends c.in_err-end.ensures.rows (Err e) walked)))
    (λ log r. r) (λ file done is.
    subst (λ x. IsSchemaWalked receives file (Err e) marks rows c.args.reporter.now x) (search rules) (done is))))

pub returns-clause-asks : goal.returns-clause-asks
returns-clause-asks g c =
    let any = c.has_rows.result in
    let receives = g.K.Reporter.receives in
    let end = c.end.new.self in
    let own = schema_own c.encoding.result c.schema_root-root.result c.schema_root-root.ensures in
    found receives g.S.Source.step c.desk.inside c.args.desk.now c.walk_tree.new.marks
    c.walk_tree.new.taker.rows _ (Ok any) c.desk.invariant c.desk.view_is c.requires.fresh c.new-notifier.ensures.reporter (search rules) (λ n. refl)
    c.in_ok-walk_tree.ensures.asks
    (λ file is fresh empty walked. schema_walked receives file c.walk_tree.new.marks c.new-notifier.result end c.desk.inside.roots c.walk_tree.new.taker
    (c.new-notifier.ensures.start ∙ c.schema-start.ensures) c.new-notifier.ensures.none empty
    c.desk.inside.header is c.encoding.result c.encoding.ensures c.schema_root-root.result c.schema_root-root.ensures c.desk.inside.marks fresh
    any c.has_rows.ensures
    (from_ended receives _ _ file c.schema_root-root.result c.desk.inside.marks c.walk_tree.new.marks c.new-notifier.result c.walk_tree.new.sink _ _ own end
    c.in_ok-end.ensures.ends c.in_ok-end.ensures.rows (Ok tt) walked))
