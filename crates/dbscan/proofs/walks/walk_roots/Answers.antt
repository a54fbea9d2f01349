use Rattle.dbscan.proofs.Common.{rules, ◌≡◌, ◌+◌, ◌-◌, ℕ, List, [], drop, length, Err, Ok, refl, sym, ap, subst, ◌∙◌, arith, option_map, slice_get, geometry}
use Rattle.dbscan.proofs.Common.{encoding, Reference, Survey, Geometry, DeskView, desk_view, Listed, IsBetweenStarts, StopsReporting, enumerate_from}
use Rattle.dbscan.proofs.Common.{asks_weaker, err_is, none-some, encoding_within, schema_row_of, drop_all}
use Rattle.dbmarks.proofs.Readings.{asks_then, log_none}
use Rattle.dbscan.proofs.DeskWalks.{desk_asks}
use Rattle.dbscan.proofs.Starts.{row_there}
use Rattle.dbscan.proofs.Notifiers.{unread}
use Rattle.dbscan.proofs.TreeWalks.{from_ended, from_stopped, next_row}
use Rattle.dbscan.proofs.walks.walk_roots.Goals as goal

pub loop-index-init : goal.loop-index-init
loop-index-init g c = record {
  header = refl;
  roots = refl;
  shape = refl;
  marks = c.desk.invariant.marks;
  asks = record {
    log = log_none c.desk.inside.bench.geometry.page_size c.desk.inside.marks c.desk.inside.marks (g.S.Source.held c.args.source.now) refl
        (λ file e code V s before h. h);
    count = refl;
  };
  writes = refl;
}

pub unreachable-requires : goal.unreachable-requires
unreachable-requires g c =
    let rows = c.loop-index.desk-inside.roots.rows in
    let there = row_there rows (c.loop-index.index + 1 - 1)
    (omega (arith, ap (λ (l : Listed). length l.rows) c.loop-index.invariant.roots)) in
    none-some _ (ap (option_map schema_row_of) (sym c.in_default.is) ∙ c.get.ensures ∙ there.1)

pub returns-in_err-walk_tree-clause-asks : goal.returns-in_err-walk_tree-clause-asks
returns-in_err-walk_tree-clause-asks g c =
    let at = c.loop-index in
    let d = c.desk.inside in
    let marks = c.walk_tree.new.marks in
    let end = c.walk_tree.new.sink in
    let e = c.in_err-walk_tree.field-0.0 in
    let receives = g.K.Reporter.receives in
    let stops = λ (u : g.row.K.Denot) (o : DeskView) (file : List ℕ). (V : List Reference) → Survey file V → (before : g.row.K.Denot)
    → IsBetweenStarts receives file V before (enumerate_from 1 o.roots.rows) o.marks c.args.reporter.now
    → StopsReporting receives file V before [] (Err e) marks u in
    rw (err_is c.from_residual.ensures.1) (asks_weaker {A = Unit {0}} _ _ (Err e) (λ n. refl)
    (desk_asks {B = Unit {0}} g.S.Source.step d c.args.desk.now marks
    (λ file. c.encoding-encoding.result ≡ encoding file → stops end.reporter.now (desk_view d) file)
    (stops end.reporter.now) (Err e) c.desk.invariant c.desk.view_is (λ n. refl)
    (asks_then _ _ (ap (λ (s : Geometry). s.page_size) at.invariant.shape) at.invariant.asks c.in_err-walk_tree.ensures.asks
    (λ file left walked same code V s before h.
    next_row receives file V s before at.desk-inside.marks marks at.reporter _ d.roots.rows at.index (Err e) c.encoding-encoding.result
    (schema_row_of c.in-Some.row) c.root_of-root.result c.new-notifier.result end _ _ (omega arith) (left same code V s before h) code
    (ap (λ (l : Listed). slice_get l.rows (at.index + 1 - 1)) (sym at.invariant.roots) ∙ sym c.get.ensures ∙ ap (option_map schema_row_of) c.in-Some.is)
    c.root_of-root.ensures.root (c.new-notifier.ensures.start ∙ c.tree-start.ensures) c.new-notifier.ensures.reporter
    (from_stopped receives _ _ file c.root_of-root.result at.desk-inside.marks marks c.new-notifier.result end _ _ c.root_of-root.ensures.own e
    (walked (at.invariant.shape ∙ same)))))
    (λ file is reported. reported (c.encoding-encoding.ensures ∙ ap encoding is.begins ∙ encoding_within file)))
    (λ log r. r) (λ file done is. subst (λ u. stops u c.args.desk.now file) (search rules) (done is)))

pub returns-in_err-end-clause-asks : goal.returns-in_err-end-clause-asks
returns-in_err-end-clause-asks g c =
    let at = c.loop-index in
    let d = c.desk.inside in
    let marks = c.walk_tree.new.marks in
    let end = c.end.new.self in
    let e = c.in_err-end.field-0.0 in
    let receives = g.K.Reporter.receives in
    let stops = λ (u : g.row.K.Denot) (o : DeskView) (file : List ℕ). (V : List Reference) → Survey file V → (before : g.row.K.Denot)
    → IsBetweenStarts receives file V before (enumerate_from 1 o.roots.rows) o.marks c.args.reporter.now
    → StopsReporting receives file V before [] (Err e) marks u in
    rw (err_is c.from_residual-in_err-end.ensures.1) (asks_weaker {A = Unit {0}} _ _ (Err e) (λ n. refl)
    (desk_asks {B = Unit {0}} g.S.Source.step d c.args.desk.now marks
    (λ file. c.encoding-encoding.result ≡ encoding file → stops end.reporter.now (desk_view d) file)
    (stops end.reporter.now) (Err e) c.desk.invariant c.desk.view_is (λ n. refl)
    (asks_then _ _ (ap (λ (s : Geometry). s.page_size) at.invariant.shape) at.invariant.asks
    (asks_weaker {A = Unit {0}} _ _ (Err e) (unread {A = Unit {0}} (Err e) c.in_err-end.ensures.only) c.in_ok-walk_tree.ensures.asks
    (λ log reads. reads) (λ file done. done))
    (λ file left walked same code V s before h.
    next_row receives file V s before at.desk-inside.marks marks at.reporter _ d.roots.rows at.index (Err e) c.encoding-encoding.result
    (schema_row_of c.in-Some.row) c.root_of-root.result c.new-notifier.result end _ _ (omega arith) (left same code V s before h) code
    (ap (λ (l : Listed). slice_get l.rows (at.index + 1 - 1)) (sym at.invariant.roots) ∙ sym c.get.ensures ∙ ap (option_map schema_row_of) c.in-Some.is)
    c.root_of-root.ensures.root (c.new-notifier.ensures.start ∙ c.tree-start.ensures) c.new-notifier.ensures.reporter
    (from_ended receives _ _ file c.root_of-root.result at.desk-inside.marks marks c.new-notifier.result c.walk_tree.new.sink _ _ c.root_of-root.ensures.own
    end c.in_err-end.ensures.ends c.in_err-end.ensures.rows (Err e)
    (walked (at.invariant.shape ∙ same)))))
    (λ file is reported. reported (c.encoding-encoding.ensures ∙ ap encoding is.begins ∙ encoding_within file)))
    (λ log r. r) (λ file done is. subst (λ u. stops u c.args.desk.now file) (search rules) (done is)))

pub loop-index-preserved : goal.loop-index-preserved
loop-index-preserved g c =
    let at = c.loop-index in
    let marks = c.walk_tree.new.marks in
    let end = c.end.new.self in
    let receives = g.K.Reporter.receives in
    let d = c.desk.inside in
    record {
      header = at.invariant.header;
      roots = at.invariant.roots;
      shape = c.in_ok-walk_tree.ensures.shape ∙ at.invariant.shape;
      marks = search rules;
      asks = asks_weaker {A = Unit {0}} _ _ (Ok tt) (λ n. refl)
          (asks_then _ _ {T = λ file. d.bench.geometry ≡ geometry file → c.encoding-encoding.result ≡ encoding file → (V : List Reference) → Survey file V
          → (before : g.row.K.Denot) → IsBetweenStarts receives file V before (enumerate_from 1 d.roots.rows) d.marks c.args.reporter.now
          → IsBetweenStarts receives file V before (enumerate_from (at.index + 1 + 1) (drop (at.index + 1) d.roots.rows)) marks end.reporter.now}
          (ap (λ (s : Geometry). s.page_size) at.invariant.shape) at.invariant.asks c.in_ok-walk_tree.ensures.asks
          (λ file left walked same code V s before h.
          next_row receives file V s before at.desk-inside.marks marks at.reporter _ d.roots.rows at.index (Ok tt) c.encoding-encoding.result
          (schema_row_of c.in-Some.row) c.root_of-root.result c.new-notifier.result end _ _ (omega arith) (left same code V s before h) code
          (ap (λ (l : Listed). slice_get l.rows (at.index + 1 - 1)) (sym at.invariant.roots) ∙ sym c.get.ensures ∙ ap (option_map schema_row_of) c.in-Some.is)
          c.root_of-root.ensures.root (c.new-notifier.ensures.start ∙ c.tree-start.ensures) c.new-notifier.ensures.reporter
          (from_ended receives _ _ file c.root_of-root.result at.desk-inside.marks marks c.new-notifier.result c.walk_tree.new.sink _ _
          c.root_of-root.ensures.own end c.in_ok-end.ensures.ends c.in_ok-end.ensures.rows (Ok tt)
          (walked (at.invariant.shape ∙ same)))))
          (λ log r. r) (λ file done same code V s before h.
          subst (λ u. IsBetweenStarts receives file V before (enumerate_from (at.index + 1 + 1) (drop (at.index + 1) d.roots.rows)) marks u) (search rules)
          (done same code V s before h));
      writes = search rules;
    }

pub returns-clause-asks : goal.returns-clause-asks
returns-clause-asks g c =
    let at = c.loop-index in
    desk_asks g.S.Source.step c.desk.inside c.args.desk.now at.desk-inside.marks _
    (λ o file. (V : List Reference) → Survey file V → (before : g.row.K.Denot)
    → IsBetweenStarts g.K.Reporter.receives file V before (enumerate_from 1 o.roots.rows) o.marks c.args.reporter.now
    → IsBetweenStarts g.K.Reporter.receives file V before [] at.desk-inside.marks at.reporter)
    (Ok tt) c.desk.invariant c.desk.view_is (λ n. refl) at.invariant.asks
    (λ file is left V s before h.
    let rows = c.desk.inside.roots.rows in
    let count : at.index ≡ length rows = omega arith in
    let none : drop at.index rows ≡ [] = drop_all at.index rows (omega (arith, count)) in
    subst (λ l. IsBetweenStarts g.K.Reporter.receives file V before (enumerate_from (at.index + 1) l) at.desk-inside.marks at.reporter) none
    (left (c.encoding-encoding.ensures ∙ ap encoding is.begins ∙ encoding_within file) V s before h))
