use Rattle.dbscan.proofs.Common.{◌≡◌, true, false, Some, Ok, Err, refl, sym, ap, ◌∙◌, subst, inl, inr, option_map, Moves, geometry, fixed_use, is_fixed}
use Rattle.dbscan.proofs.Common.{Geometry, mark_fault, late_fault, Reports, is_fixed_mark, page_notices, HasMapFor, IsMapInUse, both_ways, Pages, some_none}
use Rattle.dbscan.proofs.Common.{err_is, not-true, Map, has_weaker, is_none, page_read, log_load}
use Rattle.dbmarks.specs.EndMarks.{entry_value}
use Rattle.dbscan.proofs.EndItems.{fixed_items, other_items, used_items}
use Rattle.dbscan.proofs.MapLogs.{asks_nothing}
use Rattle.dbscan.proofs.MapPlaces.{next_read, next_kept, not_map, on_ok, not_in_use}
use Rattle.dbscan.proofs.end_pass.end_page.Goals as goal

pub returns-in_err-load-clause-asks : goal.returns-in_err-load-clause-asks
returns-in_err-load-clause-asks g c =
    let used = subst (λ (g : Geometry). IsMapInUse g c.args.page) c.geometry-geometry.ensures.value (c.is_map_in_use.ensures.0 c.if-is_map_in_use.true) in
    let size = c.args.bench.now.geometry.page_size in
    let level = c.in_err-load.ensures.level in
    rw (err_is c.from_residual.ensures.1) (record {
      log = has_weaker _ _ (log_load size c.args.page level.bytes (Err c.in_err-load.field-0.0) c.in_err-load.ensures.told level.size level.holds)
          (λ log l. inr (l, used))
          (λ file bytes mark m e ok same chain. (
            some_none g.K.Reporter.receives c.args.reporter.now (page_notices file c.args.least_other c.args.page mark),
            tt,
          ));
      count = c.in_err-load.ensures.count;
    })

pub returns-in_ok-load-clause-asks : goal.returns-in_ok-load-clause-asks
returns-in_ok-load-clause-asks g c =
    let used = c.is_map_in_use.ensures.0 c.if-is_map_in_use.true in
    let size = c.args.bench.now.geometry.page_size in
    let level = c.in_ok-load.ensures.level in
    record {
      log = has_weaker _ _ (log_load size c.args.page level.bytes (Ok tt) c.in_ok-load.ensures.told level.size level.holds)
          (λ log l. inr (l, subst (λ (g : Geometry). IsMapInUse g c.args.page) c.geometry-geometry.ensures.value used))
          (λ file bytes mark m e ok same chain.
          let k : mark ≡ c.get-mark.result = let q = c.get-mark.ensures in cc in
          let fixed : is_fixed_mark mark ≡ true = ap is_fixed_mark k ∙ sym c.is_fixed.ensures ∙ c.if-is_fixed.true in
          let map : fixed_use (geometry file) c.args.page ≡ Some Map =
          ap (λ (g : Geometry). fixed_use g c.args.page) (sym (c.geometry-geometry.ensures.value ∙ e))
          ∙ used.0 in
          let read : c.load.new.self.chain ≡ level.bytes = ap (λ (b : Pages). b.chain) level.only in (
            subst (λ l. Moves g.K.Reporter.receives c.args.reporter.now l c.args.reporter.now)
                (sym (fixed_items file c.args.least_other c.args.page mark fixed))
                refl,
            next_read file c.load.new.self.chain c.args.page map
                (read ∙ page_read file level.bytes size c.args.page level.size bytes (ap (λ (g : Geometry). g.page_size) (sym e))),
          ));
      count = c.in_ok-load.ensures.count;
    }

pub returns-else-is_map_in_use-clause-asks : goal.returns-else-is_map_in_use-clause-asks
returns-else-is_map_in_use-clause-asks g c = asks_nothing g.S.Source.step _ _ _ tt (inl refl) (λ file mark m e ok same chain.
    let k : mark ≡ c.get-mark.result = let q = c.get-mark.ensures in cc in
    let fixed : is_fixed_mark mark ≡ true = ap is_fixed_mark k ∙ sym c.is_fixed.ensures ∙ c.if-is_fixed.true in
    let shape = c.geometry-geometry.ensures.value ∙ e in
    let last = not_in_use (geometry file) c.args.page (λ u. both_ways c.is_map_in_use.result c.if-is_map_in_use.false
    (c.is_map_in_use.ensures.1 (subst (λ (g : Geometry). IsMapInUse g c.args.page) (sym shape) u))) in (
      subst (λ l. Moves g.K.Reporter.receives c.args.reporter.now l c.args.reporter.now)
          (sym (fixed_items file c.args.least_other c.args.page mark fixed)) refl,
      next_kept file c.args.bench.now.chain c.args.page ok c.requires.page.0 last chain,
    ))

pub returns-then-not-is_unmarked-clause-asks : goal.returns-then-not-is_unmarked-clause-asks
returns-then-not-is_unmarked-clause-asks g c = asks_nothing g.S.Source.step _ _ _ tt (inl refl) (λ file mark m e ok same chain.
    let k : mark ≡ c.get-mark.result = let q = c.get-mark.ensures in cc in
    let free : is_fixed (geometry file) c.args.page ≡ false = sym same ∙ ap is_fixed_mark k ∙ sym c.is_fixed.ensures ∙ c.if-is_fixed.false in
    let off : (geometry file).has_map ≡ false = ap (λ (g : Geometry). g.has_map) (sym (c.geometry-geometry.ensures.value ∙ e))
    ∙ not-true _ c.if-not-geometry.true in
    let used : is_none mark ≡ false = ap is_none k ∙ sym c.if-not-is_unmarked.ensures in (
      subst (λ l. Moves g.K.Reporter.receives c.args.reporter.now l c.args.reporter.now)
          (sym (used_items file c.args.least_other c.args.page mark off used)) refl,
      next_kept file c.args.bench.now.chain c.args.page ok c.requires.page.0 (λ z. absurd (not_map (geometry file) c.args.page free z)) chain,
    ))

pub returns-clause-asks : goal.returns-clause-asks
returns-clause-asks g c = asks_nothing g.S.Source.step _ c.report_all.result _ c.report_all.ensures.only (inl refl) (λ file mark m e ok same chain.
    let k : mark ≡ c.get-mark.result = let q = c.get-mark.ensures in cc in
    let free : is_fixed (geometry file) c.args.page ≡ false = sym same ∙ ap is_fixed_mark k ∙ sym c.is_fixed.ensures ∙ c.if-is_fixed.false in
    let entry = c.entry_of-entry.ensures file e (subst (λ g. HasMapFor file g c.args.page c.args.bench.now.chain) (sym e) chain) in
    let items = other_items file c.args.least_other c.args.page mark c.use_fault.result c.late_fault.result (option_map entry_value c.entry_of-entry.result)
    c.geometry-geometry.result.has_map entry
    (ap (λ (g : Geometry). g.has_map) (c.geometry-geometry.ensures.value ∙ e))
    (c.use_fault.ensures ∙ ap (λ m. mark_fault c.args.page (option_map entry_value c.entry_of-entry.result) m) (sym k))
    (c.late_fault.ensures ∙ ap (λ m. late_fault c.geometry-geometry.result.has_map c.args.page m c.args.least_other) (sym k)) in (
      subst (λ l. Reports g.K.Reporter.receives c.report_all.result c.args.reporter.now l c.report_all.new.reporter) items c.report_all.ensures.reported,
      on_ok c.report_all.result (next_kept file c.args.bench.now.chain c.args.page ok c.requires.page.0 (λ z.
          absurd (not_map (geometry file) c.args.page free z))
          chain),
    ))
