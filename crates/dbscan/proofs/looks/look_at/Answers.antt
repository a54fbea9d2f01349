use Rattle.dbscan.proofs.Common.{◌≡◌, ℕ, Bool, List, Ok, Err, refl, sym, ap, ◌∙◌, geometry, page_bytes, Geometry, lost_cause_at, is_unmarked}
use Rattle.dbscan.proofs.Common.{err_from_is_err_and, Cause, Pages, has_weaker, log_load, page_read}
use Rattle.dbtrace.specs.Causes.{lost_cause}
use Rattle.dbwalk.proofs.Pages.Levels.{usable_page}
use Rattle.dbscan.proofs.looks.look_at.Goals as goal

-- the cause of its fault, by its bytes as they were read
seen : (lost : ℕ → Bool) (file : List ℕ) (p : ℕ) (g : Geometry) (usable : ℕ) (bytes : List ℕ) (why : Cause) → g ≡ geometry file → usable ≡ g.usable
    → bytes ≡ page_bytes file p → why ≡ lost_cause lost p usable bytes → why ≡ lost_cause_at lost file p
seen lost file p g usable bytes why e u b k = k ∙ rw u (rw e (rw b refl))

pub returns-in_err-load-clause-asks : goal.returns-in_err-load-clause-asks
returns-in_err-load-clause-asks g c =
    let q = err_from_is_err_and c.from_residual.result c.from_residual.ensures.1 in
    let size = c.args.bench.now.geometry.page_size in
    let level = c.in_err-load.ensures.level in
    rw q.1 (rw q.2 (record {
      log = has_weaker _ _ (log_load size c.args.page level.bytes (Err c.in_err-load.field-0.0) c.in_err-load.ensures.told level.size level.holds) (λ log l. l)
          (λ file bytes e. tt);
      count = c.in_err-load.ensures.count;
    }))

pub returns-clause-asks : goal.returns-clause-asks
returns-clause-asks g c =
    let size = c.args.bench.now.geometry.page_size in
    let level = c.in_ok-load.ensures.level in
    let chain = ap (λ (b : Pages). b.chain) level.only in
    let usable = ap (λ (s : Geometry). s.usable) (c.geometry-usable.ensures.value ∙ ap (λ (b : Pages). b.geometry) level.only) in
    record {
      log = has_weaker _ _ (log_load size c.args.page level.bytes (Ok tt) c.in_ok-load.ensures.told level.size level.holds) (λ log l. l)
          (λ file bytes e. seen (is_unmarked c.args.marks.now) file c.args.page c.args.bench.now.geometry _ _ c.lost_cause.result e usable
          (c.page.ensures.bytes ∙ chain ∙ page_read file level.bytes size c.args.page level.size bytes (ap (λ (s : Geometry). s.page_size) (sym e)))
          c.lost_cause.ensures);
      count = c.in_ok-load.ensures.count;
    }

pub lost_cause-requires : goal.lost_cause-requires
lost_cause-requires g c = usable_page c.geometry-usable.ensures.value c.geometry-usable.ensures.range c.page.ensures.len
