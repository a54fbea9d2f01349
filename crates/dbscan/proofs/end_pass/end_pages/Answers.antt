use Rattle.dbscan.proofs.Common.{◌≡◌, ◌+◌, length, Ok, Err, refl, sym, ap, ◌∙◌, subst, arith, Moves, MovesBySome, geometry, Geometry, mark_of, page_mark}
use Rattle.dbscan.proofs.Common.{page_notices, pages_items, IsMapInUse, MapReadsBefore, Moves-append, some_first, some_after, Pages, asks_then, asks_weaker}
use Rattle.dbscan.proofs.Common.{err_is, has_none, page_mark-in, marks_of-length, IsMapTurn}
use Rattle.dbscan.proofs.EndItems.{items_one_more, items_begin, fixed_by_mark}
use Rattle.dbscan.proofs.MapLogs.{reads_none, reads_more}
use Rattle.dbscan.proofs.end_pass.end_pages.Goals as goal

pub loop-index-init : goal.loop-index-init
loop-index-init g c = record {
  asks = record {
    log = has_none _ _ refl refl (reads_none c.args.bench.now.geometry.page_size (IsMapInUse c.args.bench.now.geometry) 1)
        (λ file e ok V m. (refl, λ has low high. absurd (omega arith)));
    count = refl;
  };
  writes = refl;
  bench = refl;
}

pub returns-in_err-end_page-clause-asks : goal.returns-in_err-end_page-clause-asks
returns-in_err-end_page-clause-asks g c =
    let i = c.loop-index.index in
    let shape = c.args.bench.now.geometry in
    let same = ap (λ (b : Pages). b.geometry) c.loop-index.invariant.bench in
    rw (err_is c.from_residual.ensures.1)
    (asks_then (MapReadsBefore shape (i + 1)) (IsMapTurn c.loop-index.bench.geometry (i + 1)) _ _ (Err c.in_err-end_page.field-0.0) (λ n. refl)
    (λ n. refl)
    c.loop-index.invariant.asks c.in_err-end_page.ensures.asks
    (λ a b e f. (reads_more shape.page_size (IsMapInUse shape) (i + 1) (i + 1) a b (omega arith) e
    (subst (λ (s : Geometry). IsMapTurn s (i + 1) b) same f)).reads)
    (λ file way turn e ok V m.
    let k = way e ok V m in
    let len : length c.args.marks.now ≡ (geometry file).pages = ap length m ∙ marks_of-length (geometry file) V in
    let n = c.pages-index-end.ensures.count in
    let mark = mark_of (geometry file) V (i + 1) in
    let at = ap (λ l. page_mark l (i + 1)) m ∙ page_mark-in (geometry file) V (i + 1) (omega arith) (omega arith) in
    let t = turn mark at (same ∙ e) ok (fixed_by_mark (geometry file) V (i + 1)) k.1 in
    let some = some_after g.K.Reporter.receives c.args.reporter.now c.loop-index.reporter c.end_page.new.reporter
    (pages_items file V c.args.least_other i) (page_notices file c.args.least_other (i + 1) mark) k.0 t.0 in
    let more = subst (λ l. MovesBySome g.K.Reporter.receives c.args.reporter.now l c.end_page.new.reporter)
    (sym (items_one_more file V c.args.least_other i)) some in
    let rest = items_begin file V c.args.least_other (i + 1) (geometry file).pages (omega arith) in
    subst (λ l. MovesBySome g.K.Reporter.receives c.args.reporter.now l c.end_page.new.reporter) rest.1
    (some_first g.K.Reporter.receives c.args.reporter.now c.end_page.new.reporter
    (pages_items file V c.args.least_other (i + 1)) rest.0 more)))

pub loop-index-preserved : goal.loop-index-preserved
loop-index-preserved g c =
    let i = c.loop-index.index in
    let shape = c.args.bench.now.geometry in
    let same = ap (λ (b : Pages). b.geometry) c.loop-index.invariant.bench in record {
      asks = asks_then (MapReadsBefore shape (i + 1)) (IsMapTurn c.loop-index.bench.geometry (i + 1)) _ _ (Ok tt) (λ n. refl) (λ n. refl)
          c.loop-index.invariant.asks c.in_ok-end_page.ensures.asks
          (λ a b e f. reads_more shape.page_size (IsMapInUse shape) (i + 1) (i + 1) a b (omega arith) e
          (subst (λ (s : Geometry). IsMapTurn s (i + 1) b) same f))
          (λ file way turn e ok V m.
          let k = way e ok V m in
          let len : length c.args.marks.now ≡ (geometry file).pages = ap length m ∙ marks_of-length (geometry file) V in
          let n = c.pages-index-end.ensures.count in
          let mark = mark_of (geometry file) V (i + 1) in
          let at = ap (λ l. page_mark l (i + 1)) m ∙ page_mark-in (geometry file) V (i + 1) (omega arith) (omega arith) in
          let t = turn mark at (same ∙ e) ok (fixed_by_mark (geometry file) V (i + 1)) k.1 in (
            subst (λ l. Moves g.K.Reporter.receives c.args.reporter.now l c.end_page.new.reporter) (sym (items_one_more file V c.args.least_other i))
                (Moves-append g.K.Reporter.receives c.args.reporter.now c.loop-index.reporter c.end_page.new.reporter (pages_items file V c.args.least_other i)
                (page_notices file c.args.least_other (i + 1) mark) k.0 t.0),
            t.1,
          ));
      writes = c.in_ok-end_page.ensures.ends.writes ∙ c.loop-index.invariant.writes;
      bench = c.end_page.ensures.ends.bench ∙ ap (λ (b : Pages). record b { chain = c.end_page.new.bench.chain }) c.loop-index.invariant.bench;
    }

pub returns-clause-asks : goal.returns-clause-asks
returns-clause-asks g c = asks_weaker (MapReadsBefore c.args.bench.now.geometry (c.loop-index.index + 1)) _ (Ok tt) (λ n. refl) c.loop-index.invariant.asks
    (λ log h. h.reads)
    (λ file way e ok V m.
    let k = way e ok V m in
    let len : length c.args.marks.now ≡ (geometry file).pages = ap length m ∙ marks_of-length (geometry file) V in
    let n = c.pages-index-end.ensures.count in
    let all : c.loop-index.index ≡ (geometry file).pages = omega arith in
    subst (λ n. Moves g.K.Reporter.receives c.args.reporter.now (pages_items file V c.args.least_other n) c.loop-index.reporter) all k.0)
