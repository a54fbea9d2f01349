use Rattle.std.proofs.Common.{◌≡◌, ◌+◌, ◌≤◌, Ok, Err, flat_map, refl, sym, ap, subst, arith, ◌∙◌}
use Rattle.std.specs.Prelude.{fold}
use Rattle.std.proofs.lemmas.List.Sums.{fold-append}
use Rattle.std.proofs.lemmas.Result.{err_from_is_err_and}
use Rattle.std.specs.List.{range_with_len}
use Rattle.dbformat.specs.File.{geometry}
use Rattle.dbformat.specs.declared.Geometry.{Geometry}
use Rattle.dbsource.proofs.Logs.{asks_then, asks_weaker, has_none}
use Rattle.dbscan.specs.Desks.{DeskView, shape_of}
use Rattle.dbscan.specs.Looks.{IsUnmarked, ReadsOrNot, ReadsRisingBefore}
use Rattle.dbscan.proofs.MapLogs.{reads_more, reads_none}
use Rattle.dbinjuries.specs.Lists.{added}
use Rattle.dbinjuries.specs.Lost.{lost_at}
use Rattle.dbinjuries.proofs.Desks.{desk_kept}
use Rattle.dbinjuries.proofs.ListedFaults.{all_listed, all_noted, looked_first}
use Rattle.dbinjuries.proofs.LostPages.{ends, fits, lost_are, lost_first, lost_more}
use Rattle.dbinjuries.proofs.listing.Listing.look_at_lost.Goals as goal

pub loop-index-init : goal.loop-index-init
loop-index-init g c = record {
  desk = refl;
  asks = record {
    log = has_none _ _ refl refl (reads_none (shape_of c.args.desk.now).page_size (IsUnmarked c.args.desk.now.marks) 1)
        (λ file V d. refl);
    count = refl;
  };
}

pub returns-in_err-look_at_page-clause-desk : goal.returns-in_err-look_at_page-clause-desk
returns-in_err-look_at_page-clause-desk g c = c.look_at_page.ensures.desk
    ∙ ap (λ (d : DeskView). record d { pages = c.look_at_page.new.desk.pages }) c.loop-index.invariant.desk

pub returns-in_err-look_at_page-clause-asks : goal.returns-in_err-look_at_page-clause-asks
returns-in_err-look_at_page-clause-asks g c =
    let q = err_from_is_err_and c.from_residual.result c.from_residual.ensures.1 in
    let old = c.args.desk.now in
    let here = c.loop-index.desk in
    let i = c.loop-index.index in
    let same = c.loop-index.invariant.desk in
    rw q.1 (rw q.2 (asks_then (ReadsRisingBefore (shape_of old).page_size (IsUnmarked old.marks) (i + 1))
    (ReadsOrNot (shape_of here).page_size (IsUnmarked here.marks) (i + 1)) _ _ (Err _) (λ n. refl) (λ n. refl)
    c.loop-index.invariant.asks c.in_err-look_at_page.ensures.asks
    (λ a b h k. (reads_more (shape_of old).page_size (IsUnmarked old.marks) (i + 1) (i + 1) a b (omega arith) h
    (subst (λ (d : DeskView). ReadsOrNot (shape_of d).page_size (IsUnmarked d.marks) (i + 1) b) same k)).reads)
    (λ file way turn V d limit first none received.
    let high : i + 1 ≤ (geometry file).pages = fits d.header.shape (ap (λ (g : Geometry). g.pages) c.geometry-pages.ensures.shape) c.loop-index-test.true in
    let t = turn V (desk_kept old here file V same d) (omega arith) high in
    looked_first limit file V first c.args.self.now c.look_at_page.new.self (flat_map (lost_at file V) (range_with_len 1 i)) none received
    (lost_first file V i (omega (arith, high))) (t ∙ way V d))))

pub loop-index-preserved : goal.loop-index-preserved
loop-index-preserved g c =
    let old = c.args.desk.now in
    let here = c.loop-index.desk in
    let i = c.loop-index.index in
    let same = c.loop-index.invariant.desk in record {
      desk = c.look_at_page.ensures.desk ∙ ap (λ (d : DeskView). record d { pages = c.look_at_page.new.desk.pages }) same;
      asks = asks_then (ReadsRisingBefore (shape_of old).page_size (IsUnmarked old.marks) (i + 1))
          (ReadsOrNot (shape_of here).page_size (IsUnmarked here.marks) (i + 1)) _ _ (Ok tt) (λ n. refl) (λ n. refl)
          c.loop-index.invariant.asks c.in_ok-look_at_page.ensures.asks
          (λ a b h k. reads_more (shape_of old).page_size (IsUnmarked old.marks) (i + 1) (i + 1) a b (omega arith) h
          (subst (λ (d : DeskView). ReadsOrNot (shape_of d).page_size (IsUnmarked d.marks) (i + 1) b) same k))
          (λ file way turn V d.
          let high : i + 1 ≤ (geometry file).pages = fits d.header.shape (ap (λ (g : Geometry). g.pages) c.geometry-pages.ensures.shape) c.loop-index-test.true
          in
          let ys = flat_map (lost_at file V) (range_with_len 1 i) in
          turn V (desk_kept old here file V same d) (omega arith) high ∙ ap (λ l. fold added l (lost_at file V (i + 1))) (way V d)
          ∙ sym (ap (fold added c.args.self.now) (lost_more file V i) ∙ fold-append added c.args.self.now ys (lost_at file V (i + 1))));
    }

pub returns-clause-asks : goal.returns-clause-asks
returns-clause-asks g c =
    let old = c.args.desk.now in
    let i = c.loop-index.index in
    asks_weaker (ReadsRisingBefore (shape_of old).page_size (IsUnmarked old.marks) (i + 1)) _ (Ok tt) (λ n. refl)
    c.loop-index.invariant.asks (λ log h. h.reads) (λ file way V d limit first none received.
    let all : i ≡ (geometry file).pages = ends d.header.shape (ap (λ (g : Geometry). g.pages) c.geometry-pages.ensures.shape) c.loop-index.auto.index-end
    c.loop-index-test.false in
    let looked = way V d ∙ ap (fold added c.args.self.now) (ap (λ n. flat_map (lost_at file V) (range_with_len 1 n)) all ∙ sym (lost_are file V)) in (
      all_listed file V first c.args.self.now c.loop-index.self received looked limit none,
      all_noted file V first c.args.self.now c.loop-index.self received looked limit none,
    ))
