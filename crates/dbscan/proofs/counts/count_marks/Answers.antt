use Rattle.dbscan.proofs.Common.{◌+◌, ◌≤◌, cond, max, ap, ap₂, ◌∙◌, sym, arith, Some, None, inl, refl, is_free_mark, is_root_mark, is_other_mark, option_or}
use Rattle.dbscan.proofs.Common.{moves_then}
use Rattle.dbscan.proofs.CountedMarks.{bit_most, count_more, greatest_more, least_more}
use Rattle.dbscan.proofs.PagesReceived.{all_pages, one_page}
use Rattle.dbscan.proofs.counts.count_marks.Goals as goal

pub loop-index-init : goal.loop-index-init
loop-index-init g c = record {
  received = λ t h. h;
  moves = inl refl;
  free = refl;
  most = omega arith;
  greatest = refl;
  least = refl;
}

pub returns-clause-reported : goal.returns-clause-reported
returns-clause-reported g c = record {
  items = all_pages g.K.Reporter.receives c.args.geometry.now c.args.marks.now c.loop-index.index c.args.reporter.now c.loop-index.reporter
      c.loop-index.invariant.received (omega arith);
  count = c.loop-index.invariant.moves;
}

pub loop-index-preserved : goal.loop-index-preserved
loop-index-preserved g c =
    let marks = c.args.marks.now in
    let i = c.loop-index.index in
    let mark = c.get-mark.result in
    let one = c.free_page-free.ensures in
    let most : c.free_page-free.result ≤ 1 = bit_most (is_free_mark mark) c.free_page-free.result one in record {
      received = one_page g.K.Reporter.receives c.args.geometry.now marks i c.args.reporter.now c.loop-index.reporter c.loop-index.invariant.received mark
          c.receive.new.self c.get-mark.ensures c.receive.ensures.notice;
      moves = moves_then c.loop-index.invariant.moves c.receive.ensures.count;
      free = ap₂ (λ a b. a + b) c.loop-index.invariant.free one ∙ sym (count_more is_free_mark marks i mark c.get-mark.ensures);
      most = let k = c.loop-index.invariant.most in omega arith;
      greatest = c.greater_root-greatest_root.ensures ∙ ap (λ n. cond (is_root_mark mark) (max n (i + 1)) n) c.loop-index.invariant.greatest
          ∙ greatest_more is_root_mark marks i mark c.get-mark.ensures;
      least = c.first_other-least_other.ensures ∙ ap (λ o. option_or o (cond (is_other_mark mark) (Some (i + 1)) None)) c.loop-index.invariant.least
          ∙ least_more is_other_mark marks i mark c.get-mark.ensures;
    }
