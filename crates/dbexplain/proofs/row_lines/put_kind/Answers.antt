use Rattle.std.proofs.Common.{◌≡◌, ◌+◌, ◌-◌, List, not, true, false, length, take, sym, ap, subst, ◌∙◌, arith}
use Rattle.std.specs.Prelude.{filter, ◌==◌}
use Rattle.std.specs.List.{list_any}
use Rattle.dbexplain.proofs.Common.{counted, is_of, is_all, list_text, RowRange}
use Rattle.dblines.proofs.Writing.{wrote_as, wrote_then}
use Rattle.dbexplain.specs.KeptRanges.{unkept}
use Rattle.dbexplain.proofs.RowLines.{IsSome, all_line, list_line, some_by_count, some_by_others, some_is}
use Rattle.dbexplain.proofs.row_lines.put_kind.Goals as goal
use Rattle.dbexplain.proofs.row_lines.put_kind.Goals.{else-count-eq0-via-then-count-eq0+else-others-eq0, else-count-eq0-via-else-count-eq0}

pub returns-then-has_all : goal.returns-then-has_all
returns-then-has_all g c =
    let rs = filter (is_of c.args.start c.args.kind) c.args.ranges.now.kept in
    let others = unkept c.args.ranges.now c.args.start c.args.kind in
    let of_kept = λ (l : List RowRange). filter (is_of c.args.start c.args.kind) l in
    let n : c.count_of-count.result ≡ length rs = c.count_of-count.ensures ∙ ap (λ l. length (of_kept l)) c.kept.ensures in
    let some : IsSome c.count_of-count.result c.unkept-others.result = elim c.else-count-eq0.branch [
      | else-count-eq0-via-then-count-eq0+else-others-eq0 w ↦ some_by_others c.count_of-count.result c.unkept-others.result w.if-others-eq0.false
      | else-count-eq0-via-else-count-eq0 w ↦ some_by_count c.count_of-count.result c.unkept-others.result w.if-count-eq0.false
    ] in
    let is_some : IsSome (length rs) others = subst (λ m. IsSome m others) n (subst (IsSome c.count_of-count.result) c.unkept-others.ensures some) in
    let all : list_any is_all rs ≡ true = sym (c.has_all.ensures ∙ ap (λ l. list_any is_all (of_kept l)) c.kept-2.ensures) ∙ c.if-has_all.true in
    wrote_as (all_line c.args.kind rs others is_some all)
    (wrote_then (wrote_then c.put.ensures (wrote_as (c.as_bytes.ensures.value ∙ c.words_of.ensures) c.put-2.ensures)) c.put-then-has_all.ensures)

pub returns : goal.returns
returns g c =
    let rs = filter (is_of c.args.start c.args.kind) c.args.ranges.now.kept in
    let others = unkept c.args.ranges.now c.args.start c.args.kind in
    let of_kept = λ (l : List RowRange). filter (is_of c.args.start c.args.kind) l in
    let n : c.count_of-count.result ≡ length rs = c.count_of-count.ensures ∙ ap (λ l. length (of_kept l)) c.kept.ensures in
    let o : c.unkept-others.result ≡ others = c.unkept-others.ensures in
    let some : IsSome c.count_of-count.result c.unkept-others.result = elim c.else-count-eq0.branch [
      | else-count-eq0-via-then-count-eq0+else-others-eq0 w ↦ some_by_others c.count_of-count.result c.unkept-others.result w.if-others-eq0.false
      | else-count-eq0-via-else-count-eq0 w ↦ some_by_count c.count_of-count.result c.unkept-others.result w.if-count-eq0.false
    ] in
    let is_some : IsSome (length rs) others = subst (λ m. IsSome m others) n (subst (IsSome c.count_of-count.result) o some) in
    let all : list_any is_all rs ≡ false = sym (c.has_all.ensures ∙ ap (λ l. list_any is_all (of_kept l)) c.kept-2.ensures) ∙ c.if-has_all.false in
    let more : c.saturating_add-more.result ≡ counted ((length rs - 10) + others) =
    omega (arith, c.saturating_sub.ensures, c.saturating_add-more.ensures, n, o) in
    wrote_as (list_line c.args.kind rs others is_some all c.saturating_add-more.result more _ (some_is c.count_of-count.result ∙ ap (λ m. not (m == 0)) n))
    (wrote_then (wrote_then (wrote_then (wrote_then c.put.ensures (wrote_as (c.as_bytes.ensures.value ∙ c.words_of.ensures) c.put-2.ensures))
    (wrote_as (ap (λ l. list_text c.args.kind true (take 10 (of_kept l))) c.kept-3.ensures) c.put_list.ensures))
    (wrote_as (c.as_slice.ensures.value ∙ c.and_more.ensures) c.put-3.ensures)) c.put-4.ensures)
