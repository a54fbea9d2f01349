use Rattle.std.proofs.Common.{◌≡◌, ◌+◌, ◌<◌, ◌≤◌, length, sym, ap, subst, ◌∙◌, arith}
use Rattle.dbformat.specs.File.{geometry}
use Rattle.dbformat.specs.FixedPages.{most_pages}
use Rattle.dbmarks.proofs.Markings.{marks_of-length}
use Rattle.dbexplain.specs.Tallies.{IsTallyTo, Tallied, page_reached}
use Rattle.dbexplain.proofs.ReachedPages.{page_more}
use Rattle.dbexplain.proofs.reached.count_pages.Goals as goal
use Rattle.dbexplain.proofs.reached.count_pages.Goals.{in-None, in-Some}

pub loop-index-preserved : goal.loop-index-preserved
loop-index-preserved g c = λ file V ts o is.
    let i = c.loop-index.index in
    let all : length c.args.owners.now.marks.now ≡ (geometry file).pages = ap length o.marks ∙ marks_of-length (geometry file) V in
    let few : i < most_pages = omega (arith, c.loop-index-test.true, c.pages-index-end.ensures.count, c.pages-index-end.ensures.most) in
    let within : i + 1 ≤ (geometry file).pages = omega (arith, all, c.loop-index-test.true, c.pages-index-end.ensures.count) in
    let start = c.start_of.ensures file V o.survey o.marks o.trees in
    let next : (t : Tallied) → t ≡ page_reached c.start_of.result (i + 1) c.loop-index.tally → IsTallyTo (geometry file).pages V ts (i + 1) t = λ t e.
    subst (IsTallyTo (geometry file).pages V ts (i + 1)) (sym (e ∙ ap (λ s. page_reached s (i + 1) c.loop-index.tally) start))
    (page_more V ts i few (geometry file).pages c.loop-index.tally (c.loop-index.invariant file V ts o is) within) in
    elim c.match-start_of.branch [
      | in-Some w ↦ next _ (w.tally-is ∙ w.count_page.ensures ∙ ap (λ s. page_reached s (i + 1) c.loop-index.tally) (sym w.in-Some.is))
      | in-None w ↦ next _ (w.tally-is ∙ ap (λ s. page_reached s (i + 1) c.loop-index.tally) (sym w.in-None.is))
    ]

pub returns : goal.returns
returns g c = λ file V ts o is.
    let all : length c.args.owners.now.marks.now ≡ (geometry file).pages = ap length o.marks ∙ marks_of-length (geometry file) V in
    let end : c.loop-index.index ≡ (geometry file).pages =
    omega (arith, c.loop-index-test.false, c.pages-index-end.ensures.count, all, c.loop-index.auto.index-end) in
    subst (λ n. IsTallyTo (geometry file).pages V ts n c.loop-index.tally) end (c.loop-index.invariant file V ts o is)
