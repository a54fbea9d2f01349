use Rattle.std.proofs.Common.{◌≡◌, ℕ, ◌+◌, length, refl, ap, ap₂, ◌∙◌, arith}
use Rattle.std.specs.List.{fold, range_with_len}
use Rattle.dbformat.specs.File.{geometry}
use Rattle.dbformat.specs.Starts.{start_at}
use Rattle.dbmarks.proofs.Markings.{marks_of-length}
use Rattle.dbscan.specs.Owners.{place_of}
use Rattle.dbpicture.specs.Tallies.{none_tallied, page_counted, PagesTallied}
use Rattle.dbpicture.proofs.Steps.{fold_more}
use Rattle.dbpicture.proofs.tally.PageTally.count.Goals as goal

pub loop-index-init : goal.loop-index-init
loop-index-init g c = λ file V of. c.clear.ensures

pub loop-index-preserved : goal.loop-index-preserved
loop-index-preserved g c = λ file V of.
    (let place = c.place_of.ensures.visit file V of.survey of.marks in
    let start = c.start_of-start.ensures file V of.survey of.marks of.trees in
    let i = c.loop-index.index in
    let one = λ (t : PagesTallied) (p : ℕ). page_counted (place_of file V p) (start_at V p) t in
    c.add.ensures ∙ ap₂ (λ a s. page_counted a s c.loop-index.self) place start
    ∙ ap (λ t. one t (i + 1)) (c.loop-index.invariant file V of) ∙ fold_more one none_tallied 1 i (i + 1) (omega arith) refl)

pub returns : goal.returns
returns g c = λ file V of. (
    let all : length c.args.marks.now ≡ (geometry file).pages = ap length of.marks ∙ marks_of-length (geometry file) V in
    let end : c.loop-index.index ≡ (geometry file).pages =
    omega (arith, c.loop-index-test.false, c.pages-index-end.ensures.count, all, c.loop-index.auto.index-end) in
    c.loop-index.invariant file V of
    ∙ ap (λ n. fold (λ t p. page_counted (place_of file V p) (start_at V p) t) none_tallied (range_with_len 1 n)) end)
