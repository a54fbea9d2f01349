use Rattle.std.proofs.Common.{◌≡◌, ℕ, List, [], ◌∷◌, ◌++◌, length, add-one, sym, ap, ap₂, ◌∙◌, arith, length-append}
use Rattle.dbpicture.specs.Tallies.{largest_trees, left_pages, next_start, one_tree_more, pages_at}
use Rattle.std.proofs.lemmas.Bool.Decides.{nat_tests}
use Rattle.dbpicture.proofs.tally.PageTally.largest.Goals as goal
use Rattle.dbpicture.proofs.tally.PageTally.largest.Goals.{else-left-ne0, then-left-ne0}

module _ (pages : ℕ → ℕ) (n : ℕ) (taken : List ℕ) (left : ℕ) (e : left ≡ left_pages pages taken (next_start pages n taken)) where
  found : (left ≡ 0 → ⊥) → taken ++ next_start pages n taken ∷ [] ≡ one_tree_more pages n taken
  found some = grind (arith, nat_tests)

  not_found : left ≡ 0 → taken ≡ one_tree_more pages n taken
  not_found none = grind (arith, nat_tests)

pub loop-init : goal.loop-init
unfolding largest_trees
loop-init g c = record { starts = c.new-largest.ensures; few = omega (arith, ap length c.new-largest.ensures) }

pub loop-preserved : goal.loop-preserved
unfolding largest_trees
loop-preserved g c =
    let pages = pages_at c.args.self.now.starts in
    let n = c.args.trees in
    let ts = c.loop.largest.items in
    let at = c.loop.invariant in
    let next : c.next-next.result ≡ next_start pages n ts = c.next-next.ensures ∙ ap (next_start pages n) c.as_slice.ensures.value in
    let left : c.left.result ≡ left_pages pages ts (next_start pages n ts) = c.left.ensures ∙ ap₂ (left_pages pages) c.as_slice-in-loop.ensures.value next in
    let more = ap (one_tree_more pages n) at.starts ∙ ap (largest_trees pages n) (sym (add-one c.loop.counter)) in
    elim c.if-left-ne0.branch [
      | then-left-ne0 w ↦ (
          let pushed = ap (λ l. l.items) w.largest-is ∙ w.push.ensures.items in record {
            starts = pushed ∙ ap (λ k. ts ++ k ∷ []) next ∙ found pages n ts c.left.result left w.if-left-ne0.true ∙ more;
            few = omega (arith, ap length pushed ∙ length-append ts (c.next-next.result ∷ []), at.few);
          })
      | else-left-ne0 w ↦ record {
        starts = ap (λ l. l.items) w.largest-is ∙ not_found pages n ts c.left.result left w.if-left-ne0.false ∙ more;
        few = omega (arith, ap (λ l. length l.items) w.largest-is, at.few);
      }
    ]
