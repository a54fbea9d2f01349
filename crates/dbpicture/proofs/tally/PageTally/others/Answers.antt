use Rattle.std.proofs.Common.{◌≡◌, ℕ, ◌+◌, List, add-one, sym, ap, ap₂, ◌∙◌, arith}
use Rattle.dbpicture.specs.Owners.{capped_pages, share_sum}
use Rattle.dbpicture.specs.Tallies.{left_pages, other_counted, others, pages_at, share_at}
use Rattle.dbpicture.specs.declared.owner_shares.Share.{Share}
use Rattle.std.proofs.lemmas.Bool.Decides.{nat_tests}
use Rattle.dbpicture.proofs.tally.PageTally.others.Goals as goal
use Rattle.dbpicture.proofs.tally.PageTally.others.Goals.{else-left-ne0, then-left-ne0}

module _ (starts : List Share) (largest : List ℕ) where
  counted : (k left : ℕ) (s : ℕ × Share) → left ≡ left_pages (pages_at starts) largest k → (left ≡ 0 → ⊥)
      → (capped_pages (s.0 + 1), share_sum s.1 (share_at starts k)) ≡ other_counted starts largest k s
  counted k left s e some = grind (arith, nat_tests)

  passed : (k left : ℕ) (s : ℕ × Share) → left ≡ left_pages (pages_at starts) largest k → left ≡ 0 → s ≡ other_counted starts largest k s
  passed k left s e none = grind (arith, nat_tests)

pub loop-start-init : goal.loop-start-init
unfolding others
loop-start-init g c = λ i. (0, record { pages = c.default-all.ensures.0 i; overflow = c.default-all.ensures.1 i })

pub loop-start-preserved : goal.loop-start-preserved
unfolding others
loop-start-preserved g c =
    let starts = c.args.self.now.starts in
    let largest = c.args.largest.now in
    let k = c.loop-start.start in
    let more = ap (other_counted starts largest k) c.loop-start.invariant ∙ ap (others starts largest) (sym (add-one k)) in
    let s : ℕ × Share = (c.loop-start.count, c.loop-start.all) in
    elim c.if-left-ne0.branch [
      | then-left-ne0 w ↦ ap₂ (λ (n : ℕ) (t : Share). let u : ℕ × Share = (n, t) in u) (w.count-is ∙ w.saturating_add-count.ensures)
          (w.all-is ∙ w.join.ensures ∙ ap (share_sum c.loop-start.all) w.share.ensures)
          ∙ counted starts largest k c.left.result s c.left.ensures w.if-left-ne0.true ∙ more
      | else-left-ne0 w ↦ ap₂ (λ (n : ℕ) (t : Share). let u : ℕ × Share = (n, t) in u) w.count-is w.all-is
          ∙ passed starts largest k c.left.result s c.left.ensures w.if-left-ne0.false ∙ more
    ]

pub returns : goal.returns
returns g c =
    let end : c.loop-start.start ≡ c.args.trees = omega arith in
    c.loop-start.invariant ∙ ap (others c.args.self.now.starts c.args.largest.now) end
