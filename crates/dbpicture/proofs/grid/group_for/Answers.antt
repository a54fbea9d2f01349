use Rattle.std.proofs.Common.{◌≡◌, ◌+◌, ◌*◌, ◌^◌, ◌<◌, ◌≤◌, cond, nat_lt, true, false, add-one, refl, sym, ap, ◌∙◌, arith}
use Rattle.std.specs.Int.{div_ceil}
use Rattle.std.proofs.lemmas.Bool.Decides.{nat_tests}
use Rattle.std.proofs.Math.Nat.{pow-suc}
use Rattle.std.proofs.Math.Pow.{pow_mono}
use Rattle.dbpicture.specs.Grids.{group_after}
use Rattle.dbpicture.proofs.grid.group_for.Goals as goal
use Rattle.dbpicture.proofs.grid.group_for.Goals.{else-div_ceil-gt-MOST_SQUARES, then-div_ceil-gt-MOST_SQUARES}

pub loop-init : goal.loop-init
unfolding group_after
loop-init c = record { group = refl; some = omega arith; most = omega arith }

pub loop-preserved : goal.loop-preserved
unfolding group_after
loop-preserved c =
    let pages = c.args.pages in
    let n = c.loop.counter in
    let at = c.loop.invariant in
    let squares = c.div_ceil.ensures ∙ ap (div_ceil pages) at.group in
    let next = ap (group_after pages) (add-one n) in
    let twice : 2 ^ (n + 1) ≡ 2 ^ n * 2 = ap (λ i. 2 ^ i) (add-one n) ∙ pow-suc 2 n in
    elim c.if-div_ceil-gt-MOST_SQUARES.branch [
      | then-div_ceil-gt-MOST_SQUARES w ↦ (
          let many : 16384 < div_ceil pages (group_after pages n) = omega (arith, squares, w.if-div_ceil-gt-MOST_SQUARES.true) in
          let test : nat_lt 16384 (div_ceil pages (group_after pages n)) ≡ true = grind (arith, nat_tests) in
          record {
            group = w.group-is ∙ ap (λ r. r * 2) at.group ∙ sym (next ∙ ap (λ b. cond b (group_after pages n * 2) (group_after pages n)) test);
            some = omega (arith, w.group-is, at.some);
            most = omega (arith, w.group-is, at.most, twice);
          })
      | else-div_ceil-gt-MOST_SQUARES w ↦ (
          let few : div_ceil pages (group_after pages n) ≤ 16384 = omega (arith, squares, w.if-div_ceil-gt-MOST_SQUARES.false) in
          let test : nat_lt 16384 (div_ceil pages (group_after pages n)) ≡ false = grind (arith, nat_tests) in
          record {
            group = w.group-is ∙ at.group ∙ sym (next ∙ ap (λ b. cond b (group_after pages n * 2) (group_after pages n)) test);
            some = omega (arith, w.group-is, at.some);
            most = omega (arith, w.group-is, at.most, twice);
          })
    ]

pub overflow_mul-group : goal.overflow_mul-group
overflow_mul-group c = let most : 2 ^ c.loop.counter ≤ 2 ^ 17 = pow_mono {j = 17} (omega arith) in omega (arith, most, c.loop.invariant.most)
