-- How many pages a square covers.
use Rattle.std.proofs.Common.{◌≡◌, ℕ, zero, suc, ◌-◌, ◌*◌, ◌/◌, ◌<◌, ◌≤◌, Bool, true, false, cond, max, nat_lt, sym, subst, arith}
use Rattle.std.specs.Int.{div_ceil}
use Rattle.std.proofs.lemmas.Grind.{div_ceil_times}
use Rattle.std.proofs.Math.Nat.{lt_of_mul-lt-mul_left, mul_comm}
use Rattle.dbpicture.specs.Grids.{group_after, group_for}

-- it covers one at least
pub group_some : (pages n : ℕ) → 1 ≤ group_after pages n
unfolding group_after
group_some pages zero = omega arith
group_some pages (suc n) = by_case (nat_lt 16384 (div_ceil pages (group_after pages n))) (group_some pages n)
  where
    by_case : (b : Bool) → 1 ≤ group_after pages n → 1 ≤ cond b (group_after pages n * 2) (group_after pages n)
    by_case true l = omega arith
    by_case false l = l

-- a page of the file is of one of its squares
pub square_within : (pages p : ℕ) → 1 ≤ p → p ≤ pages → (p - 1) / max (group_for pages) 1 < div_ceil pages (group_for pages)
square_within pages p l m =
    let group = group_for pages in
    let some : 0 < group = group_some pages 18 in
    let one : max group 1 ≡ group = omega arith in
    let all = (div_ceil_times pages group some).0 in
    let down : group * ((p - 1) / group) ≤ p - 1 = omega arith in
    let turned = mul_comm group (div_ceil pages group) in
    let less : group * ((p - 1) / group) < group * div_ceil pages group = omega (arith, all, down, turned, l, m) in
    subst (λ r. (p - 1) / r < div_ceil pages group) (sym one) (lt_of_mul-lt-mul_left group less)
