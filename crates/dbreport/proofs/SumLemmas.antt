-- Counts that stop at the greatest number of 64 bits.
use Rattle.dbreport.proofs.Common.{◌≡◌, ℕ, zero, suc, ◌*◌, ◌^◌, ◌-◌, ◌<◌, ◌≤◌, min, refl, inl, inr, arith, counted, cases_lt}
use Rattle.std.proofs.Math.Nat.{min-eq_left, min-eq_right, le-mul_of_pos_right, mul-le-mul_right}
use native.Mathlib.Numerals.{unary_clauses}

-- a factor may stop first
min-mul : (m n s : ℕ) → min (min n m * s) m ≡ min (n * s) m
min-mul m n zero = simp unary_clauses
min-mul m n (suc s) =
    let some : zero < suc s = omega arith in
    let much : m ≤ m * suc s = le-mul_of_pos_right m some in
    elim (cases_lt n m) [
      | inl h ↦ (let e : min n m ≡ n = min-eq_left (omega arith) in rw e refl)
      | inr h ↦ (
          let e : min n m ≡ m = min-eq_right h in
          let more : m * suc s ≤ n * suc s = mul-le-mul_right (suc s) h in
          let all : m ≤ n * suc s = omega arith in
          rw (e, min-eq_right much, min-eq_right all) refl)
    ]

-- the size of n pages, which is computed from their count
pub counted-mul : (n s : ℕ) → counted (counted n * s) ≡ counted (n * s)
counted-mul n s = min-mul (2 ^ 64 - 1) n s
