-- Rowids of five bytes: the greater has the greater bytes.
use Rattle.std.proofs.Common.{◌≡◌, ℕ, zero, suc, ◌+◌, ◌*◌, ◌/◌, ◌%◌, ◌<◌, ◌≤◌, min, inl, inr, false, true, List, [], ◌∷◌, Option, Some, None, ℤ, pos}
use Rattle.std.proofs.Common.{length, get_or, ltb, refl, sym, subst, ap, ◌∙◌, arith}
use Rattle.std.specs.Prelude.{◌<ℤ◌}
use Rattle.std.specs.Int.{bit_at}
use Rattle.std.specs.Int.Bits.{bit_and}
use Rattle.std.specs.Int.Signed.{<ℤ_irrefl}
use Rattle.std.proofs.Math.Dec.{lt→ltb}
use Rattle.std.specs.Cmp.{int_chain}
use Rattle.std.proofs.lemmas.Bool.{cases_lt}
use Rattle.std.proofs.lemmas.Bool.Decides.{nat_tests}
use Rattle.std.proofs.lemmas.Nat.Bits.{bit_at_and, bit_at-lt}
use Rattle.byteorder.specs.Endian.{big_number}
use Rattle.dbbytes.proofs.VarintLemmas.{varint-from-number}
use Rattle.dbformat.specs.Varint.{signed, varint}
use Rattle.dbpage.specs.Five.{IsFive, IsLast, value_of_five}
use Rattle.dbpage.specs.Packed.{IsAboveLast}

-- a bit that a mask has is what the masked number has
high : (n k mask of : ℕ) → bit_at mask k ≡ 1 → bit_and n mask ≡ of → bit_at n k ≡ bit_at of k
high n k mask of one is =
    sym (low_min (bit_at n k) (bit_at-lt n k)) ∙ ap (min (bit_at n k)) (sym one) ∙ sym (bit_at_and n mask k) ∙ ap (λ (x : ℕ). bit_at x k) is
  where
    low_min : (x : ℕ) → x < 2 → min x 1 ≡ x
    low_min x h = omega arith

pub five_by_bits : (n : ℕ) → n < 1099511627776 → bit_and n 551911719040 ≡ 551911718912 → IsFive n
five_by_bits n fits is =
    let first : n / 549755813888 % 2 ≡ 1 = high n 39 551911719040 551911718912 refl is in
    let second : n / 2147483648 % 2 ≡ 1 = high n 31 551911719040 551911718912 refl is in
    let third : n / 8388608 % 2 ≡ 1 = high n 23 551911719040 551911718912 refl is in
    let fourth : n / 32768 % 2 ≡ 1 = high n 15 551911719040 551911718912 refl is in
    let fifth : n / 128 % 2 ≡ 0 = high n 7 551911719040 551911718912 refl is in
    record {
      fits = fits;
      first = omega arith;
      second = omega arith;
      third = omega arith;
      fourth = omega arith;
      fifth = omega arith;
    }

not_last : (b : ℕ) → 128 ≤ b → ltb b 128 ≡ false
not_last b h = grind (arith, nat_tests)

is_last : (b : ℕ) → b < 128 → ltb b 128 ≡ true
is_last b h = grind (arith, nat_tests)

abbrev joined : ℕ → ℕ → ℕ → ℕ → ℕ → ℕ
joined a b c d e = ((((0 * 128 + a % 128) * 128 + b % 128) * 128 + c % 128) * 128 + d % 128) * 128 + e % 128

spelled : (a b c d e : ℕ) (rest : List ℕ) → 128 ≤ a → 128 ≤ b → 128 ≤ c → 128 ≤ d → e < 128
    → varint (a ∷ b ∷ c ∷ d ∷ e ∷ rest) ≡ Some (joined a b c d e, 5)
spelled a b c d e rest p q r s t =
    sym (varint-from-number (a ∷ b ∷ c ∷ d ∷ e ∷ rest)) ∙ rw (not_last a p, not_last b q, not_last c r, not_last d s, is_last e t) refl

-- eight bytes whose first five are a number of five bytes
pub five_spelled : (xs : List ℕ) (n : ℕ) → 8 ≤ length xs → ((j : ℕ) → get_or xs j 0 < 256) → n ≡ big_number 8 xs / 16777216 → IsFive n
    → varint xs ≡ Some (value_of_five n, 5)
five_spelled [] n long small is five = absurd (omega arith)
five_spelled (a ∷ []) n long small is five = absurd (omega arith)
five_spelled (a ∷ b ∷ []) n long small is five = absurd (omega arith)
five_spelled (a ∷ b ∷ c ∷ []) n long small is five = absurd (omega arith)
five_spelled (a ∷ b ∷ c ∷ d ∷ []) n long small is five = absurd (omega arith)
five_spelled (a ∷ b ∷ c ∷ d ∷ e ∷ rest) n long small is five =
    let x : ℕ = get_or rest 0 0 in
    let y : ℕ = get_or rest 1 0 in
    let z : ℕ = get_or rest 2 0 in
    let whole : n ≡ (a * 72057594037927936 + (b * 281474976710656 + (c * 1099511627776 + (d * 4294967296
    + (e * 16777216 + (x * 65536 + (y * 256 + (z * 1 + 0)))))))) / 16777216 = is in
    let high : n ≡ a * 4294967296 + b * 16777216 + c * 65536 + d * 256 + e = omega (arith, whole, small 5, small 6, small 7) in
    let first : n / 4294967296 ≡ a = omega (arith, high, small 1, small 2, small 3, small 4) in
    let second : n / 16777216 % 256 ≡ b = omega (arith, high, small 1, small 2, small 3, small 4) in
    let third : n / 65536 % 256 ≡ c = omega (arith, high, small 2, small 3, small 4) in
    let fourth : n / 256 % 256 ≡ d = omega (arith, high, small 3, small 4) in
    let fifth : n % 256 ≡ e = omega (arith, high, small 4) in
    spelled a b c d e rest (omega (arith, first, five.first)) (omega (arith, second, five.second)) (omega (arith, third, five.third))
    (omega (arith, fourth, five.fourth)) (omega (arith, fifth, five.fifth)) ∙ ap (λ (v : ℕ). Some (v, 5)) (value n a b c d e first second third fourth fifth)
  where
    part : (m b : ℕ) → m % 256 ≡ b → b % 128 ≡ m % 128
    part m b h = omega arith

    value : (n a b c d e : ℕ) → n / 4294967296 ≡ a → n / 16777216 % 256 ≡ b → n / 65536 % 256 ≡ c → n / 256 % 256 ≡ d → n % 256 ≡ e
        → joined a b c d e ≡ value_of_five n
    value n a b c d e p q r s t =
        let first : a % 128 ≡ n / 4294967296 % 128 = ap (λ (m : ℕ). m % 128) (sym p) in
        omega (arith, first, part (n / 16777216) b q, part (n / 65536) c r, part (n / 256) d s, part n e t)

-- one more byte: what comes before it decides, and else the byte
step : (m n a b p q : ℕ) → a ≡ m / 256 → b ≡ n / 256 → (m % 256 < n % 256 → m % 128 < n % 128) → (a < b → p < q) → (a ≡ b → p ≡ q) → m < n
    → p * 128 + m % 128 < q * 128 + n % 128
step m n a b p q at to low less same h = elim (cases_lt a b) [
  | inl before ↦ omega (arith, less before)
  | inr on ↦ let e : a ≡ b = omega arith in omega (arith, same e, low (omega arith))
]

value_rises : (m n : ℕ) → IsFive m → IsFive n → m < n → value_of_five m < value_of_five n
value_rises m n p q h =
    let a4 : ℕ = m / 4294967296 % 128 in
    let b4 : ℕ = n / 4294967296 % 128 in
    let a3 : ℕ = a4 * 128 + m / 16777216 % 128 in
    let b3 : ℕ = b4 * 128 + n / 16777216 % 128 in
    let a2 : ℕ = a3 * 128 + m / 65536 % 128 in
    let b2 : ℕ = b3 * 128 + n / 65536 % 128 in
    let a1 : ℕ = a2 * 128 + m / 256 % 128 in
    let b1 : ℕ = b2 * 128 + n / 256 % 128 in
    let same4 : m / 4294967296 ≡ n / 4294967296 → a4 ≡ b4 = ap (λ (x : ℕ). x % 128) in
    let less4 : m / 4294967296 < n / 4294967296 → a4 < b4 = λ e. omega (arith, e, p.first, p.fits, q.first, q.fits) in
    let less3 : m / 16777216 < n / 16777216 → a3 < b3 =
    step (m / 16777216) (n / 16777216) (m / 4294967296) (n / 4294967296) a4 b4 (omega arith) (omega arith)
    (λ e. omega (arith, e, p.second, q.second)) less4 same4 in
    let same3 : m / 16777216 ≡ n / 16777216 → a3 ≡ b3 =
    λ e. next (m / 16777216) (n / 16777216) a4 b4 e (same4 (upper (m / 16777216) (n / 16777216) _ _ (omega arith) (omega arith) e)) in
    let less2 : m / 65536 < n / 65536 → a2 < b2 =
    step (m / 65536) (n / 65536) (m / 16777216) (n / 16777216) a3 b3 (omega arith) (omega arith)
    (λ e. omega (arith, e, p.third, q.third)) less3 same3 in
    let same2 : m / 65536 ≡ n / 65536 → a2 ≡ b2 =
    λ e. next (m / 65536) (n / 65536) a3 b3 e (same3 (upper (m / 65536) (n / 65536) _ _ (omega arith) (omega arith) e)) in
    let less1 : m / 256 < n / 256 → a1 < b1 =
    step (m / 256) (n / 256) (m / 65536) (n / 65536) a2 b2 (omega arith) (omega arith)
    (λ e. omega (arith, e, p.fourth, q.fourth)) less2 same2 in
    let same1 : m / 256 ≡ n / 256 → a1 ≡ b1 =
    λ e. next (m / 256) (n / 256) a2 b2 e (same2 (upper (m / 256) (n / 256) _ _ (omega arith) (omega arith) e)) in
    let all : a1 * 128 + m % 128 < b1 * 128 + n % 128 =
    step m n (m / 256) (n / 256) a1 b1 refl refl (λ e. omega (arith, e, p.fifth, q.fifth)) less1 same1 h in
    omega (arith, all)
  where
    next : (x y u v : ℕ) → x ≡ y → u ≡ v → u * 128 + x % 128 ≡ v * 128 + y % 128
    next x y u v e f = rw (e, f) refl

    upper : (x y u v : ℕ) → u ≡ x / 256 → v ≡ y / 256 → x ≡ y → u ≡ v
    upper x y u v at to e = at ∙ ap (λ (z : ℕ). z / 256) e ∙ sym to

value_small : (n : ℕ) → value_of_five n < 9223372036854775808
value_small n = omega arith

signed_small : (x : ℕ) → x < 9223372036854775808 → signed x ≡ pos x
signed_small x h =
    let below : ltb x 9223372036854775808 ≡ true = grind (arith, nat_tests) in
    rw below refl

pos_rises : (x y : ℕ) → x < y → pos x <ℤ pos y
pos_rises x y h = record { lt = lt→ltb x y h }

signed_rises : (m n : ℕ) → value_of_five m < value_of_five n → signed (value_of_five m) <ℤ signed (value_of_five n)
signed_rises m n h =
    let x = signed_small (value_of_five m) (value_small m) in
    let y = signed_small (value_of_five n) (value_small n) in
    rw (x, y) (pos_rises (value_of_five m) (value_of_five n) h)

same_some : (x y : ℤ) → Some x ≡ Some y → x ≡ y
same_some x y h = cc

some_is_none : (x : ℤ) → None ≡ Some x → ⊥
some_is_none x h = cc

-- a rowid after the last
module _ (n last five : ℕ) (prev key : Option ℤ) (was : IsLast n last prev) (now : IsFive five) (is : key ≡ Some (signed (value_of_five five))) where
  pub five_above : last < five → IsAboveLast prev key
  five_above h = by_case n was
    where
      by_case : (n : ℕ) → IsLast n last prev → IsAboveLast prev key
      by_case zero was a b p q = absurd (some_is_none a (sym (was.none refl).1 ∙ p))
      by_case (suc n) was a b p q =
          let some = was.some (omega arith) in
          subst (λ (x : ℤ). x <ℤ b) (same_some (signed (value_of_five last)) a (sym some.1 ∙ p))
          (subst (λ (x : ℤ). signed (value_of_five last) <ℤ x) (same_some (signed (value_of_five five)) b (sym is ∙ q))
          (signed_rises last five (value_rises last five some.0 now h)))

  pub five_not_above : five ≤ last → IsAboveLast prev key → ⊥
  five_not_above h = by_case n was
    where
      by_case : (n : ℕ) → IsLast n last prev → IsAboveLast prev key → ⊥
      by_case zero was above = absurd (omega (arith, (was.none refl).0, now.first))
      by_case (suc n) was above =
          let some = was.some (omega arith) in
          let rises = above _ _ some.1 is in
          elim (cases_lt five last) [
            | inl less ↦ <ℤ_irrefl (int_chain _ _ _ (signed_rises five last (value_rises five last now some.0 less)) rises)
            | inr on ↦ let e : five ≡ last = omega arith in <ℤ_irrefl (subst (λ (x : ℕ). signed (value_of_five last) <ℤ signed (value_of_five x)) e rises)
          ]
