-- The bit of a page, where one is set.
use Rattle.std.proofs.Common.{◌≡◌, ◌≢◌, ℕ, zero, suc, ◌*◌, ◌/◌, ◌%◌, ◌^◌, ◌<◌, ◌||◌, Bool, true, false, List, length, replicate, get_or, refl, sym, ap, ◌∙◌}
use Rattle.std.proofs.Common.{arith}
use Rattle.std.specs.Prelude.{◌==◌}
use Rattle.std.specs.Int.{bit_at, w64}
use Rattle.std.specs.Int.RustNames.{bit_or}
use Rattle.std.proofs.Math.Bool.{or-false}
use Rattle.std.proofs.lemmas.Bool.{eqb-true, eq-eqb}
use Rattle.std.proofs.lemmas.List.{get_or-set_same, get_or-set_other}
use Rattle.std.proofs.lemmas.Nat.Bits.{bit_at-zero, bit_at_set_same, bit_at_set_other}
use Rattle.dbinjuries.specs.Bits.{bit_set, has_bit, HasPageBit}

module _ (words : List ℕ) (q p : ℕ) (room : HasPageBit words p) where
  abbrev word : ℕ
  word = get_or words (q / 64) 0

  abbrev with : ℕ
  with = bit_or word (1 * 2 ^ (q % 64) % 2 ^ 64)

  inside : p / 64 < length words
  inside = omega (arith, room)

  bit_within : q % 64 < 64
  bit_within = omega arith

  or_true : (b : Bool) → (b || true) ≡ true
  or_true true = refl
  or_true false = refl

  here : q ≡ p → has_bit (bit_set q words) p ≡ true
  here e =
      let w : q / 64 ≡ p / 64 = ap (λ n. n / 64) e in
      let b : q % 64 ≡ p % 64 = ap (λ n. n % 64) e in
      let l : q / 64 < length words = omega (arith, w, inside) in
      let at : get_or (bit_set q words) (p / 64) 0 ≡ with = ap (λ i. get_or (bit_set q words) i 0) (sym w) ∙ get_or-set_same words (q / 64) with 0 l in
      let one : bit_at (get_or (bit_set q words) (p / 64) 0) (p % 64) ≡ 1 = ap (λ n. bit_at n (p % 64)) at ∙ ap (bit_at with) (sym b)
      ∙ bit_at_set_same w64 word (q % 64) bit_within in
      eq-eqb (bit_at (get_or (bit_set q words) (p / 64) 0) (p % 64)) 1 one

  other_bit : q / 64 ≡ p / 64 → (q ≡ p → ⊥) → bit_at (get_or (bit_set q words) (p / 64) 0) (p % 64) ≡ bit_at (get_or words (p / 64) 0) (p % 64)
  other_bit w d =
      let l : q / 64 < length words = omega (arith, w, inside) in
      let differs : p % 64 ≢ q % 64 = λ e. d (let same : q ≡ p = omega (arith, w, e) in same) in
      ap (λ n. bit_at n (p % 64)) (ap (λ i. get_or (bit_set q words) i 0) (sym w) ∙ get_or-set_same words (q / 64) with 0 l)
      ∙ bit_at_set_other w64 word (q % 64) bit_within (p % 64) differs
      ∙ ap (λ i. bit_at (get_or words i 0) (p % 64)) w

  other_word : (q / 64 ≡ p / 64 → ⊥) → bit_at (get_or (bit_set q words) (p / 64) 0) (p % 64) ≡ bit_at (get_or words (p / 64) 0) (p % 64)
  other_word d = ap (λ n. bit_at n (p % 64)) (get_or-set_other words (q / 64) (p / 64) with 0 (λ e. d (sym e)))

  elsewhere : (q ≡ p → ⊥) → has_bit (bit_set q words) p ≡ has_bit words p
  elsewhere d = ap (λ n. n == 1) (by_case (q / 64 == p / 64) refl)
    where
      by_case : (b : Bool) → (q / 64 == p / 64) ≡ b → bit_at (get_or (bit_set q words) (p / 64) 0) (p % 64) ≡ bit_at (get_or words (p / 64) 0) (p % 64)
      by_case true e = other_bit (eqb-true (q / 64) (p / 64) e) d
      by_case false e = other_word (λ f. let g : (q / 64 == p / 64) ≡ true = eq-eqb (q / 64) (p / 64) f in cc)

  -- the page's own bit is set, and the others stay
  pub set_is : has_bit (bit_set q words) p ≡ (has_bit words p || (q == p))
  set_is = by_case (q == p) refl
    where
      by_case : (b : Bool) → (q == p) ≡ b → has_bit (bit_set q words) p ≡ (has_bit words p || (q == p))
      by_case true e = here (eqb-true q p e) ∙ sym (or_true (has_bit words p)) ∙ ap (λ b. has_bit words p || b) (sym e)
      by_case false e = elsewhere (λ f. let g : (q == p) ≡ true = eq-eqb q p f in cc) ∙ sym (or-false (has_bit words p))
          ∙ ap (λ b. has_bit words p || b) (sym e)

-- none is set where all words are 0
pub none_set : (n p : ℕ) → has_bit (replicate n 0) p ≡ false
none_set n p = ap (λ b. b == 1) (ap (λ w. bit_at w (p % 64)) (at_zero n (p / 64)) ∙ bit_at-zero (p % 64))
  where
    at_zero : (n i : ℕ) → get_or {A = ℕ} (replicate n 0) i 0 ≡ 0
    at_zero zero i = refl
    at_zero (suc n) zero = refl
    at_zero (suc n) (suc i) = at_zero n i
