use Rattle.std.proofs.Common.{◌≡◌, ℕ, ◌/◌, ◌%◌, ◌<◌, false, [], ◌∷◌, refl, inl, inr, arith}
use Rattle.std.specs.Fmt.{digit_glyph}
use Rattle.std.proofs.lemmas.Bool.{cases_lt}
use Rattle.std.proofs.lemmas.Fmt.{hex_one_digit, hex_two_digits}
use Rattle.dbformat.specs.Text.{hex_text}
use Rattle.dbformat.proofs.hex.hex_byte.Goals as goal

two_digits : (n : ℕ) → n < 256 → digit_glyph false (n / 16) ∷ digit_glyph false (n % 16) ∷ [] ≡ hex_text 2 n
two_digits n h = elim (cases_lt n 16) [
  | inl small ↦ (let high : n / 16 ≡ 0 = omega arith in let low : n % 16 ≡ n = omega arith in rw (hex_one_digit false n small, high, low) refl)
  | inr large ↦ (rw (hex_two_digits false n large h) refl)
]

pub returns : goal.returns
returns c = rw (c.hex_digit.ensures, c.hex_digit-2.ensures) (two_digits c.args.byte c.ranges.byte.fits)
