-- UTF-16, unit by unit.
use Rattle.std.specs.Prelude.{◌≡◌, ◌<◌, ◌≤◌, ℕ, ◌+◌, ◌*◌, ◌%◌, List, ◌∷◌, length, drop, Some, None, encode_utf8_all}
use Rattle.std.specs.Char.Utf16.{utf16_chars, utf16_lossy_chars}
use Rattle.dbformat.specs.Text.{units_le, units_be}
use Rattle.dbbytes.specs.declared.text.Order.{Order}
use Rattle.dbbytes.specs.declared.text.Order.TheVariants.{LowFirst, HighFirst}

-- the unit of two bytes
abbrev pub unit_of : Order → ℕ → ℕ → ℕ
unit_of LowFirst first second = second * 256 + first
unit_of HighFirst first second = first * 256 + second

-- the units of a text
abbrev pub units : Order → List ℕ → List ℕ
units LowFirst bytes = units_le bytes
units HighFirst bytes = units_be bytes

-- the text in UTF-8, with U+FFFD for each surrogate that has no partner
abbrev pub text_of : Order → List ℕ → List ℕ
text_of order bytes = encode_utf8_all (utf16_lossy_chars (units order bytes))

-- the text begins with a surrogate that has no partner
pub record BeginsUnpaired (order : Order) (bytes : List ℕ) : Type 0 where
  pub begins : utf16_chars (units order bytes) ≡ None ∷ utf16_chars (units order (drop 2 bytes))

-- the text begins with a character of `len` bytes
pub record BeginsWith (order : Order) (bytes : List ℕ) (char len : ℕ) : Type 0 where
  pub begins : utf16_chars (units order bytes) ≡ Some char ∷ utf16_chars (units order (drop len bytes))
  pub some : 0 < len
  pub even : len % 2 ≡ 0
  pub within : len ≤ length bytes
