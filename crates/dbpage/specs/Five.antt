-- Rowids of five bytes, as they are on a page: a number whose highest byte is the first of them.
use Rattle.std.specs.Prelude.{◌≡◌, ℕ, ◌+◌, ◌*◌, ◌/◌, ◌%◌, ◌<◌, ◌≤◌, Option, Some, None, ℤ}
use Rattle.dbformat.specs.Varint.{signed}

-- the number that the five bytes spell
abbrev pub value_of_five : ℕ → ℕ
value_of_five five =
    five / 4294967296 % 128 * 268435456 + five / 16777216 % 128 * 2097152 + five / 65536 % 128 * 16384 + five / 256 % 128 * 128 + five % 128

-- each of the five bytes but the last says that more follow
pub record IsFive (five : ℕ) : Type 0 where
  pub fits : five < 1099511627776
  pub first : 128 ≤ five / 4294967296
  pub second : 128 ≤ five / 16777216 % 256
  pub third : 128 ≤ five / 65536 % 256
  pub fourth : 128 ≤ five / 256 % 256
  pub fifth : five % 256 < 128

-- of the first n cells, the last has this key, whose bytes are these
pub record IsLast (n five : ℕ) (key : Option ℤ) : Type 0 where
  pub none : n ≡ 0 → (five ≡ 0) × (key ≡ None)
  pub some : 0 < n → IsFive five × (key ≡ Some (signed (value_of_five five)))
