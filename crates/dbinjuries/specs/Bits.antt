-- Words with a bit for each page.
use Rattle.std.specs.Prelude.{ℕ, ◌*◌, ◌/◌, ◌%◌, ◌^◌, ◌<◌, Bool, List, length, slice_index, slice_set, ◌==◌}
use Rattle.std.specs.Int.{bit_at}
use Rattle.std.specs.Int.RustNames.{bit_or}

-- whether page p has its bit
abbrev pub has_bit : List ℕ → ℕ → Bool
has_bit words p = bit_at (slice_index words (p / 64)) (p % 64) == 1

-- there is a bit for page p
abbrev pub HasPageBit : List ℕ → ℕ → Type 0
HasPageBit words p = p < 64 * length words

-- the words, where the bit of page p is set
abbrev pub bit_set : ℕ → List ℕ → List ℕ
bit_set p words = slice_set words (p / 64) (bit_or (slice_index words (p / 64)) (1 * 2 ^ (p % 64) % 2 ^ 64))
