-- The sums of a write-ahead log (Database File Format, 4.2).
use Rattle.std.specs.Prelude.{ℕ, ◌+◌, ◌*◌, ◌/◌, ◌%◌, ◌^◌, ◌==◌, Bool, ◌&&◌, List, drop, length}
use Rattle.std.specs.List.{fold, range_with_len}
use Rattle.dbformat.specs.Numbers.{u32_at}
use Rattle.dblog.specs.declared.sums.Sums.{Sums}

-- numbers of 32 bits are added modulo 2^32
abbrev pub plus : ℕ → ℕ → ℕ
plus x y = (x + y) % 2 ^ 32

-- the sums before anything is summed
abbrev pub no_sums : Sums
no_sums = record { first = 0; second = 0 }

-- The sums after one more pair of words: the first takes the first word and the second sum, the second takes the second word and
-- the first sum. The words are of four bytes, in the byte order in which `number` reads them.
abbrev pub with_pair : (ℕ → List ℕ → ℕ) → List ℕ → Sums → ℕ → Sums
with_pair number bytes s pair =
    let first = plus (plus s.first (number 4 (drop (8 * pair) bytes))) s.second in
    record { first = first; second = plus (plus s.second (number 4 (drop (8 * pair + 4) bytes))) first }

-- the sums of these bytes, going on from a start
unfoldable pub sums : (ℕ → List ℕ → ℕ) → Sums → List ℕ → Sums
sums number start bytes = fold (with_pair number bytes) start (range_with_len 0 (length bytes / 8))

-- the sums that are stated from byte i on
abbrev pub sums_at : ℕ → List ℕ → Sums
sums_at i bytes = record { first = u32_at i bytes; second = u32_at (i + 4) bytes }

abbrev pub is_same : Sums → Sums → Bool
is_same s t = (s.first == t.first) && (s.second == t.second)
