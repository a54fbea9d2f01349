-- Variable-length integers, byte by byte.
use Rattle.std.specs.Prelude.{◌≡◌, ℕ, ◌+◌, ◌*◌, ◌%◌, List, [], ◌∷◌, Option, Some, None, option_map, nat_lt, ◌==◌, if◌then◌else◌}
use Rattle.dbformat.specs.Varint.{varint}
use Rattle.dbbytes.specs.declared.partial.VarintProgress.{VarintProgress}
use Rattle.dbbytes.specs.declared.partial.VarintProgress.TheVariants.{More, Whole}

-- The number whose first n bytes gave this value, and which goes on with these bytes: the number, how many bytes it
-- takes in all, and the bytes after it.
abbrev pub varint_from : ℕ → ℕ → List ℕ → Option (ℕ × ℕ × List ℕ)
varint_from n value [] = None
varint_from n value (byte ∷ bytes) =
    if n == 8 then Some (value * 256 + byte, 9, bytes) else (
    if nat_lt byte 128 then Some (value * 128 + byte % 128, n + 1, bytes) else
    varint_from (n + 1) (value * 128 + byte % 128) bytes)

-- The number that bytes begin with goes on with this rest, after n bytes that gave this value.
abbrev pub GoesOn : ℕ → ℕ → List ℕ → List ℕ → Type 0
GoesOn n value rest bytes = option_map (λ r. (r.0, r.1)) (varint_from n value rest) ≡ varint bytes

-- the number of `varint_from`, of what a byte made of it
abbrev pub varint_after : VarintProgress → List ℕ → Option (ℕ × ℕ × List ℕ)
varint_after (More part) bytes = varint_from part.length part.value bytes
varint_after (Whole value length) bytes = Some (value, length, bytes)

-- how many bytes it has then
abbrev pub length_after : VarintProgress → ℕ
length_after (More part) = part.length
length_after (Whole value length) = length
