-- Changes of a file: bytes that stand in the place of its own.
use Rattle.std.specs.Prelude.{◌≡◌, ◌<◌, ◌≤◌, ℕ, ◌+◌, ◌-◌, ◌^◌, ◌==◌, Bool, false, ◌&&◌, nat_lt, nat_le, if◌then◌else◌}
use Rattle.std.specs.Prelude.{List, [], ◌∷◌, ◌++◌, All, AllPairs, fold, length, slice_index, Result, Ok, Err}
use Rattle.std.specs.List.{list_any}
use Rattle.dbsource.specs.declared.change.ChangeError.{ChangeError}
use Rattle.dbsource.specs.declared.change.ChangeError.TheVariants.{NoBytes, TooLong, Overlaps, TooMany}

-- these bytes at this offset
pub record Change : Type 0 where
  pub offset : ℕ
  pub bytes : List ℕ

-- whether a change has a byte at this place of the file
abbrev pub has_byte : Change → ℕ → Bool
has_byte c place = nat_le c.offset place && nat_lt place (c.offset + length c.bytes)

-- what is at this place: the byte of the change, or else the one that was there
abbrev pub byte_with : Change → ℕ → ℕ → ℕ
byte_with c place was = if has_byte c place then slice_index c.bytes (place - c.offset) else was

-- bytes from a place of the file on, with the change
abbrev pub with_change : ℕ → List ℕ → Change → List ℕ
with_change place [] c = []
with_change place (was ∷ bytes) c = byte_with c place was ∷ with_change (place + 1) bytes c

-- and with those of each change
abbrev pub changed_from : List Change → ℕ → List ℕ → List ℕ
changed_from changes place bytes = fold (with_change place) bytes changes

-- the file with these changes
abbrev pub patched : List Change → List ℕ → List ℕ
patched changes file = changed_from changes 0 file

-- all its bytes are among the first `len`
abbrev pub IsInside : ℕ → Change → Type 0
IsInside len c = c.offset + length c.bytes ≤ len

-- two changes have a place in common
abbrev pub overlaps : Change → Change → Bool
overlaps c d = nat_lt c.offset (d.offset + length d.bytes) && nat_lt d.offset (c.offset + length c.bytes)

-- 1 to 16 bytes at an offset of 64 bits
pub record IsChange (c : Change) : Type 0 where
  pub offset : c.offset < 2 ^ 64
  pub some : 1 ≤ length c.bytes
  pub few : length c.bytes ≤ 16
  pub bytes : (k : ℕ) → slice_index c.bytes k < 256

-- at most 16, of which no two have a place in common
pub record AreChanges (changes : List Change) : Type 0 where
  pub few : length changes ≤ 16
  pub each : All IsChange changes
  pub apart : AllPairs (λ c d. overlaps c d ≡ false) changes

-- the change of these bytes at an offset, or why there is none
abbrev pub change_at : ℕ → List ℕ → Result Change ChangeError
change_at offset bytes =
    if length bytes == 0 then Err NoBytes
    else (if nat_lt 16 (length bytes) then Err TooLong else Ok (record { offset = offset; bytes = bytes }))

-- changes with one more, or why that is not taken
abbrev pub changes_with : List Change → Change → Result (List Change) ChangeError
changes_with changes c =
    if length changes == 16 then Err TooMany
    else (if list_any (overlaps c) changes then Err Overlaps else Ok (changes ++ c ∷ []))
