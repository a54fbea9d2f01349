-- How much of a text is shown in a number of columns.
use Rattle.std.specs.Prelude.{ℕ, suc, ◌-◌, List, [], ◌∷◌, nat_lt, if◌then◌else◌}

-- How many columns a character takes, by its first byte in UTF-8: one of three or four bytes takes two, and the bytes after the first
-- take none.
abbrev pub char_columns : ℕ → ℕ
char_columns byte = if nat_lt byte 128 then 1 else (if nat_lt byte 192 then 0 else (if nat_lt byte 224 then 1 else 2))

-- how many bytes of a text fit in `width` columns
abbrev pub fitting : ℕ → List ℕ → ℕ
fitting width [] = 0
fitting width (byte ∷ text) = if nat_lt width (char_columns byte) then 0 else suc (fitting (width - char_columns byte) text)
