-- How the first bytes of a page or of a file are written (own).
use Rattle.std.specs.Prelude.{ℕ, ◌||◌, List, ◌++◌, map, codes, nat_lt, if◌then◌else◌}
use Rattle.std.specs.List.{flat_map}
use Rattle.dbformat.specs.Text.{hex_text}

-- a byte in hexadecimal, after a blank
abbrev pub hex_column : ℕ → List ℕ
hex_column byte = codes " " ++ hex_text 2 byte

-- a byte as ASCII: a full stop where it is not printable
abbrev pub shown_byte : ℕ → ℕ
shown_byte byte = if nat_lt byte 32 || nat_lt 126 byte then 46 else byte

-- bytes in hexadecimal, and after two blanks as ASCII
abbrev pub begins_with : List ℕ → List ℕ
begins_with bytes = codes "begins with" ++ flat_map hex_column bytes ++ codes "  " ++ map shown_byte bytes
