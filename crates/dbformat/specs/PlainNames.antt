-- How a name is shown on a line that it must not turn around (own).
use Rattle.std.specs.Prelude.{ℕ, Bool, ◌&&◌, ◌||◌, List, ◌∷◌, flat_map, nat_le, ◌==◌, if◌then◌else◌, codes, encode_utf8}
use Rattle.std.specs.Char.Utf16.{utf16_lossy_chars}
use Rattle.std.specs.Str.{chars}
use Rattle.dbformat.specs.Text.{units_le, units_be, is_well_formed, hex_text}
use Rattle.dbformat.specs.declared.Encoding.{Encoding}
use Rattle.dbformat.specs.declared.Encoding.TheVariants.{Utf8, Utf16le, Utf16be}

-- the first and the last of a row of characters, and those between
abbrev pub is_between : ℕ → ℕ → ℕ → Bool
is_between first last c = nat_le first c && nat_le c last

-- a control character, or a backslash
abbrev pub is_control_or_backslash : ℕ → Bool
is_control_or_backslash c = is_between 0 31 c || is_between 127 159 c || (c == 92)

-- a character that turns the text around it, or one of the two that end the first plane and are none
abbrev pub is_turning : ℕ → Bool
is_turning c = is_between 0x202A 0x202E c || is_between 0x2066 0x2069 c || is_between 0xFFFE 0xFFFF c

-- these are written by their codes
abbrev pub is_coded : ℕ → Bool
is_coded c = is_control_or_backslash c || is_turning c

-- a byte by its code: `\x` and two hexadecimal digits
abbrev pub byte_code : ℕ → List ℕ
byte_code b = 92 ∷ 120 ∷ hex_text 2 b

-- a character in UTF-8, each byte of it by its code if need be
abbrev pub plain_char : ℕ → List ℕ
plain_char c = if is_coded c then flat_map byte_code (encode_utf8 c) else encode_utf8 c

-- the characters of a well-formed text
abbrev pub chars_of : Encoding → List ℕ → List ℕ
chars_of Utf8 bytes = chars bytes
chars_of Utf16le bytes = utf16_lossy_chars (units_le bytes)
chars_of Utf16be bytes = utf16_lossy_chars (units_be bytes)

-- what is shown of a name where it must not turn its line around: a question mark where it is not well-formed
unfoldable pub plain_name : Encoding → List ℕ → List ℕ
plain_name e bytes = if is_well_formed e bytes then flat_map plain_char (chars_of e bytes) else codes "?"
