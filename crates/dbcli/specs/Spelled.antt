-- What texts of a command line spell: numbers, and changes of the file.
use Rattle.std.specs.Prelude.{◌≡◌, ◌<◌, ℕ, ◌+◌, ◌*◌, ◌==◌, Bool, List, [], ◌∷◌, Option, Some, None, length, map, ⊤}
use Rattle.std.specs.Borrow.{Bor}
use Rattle.std.specs.Char.{digit_value}
use Rattle.std.specs.List.{after_first, before_first, position_or_len}
use Rattle.std.specs.Str.Parse.{IsNumeral, digits_value, without_leading_plus}
use Rattle.clap.specs.Words.{Text}
use Rattle.dbsource.specs.Changes.{Change}

-- the text is this number in decimal digits, after a plus sign or without one
abbrev pub Spells : Text → ℕ → Type 0
Spells text n = IsNumeral 10 (without_leading_plus text) × (digits_value 10 (without_leading_plus text) ≡ n)

-- two hexadecimal digits, of either case, are a byte
abbrev pub SpellsBytes : Text → List ℕ → Type 0
SpellsBytes [] [] = ⊤
SpellsBytes (high ∷ low ∷ digits) (byte ∷ bytes) = (digit_value high < 16) × (digit_value low < 16)
    × (byte ≡ 16 * digit_value high + digit_value low) × SpellsBytes digits bytes
SpellsBytes digits bytes = ⊥

-- an '='
abbrev pub is_equals : ℕ → Bool
is_equals c = c == 61

-- The text has an '='; before the first one is the offset of the change, and after that are its bytes.
pub record SpellsChange (text : Text) (c : Change) : Type 0 where
  pub equals : position_or_len is_equals text < length text
  pub offset : Spells (before_first is_equals text) c.offset
  pub bytes : SpellsBytes (after_first is_equals text) c.bytes

-- the texts of words, if there are some
abbrev pub texts_in : Option (Bor (List (Bor Text))) → List Text
texts_in None = []
texts_in (Some words) = map (λ (word : Bor Text). word.now) words.now
