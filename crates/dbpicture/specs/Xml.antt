-- A text as XML has it: what would be markup is escaped.
use Rattle.std.specs.Prelude.{ℕ, List, [], ◌∷◌, flat_map, codes, ◌==◌, if◌then◌else◌}

-- a byte of a text: the characters & < > " ' are references
abbrev pub byte_text : ℕ → List ℕ
byte_text c =
    if c == 38 then codes "&amp;"
    else (if c == 60 then codes "&lt;"
    else (if c == 62 then codes "&gt;"
    else (if c == 34 then codes "&quot;"
    else (if c == 39 then codes "&#39;" else c ∷ []))))

-- a text
abbrev pub escaped : List ℕ → List ℕ
escaped text = flat_map byte_text text
