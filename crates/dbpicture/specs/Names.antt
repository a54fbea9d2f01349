-- The name of a file, as an XML text shows it.
use Rattle.std.specs.Prelude.{ℕ, List, take}
use Rattle.dbformat.specs.PlainNames.{plain_name}
use Rattle.dbformat.specs.declared.Encoding.TheVariants.{Utf8}

-- what is kept of a text: all, where it has at most 320 bytes, and else its first 320, which are more than the widest that is shown
abbrev pub short_text : List ℕ → List ℕ
short_text text = take 320 text

-- the name of a file, in UTF-8, as names are shown on a line that they must not turn around
abbrev pub shown_file : List ℕ → List ℕ
shown_file name = short_text (plain_name Utf8 name)
