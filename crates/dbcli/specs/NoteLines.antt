-- The lines of notes.
use Rattle.std.specs.Prelude.{◌≡◌, ◌⊎◌, ℕ, ◌==◌, if◌then◌else◌, List, ◌++◌, Result, codes, decimal}
use Rattle.std.specs.List.{flat_map, list_all}
use Rattle.std.specs.Option.{option_map_or}
use Rattle.dbformat.specs.FirstBytes.{begins_with}
use Rattle.dbsource.specs.Outs.{OutState, Puts}
use Rattle.dbsource.specs.declared.out.WriteFailed.{WriteFailed}
use Rattle.dbcli.specs.Formats.{format_of, format_text}
use Rattle.dbcli.specs.declared.note.Piece.{Piece}
use Rattle.dbcli.specs.declared.note.Piece.TheVariants.{Words, Number, First}

-- what a file begins with, after a blank
abbrev pub first_bytes_text : List ℕ → List ℕ
first_bytes_text first = codes " " ++ begins_with first

-- a piece of a note
abbrev pub piece_text : Piece → List ℕ
piece_text (Words words) = words.now
piece_text (Number number) = decimal number
piece_text (First first) = first_bytes_text first

-- pieces, one after another
abbrev pub pieces_text : List Piece → List ℕ
pieces_text pieces = flat_map piece_text pieces

-- the line of a note of a name, as it is shown, and of these pieces
abbrev pub note_line : List ℕ → List Piece → List ℕ
note_line name pieces = codes "dbck: note: " ++ name ++ pieces_text pieces ++ codes "\n"

-- the line of a note of a name, as it is shown, and of what is said of it
abbrev pub said_line : List ℕ → List (List ℕ) → List ℕ
said_line name said = codes "dbck: note: " ++ name ++ flat_map (λ text. text) said ++ codes "\n"

-- what the first bytes of a file are: zeros, or the beginning of a format of other files, or else these bytes
abbrev pub beginning_text : List ℕ → List ℕ
beginning_text first =
    if list_all (λ byte. byte == 0) first then codes " begins with zeros"
    else option_map_or format_text (format_of first) (first_bytes_text first)

-- A text was put, as far as the Out took it; or nothing, where there was no memory for the text.
abbrev pub PutsIfRoom : OutState → OutState → List ℕ → Type 0
PutsIfRoom old new text = (new ≡ old) ⊎ ((r : Result (Unit {0}) WriteFailed) × Puts r old new text)
