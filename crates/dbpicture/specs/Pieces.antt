-- What an XML text is put together of: the bytes of each piece.
use Rattle.std.specs.Prelude.{ℕ, ◌/◌, ◌%◌, ◌==◌, List, [], ◌∷◌, ◌++◌, length, take, flat_map, codes, decimal, if◌then◌else◌}
use Rattle.dbpicture.specs.Widths.{fitting}
use Rattle.dbpicture.specs.Xml.{escaped}
use Rattle.dbpicture.specs.declared.pieces.Piece.{Piece}
use Rattle.dbpicture.specs.declared.pieces.Piece.TheVariants.{Markup, Number, Tenths}

-- an ellipsis, in UTF-8
abbrev pub ellipsis : List ℕ
ellipsis = 226 ∷ 128 ∷ 166 ∷ []

-- a text in at most `width` columns, escaped: a longer one is cut at a character, and ends with an ellipsis
abbrev pub shown_text : List ℕ → ℕ → List ℕ
shown_text text width = if fitting width text == length text then escaped text else escaped (take (fitting width text) text ++ ellipsis)

-- a number of tenths, with one decimal
unfoldable pub tenths_text : ℕ → List ℕ
tenths_text tenths = decimal (tenths / 10) ++ (codes "." ++ decimal (tenths % 10))

-- a piece
abbrev pub piece_text : Piece → List ℕ
piece_text (Markup text) = text.now
piece_text (Number number) = decimal number
piece_text (Tenths tenths) = tenths_text tenths

-- pieces, one after another
abbrev pub pieces_text : List Piece → List ℕ
pieces_text pieces = flat_map piece_text pieces
