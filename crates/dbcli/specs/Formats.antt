-- Formats of other files, by what these begin with.
use Rattle.std.specs.Prelude.{ℕ, ◌==◌, Bool, List, [], ◌∷◌, Option, codes, find}
use Rattle.std.specs.List.{starts_with}
use Rattle.dbcli.specs.declared.format.Format.{Format}
use Rattle.dbcli.specs.declared.format.Format.TheVariants.{Gzip, Zip, Xz, Zstd, Pdf}

-- the bytes that a file of this format begins with
abbrev pub signature : Format → List ℕ
signature Gzip = 0x1F ∷ 0x8B ∷ []
signature Zip = 0x50 ∷ 0x4B ∷ 0x03 ∷ 0x04 ∷ []
signature Xz = 0xFD ∷ 0x37 ∷ 0x7A ∷ 0x58 ∷ 0x5A ∷ 0x00 ∷ []
signature Zstd = 0x28 ∷ 0xB5 ∷ 0x2F ∷ 0xFD ∷ []
signature Pdf = codes "%PDF-"

-- whether a file with these first bytes has this format
abbrev pub is_of : List ℕ → Format → Bool
is_of first format = starts_with (λ a b. a == b) first (signature format)

-- all of them: no two begin with the same bytes
abbrev pub formats : List Format
formats = Gzip ∷ Zip ∷ Xz ∷ Zstd ∷ Pdf ∷ []

-- the format of a file with these first bytes, if it is one of these
abbrev pub format_of : List ℕ → Option Format
format_of first = find (is_of first) formats

-- what is said of it
unfoldable pub format_text : Format → List ℕ
format_text Gzip = codes " begins as a gzip file does; unpack it first"
format_text Zip = codes " begins as a ZIP archive does; unpack it first"
format_text Xz = codes " begins as an xz file does; unpack it first"
format_text Zstd = codes " begins as a zstd file does; unpack it first"
format_text Pdf = codes " begins as a PDF document does"
