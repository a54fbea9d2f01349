-- What a copy of a database shows that was made as of a text.
use Rattle.std.specs.Prelude.{◌≡◌, ◌<◌, ◌≤◌, ℕ, ◌-◌, ◌==◌, nat_lt, Bool, true, false, not, ◌&&◌, List, drop, length, slice_index, None, codes, count_by}
use Rattle.std.specs.List.{list_any}
use Rattle.std.specs.Str.Lossy.{utf8_error_len, utf8_valid_len}
use Rattle.dbcli.specs.declared.copied.Copied.{Copied}
use Rattle.dbcli.specs.declared.copied.Copied.TheVariants.{Lines, Letters, Returns}

-- each line feed comes after a carriage return
abbrev pub AreAfterReturns : List ℕ → Type 0
AreAfterReturns bytes = (k : ℕ) → k < length bytes → slice_index bytes k ≡ 10 → (1 ≤ k) × (slice_index bytes (k - 1) ≡ 13)

-- there are at least four line feeds, each after a carriage return
abbrev pub HasEndsOfLines : List ℕ → Type 0
HasEndsOfLines bytes = (4 ≤ count_by (λ byte. byte == 10) bytes) × AreAfterReturns bytes

-- the bytes are well-formed UTF-8, but that the last character may be cut
abbrev pub IsUtf8SoFar : List ℕ → Type 0
IsUtf8SoFar bytes = utf8_error_len (drop (utf8_valid_len bytes) bytes) ≡ None

-- at least eight bytes are above 127, and all are well-formed UTF-8 so far
abbrev pub HasLetters : List ℕ → Type 0
HasLetters bytes = (8 ≤ count_by (λ byte. nat_lt 127 byte) bytes) × IsUtf8SoFar bytes

-- a line feed is where page 1 has its type, which is 13 of a leaf of a table, and no byte is a carriage return, 13
abbrev pub lacks_returns : List ℕ → Bool
lacks_returns bytes = nat_lt 100 (length bytes) && (slice_index bytes 100 == 10) && not (list_any (λ byte. byte == 13) bytes)

-- How a file was copied that begins with these bytes: the ends of lines are looked at first; then letters from byte 80 on, since a header
-- has no byte above 127 after that but in text; and then whether carriage returns are gone.
abbrev pub IsCopied : List ℕ → Copied → Type 0
IsCopied bytes Lines = HasEndsOfLines bytes
IsCopied bytes Letters = (HasEndsOfLines bytes → ⊥) × HasLetters (drop 80 bytes)
IsCopied bytes Returns = (HasEndsOfLines bytes → ⊥) × (HasLetters (drop 80 bytes) → ⊥) × (lacks_returns bytes ≡ true)

-- and where nothing is seen of that
abbrev pub IsUncopied : List ℕ → Type 0
IsUncopied bytes = (HasEndsOfLines bytes → ⊥) × (HasLetters (drop 80 bytes) → ⊥) × (lacks_returns bytes ≡ false)

-- whether a copy may have as many bytes as the database: where carriage returns became line feeds
abbrev pub keeps_length : Copied → Bool
keeps_length Lines = false
keeps_length Letters = false
keeps_length Returns = true

-- what is said of it
unfoldable pub copied_text : Copied → List ℕ
copied_text Lines = codes "every line feed of the first page comes after a carriage return: perhaps copied as text (see the manual)"
copied_text Letters = codes "the bytes of the first page from 80 on are well-formed UTF-8: perhaps converted as text (see the manual)"
copied_text Returns = codes "the first page has 0a where 0d belongs, and no 0d: perhaps carriage returns were taken away (see the manual)"
