-- The note on the bytes after the last page of a file.
use Rattle.std.specs.Prelude.{◌≡◌, ◌<◌, ℕ, ◌-◌, ◌*◌, ◌/◌, ◌==◌, if◌then◌else◌, List, [], ◌∷◌, ◌++◌, codes, decimal}
use Rattle.dbformat.specs.declared.Geometry.{Geometry}
use Rattle.dbsource.specs.Outs.{OutState}
use Rattle.dbcli.specs.NoteLines.{PutsIfRoom, said_line}

-- how many bytes a file of this length has after its last page
abbrev pub bytes_after : ℕ → Geometry → ℕ
bytes_after len g = len - g.pages * g.page_size

-- what stands between their number and that of the last page
abbrev pub after_words : ℕ → List ℕ
after_words rest = if rest == 1 then codes " byte after page " else codes " bytes after page "

-- that they are not read
abbrev pub read_words : ℕ → List ℕ
read_words rest = if rest == 1 then codes " is not read" else codes " are not read"

-- that this many whole pages are among them
abbrev pub whole_words : ℕ → List ℕ
whole_words pages = if pages == 1 then codes " whole page among them" else codes " whole pages among them"

-- that this many references lead to these
abbrev pub lead_words : ℕ → List ℕ
lead_words references = if references == 1 then codes " reference leads" else codes " references lead"

-- what is said of the references, if there are some
abbrev pub references_said : ℕ → List (List ℕ)
references_said references = if references == 0 then [] else codes ", to which " ∷ decimal references ∷ lead_words references ∷ []

-- what is said of bytes after a page: how many, how many whole pages these are, if there is one, and how many references lead to these, if
-- some do
abbrev pub rest_said : ℕ → ℕ → ℕ → ℕ → List (List ℕ)
rest_said rest page pages references =
    if pages == 0 then decimal rest ∷ after_words rest ∷ decimal page ∷ read_words rest ∷ []
    else decimal rest ∷ after_words rest ∷ decimal page ∷ read_words rest ∷ codes ", " ∷ decimal pages ∷ whole_words pages
    ∷ references_said references

-- Their note was put, where there are some, and else nothing.
abbrev pub PutsRest : OutState → OutState → List ℕ → ℕ → Geometry → ℕ → Type 0
PutsRest old new name len g references = let rest = bytes_after len g in
    (rest ≡ 0 → new ≡ old) × (0 < rest → PutsIfRoom old new (said_line name (rest_said rest g.pages (rest / g.page_size) references)))
