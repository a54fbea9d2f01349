-- What is written of a search for changes.
use Rattle.std.specs.Prelude.{ℕ, ◌+◌, ◌-◌, ◌/◌, ◌%◌, List, [], ◌∷◌, ◌++◌, codes, decimal, ◌==◌, if◌then◌else◌}
use Rattle.std.specs.List.{flat_map}
use Rattle.dbinjuries.specs.Lines.{number_text}
use Rattle.dbformat.specs.Lines.{line_feed, ok_line}
use Rattle.dbformat.specs.Text.{hex_text}

-- the first line: how many faults there are, if there are any
abbrev pub first_text : ℕ → List ℕ
first_text n = if n == 0 then [] else number_text n (codes " fault") (codes " faults") ++ line_feed ∷ []

-- how many faults are left
abbrev pub left_text : ℕ → List ℕ
left_text n = number_text n (codes " fault is left") (codes " faults are left") ++ line_feed ∷ []

-- below a change: how many faults are left after it, if there are any
abbrev pub still_text : ℕ → List ℕ
still_text n = if n == 0 then [] else codes "    " ++ left_text n

-- the last line: that no fault is left, or how many are
abbrev pub end_text : ℕ → List ℕ
end_text n = if n == 0 then ok_line else left_text n

-- a change: where it is, its bytes, and those that it puts them for
unfoldable pub change_line : ℕ → List ℕ → List ℕ → List ℕ
change_line offset bytes was =
    codes "at byte " ++ decimal offset ++ codes " put " ++ flat_map (hex_text 2) bytes ++ codes " for " ++ flat_map (hex_text 2) was ++ line_feed ∷ []

-- the page in which an offset is, and where it begins
unfoldable pub page_line : ℕ → ℕ → List ℕ
page_line page_size offset =
    codes "    page " ++ decimal (offset / page_size + 1) ++ codes " at byte " ++ decimal (offset - offset % page_size) ++ line_feed ∷ []
