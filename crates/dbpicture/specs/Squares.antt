-- The squares of a picture, row by row, and the outlines of pages that only the header states, or only the file has.
use Rattle.std.specs.Prelude.{ℕ, ◌+◌, Bool, List, [], ◌∷◌, ◌++◌, codes, decimal, ◌-◌, max, nat_lt, ◌==◌, if◌then◌else◌, Option}
use Rattle.std.specs.Option.{option_map_or}
use Rattle.std.specs.List.{concat, flat_map, range_with_len}
use Rattle.dbscan.specs.Texts.{place_from, place_front, place_tree, place_words}
use Rattle.dbscan.specs.declared.place.Place.{Place}
use Rattle.dbpicture.specs.Pieces.{shown_text}
use Rattle.dbpicture.specs.Marks.{extent, inset, outline_tail, group_pages_text, shade_letter, stroke}
use Rattle.dbpicture.specs.Faults.{faults_text, frame_of}
use Rattle.dbpicture.specs.Owners.{capped_pages, is_lighter, owner_by, shares_by, shown_owner}
use Rattle.dbpicture.specs.declared.faults.Sign.{Sign}
use Rattle.dbpicture.specs.declared.faults.Sign.TheVariants.{Blank, Zeros}
use Rattle.dbpicture.specs.declared.grid.Width.{Width}
use Rattle.dbpicture.specs.declared.page.PageSquare.{PageSquare}
use Rattle.dbpicture.specs.Grids.{missing_of, places, places_of, rows, group_of, top_of, x_of}
use Rattle.dbpicture.specs.declared.grid.Grid.{Grid}
use Rattle.dbpicture.specs.declared.grid.Outside.{Outside}
use Rattle.dbformat.specs.FixedPages.{fixed_use}
use Rattle.dbformat.specs.declared.Geometry.{Geometry}
use Rattle.dbpicture.specs.Groups.{group_text}
use Rattle.dbpicture.specs.declared.group.GroupSquare.{GroupSquare}

-- the page that a page is reached from, where it is no root
abbrev pub from_text : Place → List ℕ
from_text place = option_map_or decimal (place_from place) []

-- what its title says of its bytes
abbrev pub bytes_words : (Sign → Bool) → List ℕ
bytes_words f = if f Zeros then codes ", all zeros" else (if f Blank then codes ", one byte throughout" else codes "")

-- its title: the number of the page, what comes before its tree, the tree, what it is there, its faults, and what is known of its bytes
unfoldable pub page_text : PageSquare → Width → List ℕ → (Sign → Bool) → List ℕ
page_text s width tree f =
    concat (codes "<rect class=\"" ∷ shade_letter (is_lighter (f Blank) s.place) ∷ decimal (shown_owner (f Blank) s.owner) ∷ codes "\" x=\""
    ∷ decimal (s.x + inset width (frame_of f))
    ∷ extent width (frame_of f) ∷ stroke width (frame_of f) ∷ codes "><title>page " ∷ decimal s.page ∷ codes ": "
    ∷ place_front s.fixed s.place ∷ [])
    ++ (shown_text tree 72 ++ (concat (place_words s.place ∷ from_text s.place ∷ []) ++ (faults_text f
    ++ concat (bytes_words f ∷ codes "</title></rect>\n" ∷ []))))

-- which pages an outline is of, and the outline
abbrev pub outline_pages : Grid → ℕ × ℕ → List ℕ
outline_pages g p = if g.group == 1 then codes " " ++ decimal p.0 else group_pages_text p.0 p.1

-- why these have no square
abbrev pub outside_words : Outside → List ℕ
outside_words outside = if outside.are_after then codes ": after the stated end" else codes ": not in the file"

abbrev pub outline_text : Grid → ℕ → List ℕ
outline_text g place =
    concat (codes "<rect x=\"" ∷ decimal (x_of g place) ∷ outline_tail g.width ∷ [])
    ++ (outline_pages g (missing_of g place) ++ (outside_words g.outside ++ codes "</title></rect>\n"))

-- those from a place to another, in their group, if there are any
abbrev pub outlines_between : Grid → ℕ → ℕ → List ℕ
outlines_between g first end =
    if nat_lt first end
    then codes "<g transform=\"translate(.5,.5)\" fill=\"#FFFFFF\" stroke=\"#AAAAAA\">\n"
    ++ (flat_map (outline_text g) (range_with_len first (end - first)) ++ codes "</g>\n")
    else []

-- those of a row, which come after all squares
abbrev pub outlines_text : Grid → ℕ → List ℕ
outlines_text g row = outlines_between g (max (places_of g row (places g)).0 g.squares) (places_of g row (places g)).1

-- What squares are drawn by: where they are, the sizes of the file, what each page is, the start that it belongs to, and whether it is one
-- byte throughout, the starts of the largest trees and their names by rank, the names of all trees by start, and what is shown of the faults of
-- each square.
pub record Drawn : Type 0 where
  pub grid : Grid
  pub shape : Geometry
  pub place : ℕ → Place
  pub start : ℕ → Option ℕ
  pub blank : ℕ → Bool
  pub largest : List ℕ
  pub names : List (List ℕ)
  pub tree : ℕ → List ℕ
  pub faults : ℕ → Sign → Bool

-- ---- a square that is a page

abbrev pub page_at : Drawn → ℕ → ℕ
page_at g index = (group_of g.grid index g.grid.pages).0

abbrev pub page_square : Drawn → ℕ → PageSquare
page_square g index = record {
  x = x_of g.grid index;
  page = page_at g index;
  owner = owner_by g.largest (g.place (page_at g index)) (g.start (page_at g index));
  place = g.place (page_at g index);
  fixed = fixed_use g.shape (page_at g index);
}

-- it names the tree that its page is said to be in, if it is in one
abbrev pub page_tree : Drawn → ℕ → Option ℕ
page_tree g index = place_tree (g.place (page_at g index)) (g.start (page_at g index))

abbrev pub page_square_text : Drawn → ℕ → List ℕ
page_square_text g index = page_text (page_square g index) g.grid.width (option_map_or g.tree (page_tree g index) []) (g.faults index)

-- ---- a square of a group of pages

abbrev pub group_square : Drawn → ℕ → GroupSquare
group_square g index = record {
  x = x_of g.grid index;
  first = (group_of g.grid index g.grid.pages).0;
  last = (group_of g.grid index g.grid.pages).1;
  shares = shares_by g.largest g.place g.start g.blank (group_of g.grid index g.grid.pages).0
      (capped_pages ((group_of g.grid index g.grid.pages).1 + 1) - (group_of g.grid index g.grid.pages).0);
}

abbrev pub group_square_text : Drawn → ℕ → List ℕ
group_square_text g index = group_text (group_square g index) g.grid.width g.names (g.faults index)

-- ---- all squares

abbrev pub square_text : Drawn → ℕ → List ℕ
square_text g index = if g.grid.group == 1 then page_square_text g index else group_square_text g index

-- those from a place to another, and those of a row
abbrev pub squares_between : Drawn → ℕ × ℕ → List ℕ
squares_between g p = flat_map (square_text g) (range_with_len p.0 (p.1 - p.0))

abbrev pub squares_text : Drawn → ℕ → List ℕ
squares_text g row = squares_between g (places_of g.grid row g.grid.squares)

-- a row: its squares, and the outlines of missing pages
unfoldable pub row_text : Drawn → ℕ → List ℕ
row_text g row =
    concat (codes "<g transform=\"translate(" ∷ decimal 72 ∷ codes "," ∷ decimal (top_of g.grid row) ∷ codes ")\">\n" ∷ [])
    ++ (squares_text g row ++ (outlines_text g.grid row ++ codes "</g>\n"))

unfoldable pub rows_text : Drawn → List ℕ
rows_text g = flat_map (row_text g) (range_with_len 0 (rows g.grid))
