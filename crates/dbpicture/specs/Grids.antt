-- How the squares of a picture are laid out.
use Rattle.std.specs.Prelude.{ℕ, zero, suc, ◌+◌, ◌*◌, ◌/◌, ◌%◌, ◌-◌, min, max, Bool, true, false, ◌&&◌, nat_le, nat_lt, ◌==◌, if◌then◌else◌}
use Rattle.std.specs.Int.{div_ceil}
use Rattle.dbformat.specs.Lines.{counted}
use Rattle.dbformat.specs.declared.Geometry.{Geometry}
use Rattle.dbpicture.specs.Owners.{capped_pages}
use Rattle.dbpicture.specs.declared.grid.Grid.{Grid}
use Rattle.dbpicture.specs.declared.grid.Outside.{Outside}
use Rattle.dbpicture.specs.declared.grid.Width.{Width}
use Rattle.dbpicture.specs.declared.grid.Width.TheVariants.{Medium, Narrow, Wide}

-- how many pages a square covers after n steps, each of which doubles it while the file has more than 16384 squares
unfoldable pub group_after : ℕ → ℕ → ℕ
group_after pages zero = 1
group_after pages (suc n) = if nat_lt 16384 (div_ceil pages (group_after pages n)) then group_after pages n * 2 else group_after pages n

-- the smallest power of two of pages that keeps a file within 16384 squares: it has fewer than 2 ^ 32 pages
abbrev pub group_for : ℕ → ℕ
group_for pages = group_after pages 18

-- the width of the rows, by how many squares there are
abbrev pub width_of : ℕ → Width
width_of squares = if nat_le squares 512 then Narrow else (if nat_le squares 2048 then Medium else Wide)

-- Which pages are outlined, of a file of this shape and length whose header states `stated` pages: those that it states and the file does
-- not have; or, where the file goes on after the end that it states, those that are whole after that.
abbrev pub outside_by : Geometry → ℕ → ℕ → Outside
outside_by g stated len =
    if nat_lt g.pages (capped_pages (len / g.page_size)) then record { last = capped_pages (len / g.page_size); are_after = true }
    else record { last = stated; are_after = false }

-- the grid of a file of `pages` pages, with these outlines
abbrev pub grid_of : ℕ → Outside → Grid
grid_of pages outside = record {
  pages = pages;
  outside = outside;
  group = group_for pages;
  squares = div_ceil pages (group_for pages);
  width = width_of (div_ceil pages (group_for pages));
}

-- the square of page p, where a square covers `group` pages
abbrev pub square_of : ℕ → ℕ → ℕ
square_of group p = (p - 1) / max group 1

-- whether page p of a file of `pages` pages is one of a square
abbrev pub is_of_square : ℕ → ℕ → ℕ → Bool
is_of_square pages index p = nat_le 1 p && nat_le p pages && (square_of (group_for pages) p == index)

-- how many squares are in a row
abbrev pub columns_of : Width → ℕ
columns_of Narrow = 32
columns_of Medium = 64
columns_of Wide = 128

-- how many pixels a square takes with the room after it: a row has 896
abbrev pub side_of : Width → ℕ
side_of w = 896 / columns_of w

-- how many squares and outlines there are: an outline at least where a page is outlined, and no more rows of outlines alone than the file
-- has rows
abbrev pub places : Grid → ℕ
places g = max (min (div_ceil g.outside.last (max g.group 1)) (div_ceil g.squares (columns_of g.width) * 2 * columns_of g.width))
    (capped_pages (g.squares + (if g.outside.last - g.pages == 0 then 0 else 1)))

-- how many rows there are
abbrev pub rows : Grid → ℕ
rows g = div_ceil (places g) (columns_of g.width)

-- the places of a row among `most` places, the first and the one after the last
abbrev pub places_of : Grid → ℕ → ℕ → ℕ × ℕ
places_of g row most = (min (row * columns_of g.width) most, min ((row + 1) * columns_of g.width) most)

-- the first and the last page of a place, in a file of `pages` pages
abbrev pub group_of : Grid → ℕ → ℕ → ℕ × ℕ
group_of g place pages = (min (place * g.group + 1) pages, min (place * g.group + g.group) pages)

-- the first and the last page of an outline: the first outline also has those that the last square would cover
abbrev pub missing_of : Grid → ℕ → ℕ × ℕ
missing_of g place =
    (if place == g.squares then capped_pages (g.pages + 1) else (group_of g place g.outside.last).0, (group_of g place g.outside.last).1)

-- where a square begins in its row, and where a row begins, in pixels
abbrev pub x_of : Grid → ℕ → ℕ
x_of g place = (place % columns_of g.width) * side_of g.width

abbrev pub top_of : Grid → ℕ → ℕ
top_of g row = 64 + row * side_of g.width

-- the first page of a row
abbrev pub page_of_row : Grid → ℕ → ℕ
page_of_row g row = counted (counted (row * columns_of g.width * g.group) + 1)
