-- The picture of a file.
use Rattle.std.specs.Prelude.{ℕ, ◌+◌, ◌/◌, ◌%◌, ◌||◌, nat_lt, List, [], ◌∷◌, ◌++◌, codes, decimal, ◌==◌, if◌then◌else◌, ◌-◌, length, map, take, count_by}
use Rattle.std.specs.List.{concat, flat_map, range_with_len}
use Rattle.dbformat.specs.declared.Geometry.{Geometry}
use Rattle.dbpicture.specs.Pieces.{shown_text, tenths_text}
use Rattle.dbpicture.specs.Marks.{later_overflow_colours, later_tree_colours, other_colours, overflow_colours, tree_colours}
use Rattle.dbpicture.specs.Grids.{grid_of, is_of_square, outside_by, page_of_row, rows, side_of, top_of}
use Rattle.dbpicture.specs.Legends.{height, legend_lines, legend_text, size_tenths, size_unit}
use Rattle.dbpicture.specs.Squares.{Drawn, rows_text}
use Rattle.dbpicture.specs.declared.grid.Grid.{Grid}
use Rattle.dbpicture.specs.declared.grid.Outside.{Outside}
use Rattle.dbpicture.specs.declared.legend.LegendLine.{LegendLine}
use Rattle.dbpicture.specs.declared.legend.NotedPages.{NotedPages}
use Rattle.dbinjuries.specs.Zeros.{blank_pages}
use Rattle.dbpicture.specs.declared.picture.Heading.{Heading}
use Rattle.dbformat.specs.File.{geometry}
use Rattle.dbformat.specs.Header.{is_size_valid, stated_pages}
use Rattle.dbformat.specs.Lines.{counted}
use Rattle.dbformat.specs.Reference.{Reference}
use Rattle.dbformat.specs.Report.{faults}
use Rattle.dbformat.specs.Starts.{start_at}
use Rattle.dbscan.specs.Owners.{place_of}
use Rattle.dbscan.specs.Texts.{tree_text}
use Rattle.dbscan.specs.Roots.{listed_rows}
use Rattle.dbpicture.specs.Names.{short_text, shown_file}
use Rattle.dbpicture.specs.Owners.{is_one_of}
use Rattle.dbpicture.specs.Faults.{is_weak, page_shows, shows, signs_of}
use Rattle.dbpicture.specs.declared.faults.Sign.TheVariants.{Faulty, Framed}
use Rattle.dbpicture.specs.Tallies.{largest_of, tally_of}

-- the patterns: the hatching of pages that are nobody's, and the thin cross of those that are one byte throughout
abbrev pub patterns_text : List ℕ
patterns_text =
    concat (codes "</style>\n<defs><pattern id=\"unowned\" width=\"4\" height=\"4\" patternUnits=\"userSpaceOnUse\" patternTransform=\"rotate(45)\">"
    ∷ codes "<rect width=\"4\" height=\"4\" fill=\"#FFFFFF\"/><rect width=\"2\" height=\"4\" fill=\"#444444\"/></pattern>\n"
    ∷ codes "<pattern id=\"zeros\" width=\"1\" height=\"1\" patternContentUnits=\"objectBoundingBox\">"
    ∷ codes "<path d=\"M0 0h1v1h-1z\" fill=\"#FFFFFF\"/><path d=\"M0 0L1 1M1 0L0 1\" stroke=\"#888888\" stroke-width=\".06\"/></pattern></defs>\n"
    ∷ [])

-- what begins the picture: its size, its accessible name, the colours and patterns, and a white background
unfoldable pub head_text : List ℕ → ℕ → List ℕ
head_text file height =
    concat (codes "<svg xmlns=\"http://www.w3.org/2000/svg\" width=\"" ∷ decimal 988 ∷ codes "\" height=\"" ∷ decimal height
    ∷ codes "\" viewBox=\"0 0 " ∷ decimal 988 ∷ codes " " ∷ decimal height
    ∷ codes "\" font-family=\"sans-serif\" font-size=\"12\" role=\"img\" aria-label=\"Pages of " ∷ [])
    ++ (shown_text file 72 ++ (codes "\">\n<title>Pages of " ++ (shown_text file 72
    ++ (concat (codes "</title>\n<style>" ∷ tree_colours ∷ later_tree_colours ∷ overflow_colours ∷ later_overflow_colours
    ∷ other_colours
    ∷ [])
    ++ (patterns_text ++ codes "<rect width=\"100%\" height=\"100%\" fill=\"#FFFFFF\"/>\n")))))

-- how many faults there are
abbrev pub fault_count_text : ℕ → List ℕ
fault_count_text faults =
    if faults == 0 then codes "no fault" else (if faults == 1 then codes "1 fault" else decimal faults ++ codes " faults")

-- what comes after the number of pages
abbrev pub pages_word : ℕ → List ℕ
pages_word pages = if pages == 1 then codes " page of " else codes " pages of "

-- how many pages there are, and of which size
abbrev pub size_text : Geometry → List ℕ
size_text g =
    concat (decimal g.pages ∷ pages_word g.pages ∷ decimal g.page_size ∷ codes " bytes (" ∷ tenths_text (size_tenths g.pages g.page_size)
    ∷ size_unit g.pages g.page_size ∷ codes "), " ∷ [])

-- how many pages a square covers
abbrev pub unit_text : ℕ → List ℕ
unit_text group =
    if group == 1 then codes "; a square is a page, in the order of the file</text>\n"
    else concat (codes "; a square is " ∷ decimal group ∷ codes " pages, in the order of the file</text>\n" ∷ [])

-- the two lines above the squares
unfoldable pub heading_text : Heading → ℕ → List ℕ
heading_text h group =
    codes "<text x=\"20\" y=\"26\" font-size=\"16\" font-weight=\"bold\">" ++ (shown_text h.file 72
    ++ (codes "</text>\n<text x=\"20\" y=\"46\" fill=\"#444444\">" ++ (size_text h.geometry ++ (fault_count_text h.faults ++ unit_text group))))

-- the first page of a row before it; where rows are narrow, before each second one
abbrev pub row_label_text : Grid → ℕ → List ℕ
row_label_text g row =
    if nat_lt 10 (side_of g.width) || (row % 2 == 0)
    then concat (codes "<text x=\"64\" y=\"" ∷ decimal (top_of g row + (side_of g.width / 2 + 3)) ∷ codes "\">" ∷ decimal (page_of_row g row)
    ∷ codes "</text>\n" ∷ [])
    else []

unfoldable pub row_names : Grid → List ℕ
row_names g = codes "<g font-size=\"10\" fill=\"#666666\" text-anchor=\"end\">\n" ++ (flat_map (row_label_text g) (range_with_len 0 (rows g)) ++ codes "</g>\n")

-- the picture, by what is said above the squares, what these are drawn by, and the lines of the legend
unfoldable pub picture_text : Heading → Drawn → List LegendLine → List ℕ
picture_text h g lines =
    head_text h.file (top_of g.grid (rows g.grid) + height lines)
    ++ (heading_text h g.grid.group ++ (row_names g.grid ++ (rows_text g
    ++ (legend_text lines g.names h.geometry (top_of g.grid (rows g.grid)) ++ codes "</svg>\n"))))

-- the number of pages that a header states, where it counts
abbrev pub stated_of : List ℕ → ℕ
stated_of header = if is_size_valid header then stated_pages header else 0

-- which pages of a file are outlined
abbrev pub outside_of : List ℕ → Outside
outside_of file = outside_by (geometry file) (stated_of (take 100 file)) (length file)

-- what the squares are drawn by: a page is what its visit says, and belongs to the start of it
abbrev pub drawn_of : List ℕ → List Reference → Drawn
drawn_of file V = record {
  grid = grid_of (geometry file).pages (outside_of file);
  shape = geometry file;
  place = place_of file V;
  start = start_at V;
  blank = is_one_of (blank_pages file V);
  largest = largest_of file V;
  names = map (λ start. short_text (tree_text file V start)) (largest_of file V);
  tree = λ start. short_text (tree_text file V start);
  faults = λ index. shows (signs_of file V) (is_of_square (geometry file).pages index);
}

-- how many pages are one byte throughout, have each frame, and are outlined
abbrev pub noted_of : List ℕ → List Reference → NotedPages
noted_of file V = record {
  blank = length (blank_pages file V);
  strong = count_by (page_shows file V Framed) (range_with_len 1 (geometry file).pages);
  weak = count_by (is_weak (page_shows file V Faulty) (page_shows file V Framed)) (range_with_len 1 (geometry file).pages);
  outside = (outside_of file).last - (geometry file).pages;
  are_after = (outside_of file).are_after;
}

-- the lines of the legend
abbrev pub legend_of : List ℕ → List Reference → List LegendLine
legend_of file V = legend_lines (listed_rows file V) (tally_of file V) (largest_of file V) (noted_of file V)

-- The picture of a file with survey V, under a name. Above the squares are this name, the file's sizes, and how many faults it has.
unfoldable pub map_picture : List ℕ → List Reference → List ℕ → List ℕ
map_picture file V name = picture_text (record { file = shown_file name; geometry = geometry file; faults = counted (length (faults file V)) })
    (drawn_of file V) (legend_of file V)
