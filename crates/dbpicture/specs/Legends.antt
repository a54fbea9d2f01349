-- The legend of a picture: which lines it has, how many pages each is of, and how they are drawn. There is a line for each of the largest
-- trees, and then one for all other trees, for the freelist, for pages of fixed use, for pages that are nobody's, for pages that are one byte
-- throughout, for pages with each frame, and for pages that the header states and the file does not have, or that it has after the end that the header
-- states; each only where it has a page.
use Rattle.std.specs.Prelude.{ℕ, ◌+◌, ◌-◌, ◌*◌, Bool, true, false, List, [], ◌∷◌, ◌++◌, length, Option, Some, None, codes, decimal, ◌==◌, if◌then◌else◌}
use Rattle.std.specs.Prelude.{◌/◌, get_or, max, nat_lt, slice_index_or}
use Rattle.std.specs.Option.{option_map_or}
use Rattle.std.specs.List.{concat, flat_map, range_with_len}
use Rattle.dbformat.specs.declared.Geometry.{Geometry}
use Rattle.dbpicture.specs.Pieces.{tenths_text}
use Rattle.dbpicture.specs.Marks.{shade_letter}
use Rattle.dbpicture.specs.Groups.{name_text}
use Rattle.dbformat.specs.Lines.{counted}
use Rattle.dbpicture.specs.declared.owner_shares.Share.{Share}
use Rattle.dbpicture.specs.declared.legend.Label.{Label}
use Rattle.dbpicture.specs.declared.legend.Label.TheVariants.{After, Blank, Fixed, Freelist, Missing, Nobody, Others, Strong, Tree, Weak}
use Rattle.dbpicture.specs.declared.legend.LegendLine.{LegendLine}
use Rattle.dbpicture.specs.declared.legend.NotedPages.{NotedPages}
use Rattle.dbformat.specs.Address.{freelist_start}
use Rattle.dbformat.specs.SchemaRow.{SchemaRow}
use Rattle.dbscan.specs.Roots.{root_page}
use Rattle.dbpicture.specs.Tallies.{others, PagesTallied, share_at}

-- a number of units of some bytes, in tenths, rounded
abbrev pub tenths : ℕ → ℕ → ℕ
tenths bytes unit = counted (counted (bytes * 20) + unit) / 2 / unit

-- the size of some pages, in tenths of its unit: KiB below 1 MiB, and else MiB
abbrev pub size_tenths : ℕ → ℕ → ℕ
size_tenths pages page_size =
    if nat_lt (pages * page_size) 1048576 then tenths (pages * page_size) 1024 else tenths (pages * page_size) 1048576

abbrev pub size_unit : ℕ → ℕ → List ℕ
size_unit pages page_size = if nat_lt (pages * page_size) 1048576 then codes " KiB" else codes " MiB"

-- some pages, none of which is an overflow page
abbrev pub no_overflow : ℕ → Share
no_overflow pages = record { pages = pages; overflow = 0 }

-- how many pixels the legend takes, with the room around it
abbrev pub height : List LegendLine → ℕ
height lines = length lines * 20 + 40

-- a text in two parts in a column, which ends at x
abbrev pub right_text : ℕ → ℕ → List ℕ → List ℕ → List ℕ
right_text x y text end =
    concat (codes "<text x=\"" ∷ decimal x ∷ codes "\" y=\"" ∷ decimal y ∷ codes "\" text-anchor=\"end\">" ∷ text ∷ end ∷ codes "</text>" ∷ [])

-- what begins the legend, and what the columns are
unfoldable pub columns_text : ℕ → List ℕ
columns_text bottom =
    concat (codes "<g transform=\"translate(0 " ∷ decimal bottom ∷ codes ")\">\n<g fill=\"#666666\">" ∷ [])
    ++ (right_text 580 20 (codes "pages") [] ++ (right_text 710 20 (codes "of them overflow") [] ++ (right_text 790 20 (codes "size") []
    ++ (right_text 860 20 (codes "%") [] ++ codes "</g>\n"))))

-- how many overflow pages a line is of, if any
abbrev pub overflow_text : ℕ → ℕ → List ℕ
overflow_text pages y = if pages == 0 then [] else right_text 710 y (decimal pages) []

-- how many pages a line is of, and their size
unfoldable pub share_text : Share → ℕ → ℕ → List ℕ
share_text share page_size y =
    right_text 580 y (decimal share.pages) []
    ++ (overflow_text share.overflow y ++ right_text 790 y (tenths_text (size_tenths share.pages page_size)) (size_unit share.pages page_size))

-- how many of all pages a line is of, in tenths of a per cent, rounded, where these are in the file
abbrev pub percent_text : Label → ℕ → ℕ → ℕ → List ℕ
percent_text Missing pages all y = []
percent_text After pages all y = []
percent_text label pages all y = right_text 860 y (tenths_text ((pages * 2000 + max all 1) / (2 * max all 1))) []

-- a square of the legend, in the colour of the owner with a number, or in the shade of overflow pages
abbrev pub box_text : ℕ → ℕ → ℕ → Bool → List ℕ
box_text x y owner over =
    concat (codes "<rect class=\"" ∷ shade_letter over ∷ decimal owner ∷ codes "\" x=\"" ∷ decimal x ∷ codes "\" y=\"" ∷ decimal y
    ∷ codes "\" width=\"12\" height=\"12\" stroke=\"#888888\" stroke-width=\".5\"/>" ∷ [])

-- the number of the owner of the pages of a line, if it is of one
abbrev pub label_owner : Label → Option ℕ
label_owner (Tree rank root) = Some rank
label_owner (Others count) = Some 12
label_owner Freelist = Some 13
label_owner Fixed = Some 14
label_owner Nobody = Some 15
label_owner Blank = Some 16
label_owner Missing = Some 17
label_owner After = Some 17
label_owner _ = None

-- the shade of an owner's overflow pages, if there are any
abbrev pub shade_text : ℕ → ℕ → ℕ → List ℕ
shade_text owner overflow y = if overflow == 0 then [] else box_text 88 (y - 10) owner true

-- how the frame of a line ends, as those of squares do: the strong one covers its edge, and the weak one lies around it
abbrev pub frame_end : Label → List ℕ
frame_end Strong = codes "4\"/>"
frame_end _ = codes "2\" paint-order=\"stroke\"/>"

-- the frame of a line
abbrev pub legend_frame_text : Label → ℕ → List ℕ
legend_frame_text label y =
    concat (codes "<rect x=\"73\" y=\"" ∷ decimal (y - 9)
    ∷ codes "\" width=\"10\" height=\"10\" fill=\"#FFFFFF\" stroke=\"#BE0700\" stroke-width=\"" ∷ frame_end label ∷ [])

-- the colours of an owner, or that frame
abbrev pub swatch_text : Label → Share → ℕ → List ℕ
swatch_text label share y =
    option_map_or (λ owner. shade_text owner share.overflow y ++ box_text 72 (y - 10) owner false) (label_owner label) (legend_frame_text label y)

-- the name of a tree and its root page, or how many other trees there are
abbrev pub label_subject : List (List ℕ) → Label → List ℕ
label_subject names (Tree rank root) = name_text names rank 35 ++ concat (codes " (root page " ∷ decimal root ∷ [])
label_subject names (Others count) = concat (decimal count ∷ [])
label_subject names _ = []

-- what comes after that
abbrev pub label_words : Label → List ℕ
label_words (Tree rank root) = codes ")"
label_words (Others count) = if count == 1 then codes " other tree" else codes " other trees"
label_words Freelist = codes "freelist"
label_words Fixed = codes "pointer map and lock-byte page"
label_words Nobody = codes "in no tree, overflow chain or freelist"
label_words Blank = codes "one byte throughout"
label_words Strong = codes "injuries that explain shows, what they name or go back to"
label_words Weak = codes "other pages with a fault"
label_words Missing = codes "stated in the header, not in the file"
label_words After = codes "in the file, after the stated end"

-- what a line is of
unfoldable pub label_text : List (List ℕ) → Label → ℕ → List ℕ
label_text names label y =
    concat (codes "<text x=\"108\" y=\"" ∷ decimal y ∷ codes "\">" ∷ [])
    ++ (label_subject names label ++ concat (label_words label ∷ codes "</text>" ∷ []))

-- a line, at this height
unfoldable pub line_text : List (List ℕ) → Geometry → LegendLine → ℕ → List ℕ
line_text names g line y =
    swatch_text line.label line.share y
    ++ (label_text names line.label y ++ (share_text line.share g.page_size y ++ (percent_text line.label line.share.pages g.pages y ++ codes "\n")))

-- lines, each below the one before it
abbrev pub no_line : LegendLine
no_line = record { label = Nobody; share = no_overflow 0 }

abbrev pub lines_text : List (List ℕ) → Geometry → List LegendLine → List ℕ
lines_text names g lines =
    flat_map (λ i. line_text names g (slice_index_or lines i no_line) ((i + 2) * 20)) (range_with_len 0 (length lines))

-- the legend
unfoldable pub legend_text : List LegendLine → List (List ℕ) → Geometry → ℕ → List ℕ
legend_text lines names g bottom = columns_text bottom ++ (lines_text names g lines ++ codes "</g>\n")

-- a line, if there is a page of it
abbrev pub line_if : Label → Share → List LegendLine
line_if label share = if share.pages == 0 then [] else record { label = label; share = share } ∷ []

-- that of the tree of this rank
abbrev pub tree_line : List SchemaRow → List Share → List ℕ → ℕ → List LegendLine
tree_line rows starts largest rank = line_if (Tree rank (root_page rows (get_or largest rank 0))) (share_at starts (get_or largest rank 0))

-- that of the pages that are outlined
abbrev pub outside_label : Bool → Label
outside_label are_after = if are_after then After else Missing

-- The legend's lines, by the rows of the schema, what each start has, the largest trees, and the numbers of noted pages.
unfoldable pub legend_lines : List SchemaRow → PagesTallied → List ℕ → NotedPages → List LegendLine
legend_lines rows t largest n =
    flat_map (tree_line rows t.starts largest) (range_with_len 0 (length largest))
    ++ line_if (Others (others t.starts largest (length rows + 1)).0) (others t.starts largest (length rows + 1)).1
    ++ line_if Freelist (share_at t.starts freelist_start) ++ line_if Fixed (no_overflow t.fixed) ++ line_if Nobody (no_overflow t.nobody)
    ++ line_if Blank (no_overflow n.blank) ++ line_if Strong (no_overflow n.strong) ++ line_if Weak (no_overflow n.weak)
    ++ line_if (outside_label n.are_after) (no_overflow n.outside)
