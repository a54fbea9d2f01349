-- The lines of a report, as bytes (own; the columns are those of The DBSTAT Virtual Table).
use Rattle.std.specs.Prelude.{◌≡◌, ℕ, zero, suc, ◌-◌, ◌*◌, ◌^◌, List, [], ◌∷◌, ◌++◌, length, map, flat_map, fold, max, min, sum_by, Option, Some}
use Rattle.std.specs.Prelude.{None, codes, decimal, slice_get, if◌then◌else◌}
use Rattle.std.specs.List.{join_with_byte}
use Rattle.std.specs.Option.{option_map_or}
use Rattle.std.specs.Fmt.{signed_decimal}
use Rattle.dbformat.specs.Counts.{no_counts}
use Rattle.dbformat.specs.File.{geometry}
use Rattle.dbformat.specs.Head.{is_interior}
use Rattle.dbformat.specs.Header.{encoding, page_size}
use Rattle.dbformat.specs.SchemaRow.{SchemaRow}
use Rattle.dbformat.specs.Text.{hex_text, shown_name}
use Rattle.dbformat.specs.Reference.{Reference}
use Rattle.dbformat.specs.Schema.{schema, rooted_rows}
use Rattle.dbformat.specs.Rows.{StatRow, OtherPage, trunk_page, leaf_page, map_page, lock_page, unowned_page, FormRow, page_row, tree_row}
use Rattle.dbformat.specs.Rows.{other_row, StatForm, form_rows}
use Rattle.dbformat.specs.declared.counts.Counts.{Counts}
use Rattle.dbformat.specs.declared.Fault.{Fault}
use Rattle.dbformat.specs.declared.FaultCode.{FaultCode}
use Rattle.dbformat.specs.declared.FaultCode.TheVariants.{H01, H02, H03, H04, H05, H06, H07, H08, H09, H10, P01, P02, P03, P04, P05, P06, P07, P08}
use Rattle.dbformat.specs.declared.FaultCode.TheVariants.{P09, P10, R01, R02, R03, T04, T05, T06, O01, L01, S01, S02, S03, S04, N01, M01, M02}
use Rattle.dbformat.specs.declared.PageType.{PageType}
use Rattle.dbformat.specs.declared.PageType.TheVariants.{Tree, Damaged, Overflow}

-- the byte that ends a line
abbrev pub line_feed : ℕ
line_feed = 10

-- the byte between two columns
abbrev pub tab : ℕ
tab = 9

-- the code of a fault, as its line begins with it
abbrev pub code_text : FaultCode → List ℕ
code_text H01 = codes "H01"
code_text H02 = codes "H02"
code_text H03 = codes "H03"
code_text H04 = codes "H04"
code_text H05 = codes "H05"
code_text H06 = codes "H06"
code_text H07 = codes "H07"
code_text H08 = codes "H08"
code_text H09 = codes "H09"
code_text H10 = codes "H10"
code_text P01 = codes "P01"
code_text P02 = codes "P02"
code_text P03 = codes "P03"
code_text P04 = codes "P04"
code_text P05 = codes "P05"
code_text P06 = codes "P06"
code_text P07 = codes "P07"
code_text P08 = codes "P08"
code_text P09 = codes "P09"
code_text P10 = codes "P10"
code_text R01 = codes "R01"
code_text R02 = codes "R02"
code_text R03 = codes "R03"
code_text T04 = codes "T04"
code_text T05 = codes "T05"
code_text T06 = codes "T06"
code_text O01 = codes "O01"
code_text L01 = codes "L01"
code_text S01 = codes "S01"
code_text S02 = codes "S02"
code_text S03 = codes "S03"
code_text S04 = codes "S04"
code_text N01 = codes "N01"
code_text M01 = codes "M01"
code_text M02 = codes "M02"

-- what a fault with this code says
abbrev pub code_words : FaultCode → List ℕ
code_words H01 = codes "file version is not 1 or 2"
code_words H02 = codes "payload fraction is not the fixed one"
code_words H03 = codes "schema format above 4"
code_words H04 = codes "text encoding above 3"
code_words H05 = codes "reserved header byte is not zero"
code_words H06 = codes "file is shorter than its stated size"
code_words H07 = codes "incremental vacuum without a pointer map"
code_words H08 = codes "schema has rows but no format or encoding"
code_words H09 = codes "greatest root page differs from the header"
code_words H10 = codes "freelist count differs from the header"
code_words P01 = codes "unknown page type"
code_words P02 = codes "page belongs to the other kind of tree"
code_words P03 = codes "content area out of bounds"
code_words P04 = codes "more than 60 fragmented bytes"
code_words P05 = codes "cell offset out of bounds"
code_words P06 = codes "cell cannot be read"
code_words P07 = codes "bad freeblock"
code_words P08 = codes "overlapping bytes"
code_words P09 = codes "fragmented bytes differ from the count"
code_words P10 = codes "empty page that is not a root"
code_words R01 = codes "page number out of range"
code_words R02 = codes "page is reserved for a fixed use"
code_words R03 = codes "page is already in use"
code_words T04 = codes "tree is deeper than 20 pages"
code_words T05 = codes "leaf at another depth"
code_words T06 = codes "key out of order"
code_words O01 = codes "last overflow page names a next page"
code_words L01 = codes "trunk holds too many leaves"
code_words S01 = codes "schema row cannot be read"
code_words S02 = codes "name cannot be shown"
code_words S03 = codes "root page or type is wrong"
code_words S04 = codes "more than 65536 root pages"
code_words N01 = codes "page is not in use"
code_words M01 = codes "pointer map entry differs"
code_words M02 = codes "root page after a page that is no root"

-- the line of a fault: its code, page, item and value, and after a colon what it says
unfoldable pub fault_line : Fault → List ℕ
fault_line f = code_text f.code ++ codes " page " ++ decimal f.page ++ codes " item " ++ decimal f.item
    ++ codes " value " ++ signed_decimal f.value ++ codes ": " ++ code_words f.code ++ line_feed ∷ []

-- the line that says that there are k more faults
unfoldable pub more_line : ℕ → List ℕ
more_line k = codes "more " ++ decimal k ++ line_feed ∷ []

-- the line of a file without a fault
abbrev pub ok_line : List ℕ
ok_line = codes "ok" ++ line_feed ∷ []

-- A path: the children on the way in three hexadecimal digits or more, each before a slash; and for an overflow page
-- its cell in the same form, a plus sign, and its number in six digits or more (The DBSTAT Virtual Table, "path").
abbrev pub chain_text : Option (ℕ × ℕ) → List ℕ
chain_text None = []
chain_text (Some (cell, number)) = hex_text 3 cell ++ codes "+" ++ hex_text 6 number

-- the text of a path: a slash, the children, and the overflow page
unfoldable pub path_text : List ℕ → Option (ℕ × ℕ) → List ℕ
path_text path chain = codes "/" ++ flat_map (λ child. hex_text 3 child ++ codes "/") path ++ chain_text chain

-- the text of a page type (The DBSTAT Virtual Table, "pagetype"; a damaged page is (own))
abbrev pub pagetype_text : PageType → List ℕ
pagetype_text (Tree kind) = if is_interior kind then codes "internal" else codes "leaf"
pagetype_text Damaged = codes "damaged"
pagetype_text Overflow = codes "overflow"

-- what is shown for the name of a row: its text, or a question mark where it cannot be shown
abbrev pub row_name_text : List ℕ → SchemaRow → List ℕ
row_name_text file r = option_map_or (shown_name (encoding file)) r.name (codes "?")

-- the name of the tree of a start: start k is the k-th row with a root page
unfoldable pub tree_name : List ℕ → List Reference → ℕ → List ℕ
tree_name file V zero = codes "sqlite_schema"
tree_name file V (suc k) = option_map_or (row_name_text file) (slice_get (rooted_rows (schema file V)) k) []

-- the columns of a line, with a tab between each two
abbrev pub columns : List (List ℕ) → List ℕ
columns texts = join_with_byte tab texts ++ line_feed ∷ []

-- a count that stops at the greatest number of 64 bits
abbrev pub counted : ℕ → ℕ
counted n = min n (2 ^ 64 - 1)

-- what some pages count together: sums that stop at the greatest number of 64 bits, and the greatest payload
abbrev pub total_counts : List Counts → Counts
total_counts cs = record {
  ncell = counted (sum_by (λ c. c.ncell) cs);
  payload = counted (sum_by (λ c. c.payload) cs);
  unused = counted (sum_by (λ c. c.unused) cs);
  mx_payload = fold max 0 (map (λ c. c.mx_payload) cs);
}

-- the columns of what is counted
abbrev pub counts_columns : Counts → List (List ℕ)
counts_columns c = decimal c.ncell ∷ decimal c.payload ∷ decimal c.unused ∷ decimal c.mx_payload ∷ []

-- the last column of a row, `pgsize`: the bytes of the pages that it counts, by the page size
abbrev pub pgsize : ℕ → FormRow → ℕ
pgsize size (page_row row) = size
pgsize size (tree_row k rows) = counted (length rows * size)
pgsize size (other_row p what) = size

-- the line of a page's row, by the name of its tree and the page size
abbrev pub page_line : List ℕ → ℕ → StatRow → List ℕ
page_line name size row = columns (
    name
    ∷ path_text row.path row.chain
    ∷ decimal row.page
    ∷ pagetype_text row.pagetype
    ∷ counts_columns row.counts
    ++ decimal ((row.page - 1) * size)
    ∷ decimal (pgsize size (page_row row)) ∷ [])

-- the text of what another page is (own)
abbrev pub other_text : OtherPage → List ℕ
other_text trunk_page = codes "trunk"
other_text leaf_page = codes "freeleaf"
other_text map_page = codes "map"
other_text lock_page = codes "lock"
other_text unowned_page = codes "unowned"

-- a column that says nothing in a row
abbrev pub no_text : List ℕ
no_text = codes "-"

-- The line of a tree: the number of its page rows in place of a page, which stops at the greatest number of 64 bits, and
-- what they count together.
abbrev pub tree_line : List ℕ → ℕ → List StatRow → List ℕ
tree_line name size rows = columns (
    name
    ∷ no_text
    ∷ decimal (counted (length rows))
    ∷ no_text
    ∷ counts_columns (total_counts (map (λ row. row.counts) rows))
    ++ no_text
    ∷ decimal (pgsize size (tree_row 0 rows)) ∷ [])

-- the line of another page
abbrev pub other_line : ℕ → ℕ → OtherPage → List ℕ
other_line size p what = columns (
    no_text
    ∷ no_text
    ∷ decimal p
    ∷ other_text what
    ∷ counts_columns no_counts
    ++ decimal ((p - 1) * size)
    ∷ decimal (pgsize size (other_row p what)) ∷ [])

-- the line of a row of a form
unfoldable pub form_line : List ℕ → List Reference → FormRow → List ℕ
form_line file V (page_row row) = page_line (tree_name file V row.start) (page_size file) row
form_line file V (tree_row k rows) = tree_line (tree_name file V k) (page_size file) rows
form_line file V (other_row p what) = other_line (page_size file) p what

-- the column `pgsize` of the rows of a form adds up to the size of all pages
abbrev pub AddsUpToAllPages : StatForm → List ℕ → List Reference → Type 0
AddsUpToAllPages form file V = sum_by (pgsize (page_size file)) (form_rows form file V) ≡ (geometry file).pages * page_size file
