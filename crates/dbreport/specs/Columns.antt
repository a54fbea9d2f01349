-- Columns of a line of the statistics, each after a tab, and the pieces of lines that are put by themselves.
use Rattle.std.specs.Prelude.{ℕ, ◌-◌, ◌*◌, List, [], ◌∷◌, ◌++◌, codes, decimal, flat_map}
use Rattle.dbformat.specs.Lines.{chain_text, counted, counts_columns, line_feed, no_text, pagetype_text, tab}
use Rattle.dbformat.specs.Rows as format
use Rattle.dbformat.specs.Rows.{StatRow}
use Rattle.dbformat.specs.Text.{hex_text}
use Rattle.dbformat.specs.declared.counts.Counts.{Counts}
use Rattle.dbreport.specs.declared.statistics.page_texts.OtherPage.{OtherPage}
use Rattle.dbreport.specs.declared.statistics.page_texts.OtherPage.TheVariants.{Trunk, FreeLeaf, Map, Lock, Unowned}
use Rattle.dbreport.specs.declared.statistics.sums.Sums.{Sums}

-- a column
abbrev pub column : List ℕ → List ℕ
column text = tab ∷ text

-- what a page or a tree counts
abbrev pub counts_text : Counts → List ℕ
counts_text counts = flat_map column (counts_columns counts)

-- where a page begins in the file, its size, and the end of the line
abbrev pub offset_text : ℕ → ℕ → List ℕ
offset_text page size = column (decimal ((page - 1) * size)) ++ column (decimal size) ++ line_feed ∷ []

-- a child on a path
abbrev pub child_text : ℕ → List ℕ
child_text child = hex_text 3 child ++ codes "/"

-- the row of a page, after the children
abbrev pub page_end : ℕ → StatRow → List ℕ
page_end size row = chain_text row.chain ++ column (decimal row.page) ++ column (pagetype_text row.pagetype)
    ++ counts_text row.counts ++ offset_text row.page size

-- the row of a tree, after its name
abbrev pub tree_end : ℕ → Sums → List ℕ
tree_end size sums = column no_text ++ column (decimal sums.pages) ++ column no_text
    ++ counts_text sums.counts
    ++ column no_text ++ column (decimal (counted (sums.pages * size))) ++ line_feed ∷ []

-- what another page is
abbrev pub other_of : OtherPage → format.OtherPage
other_of Trunk = format.trunk_page
other_of FreeLeaf = format.leaf_page
other_of Map = format.map_page
other_of Lock = format.lock_page
other_of Unowned = format.unowned_page
