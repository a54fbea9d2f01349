-- What is written of an injury below its fault line (own), but for the lines that say where a page is: the cause, and the faults
-- that belong to it.
use Rattle.std.specs.Prelude.{ℕ, ℤ, List, [], ◌∷◌, ◌++◌, Option, codes, decimal, ◌==◌, if◌then◌else◌}
use Rattle.std.specs.Fmt.{signed_decimal}
use Rattle.std.specs.Option.{option_map_or}
use Rattle.dbformat.specs.FirstBytes.{begins_with}
use Rattle.dbformat.specs.Lines.{line_feed}
use Rattle.dbformat.specs.Text.{hex_text}
use Rattle.dbformat.specs.declared.Look.{Look}
use Rattle.dbformat.specs.declared.Look.TheVariants as look
use Rattle.dbformat.specs.declared.PageKind.{PageKind}
use Rattle.dbformat.specs.declared.PageKind.TheVariants.{InteriorIndex, InteriorTable, LeafIndex, LeafTable}
use Rattle.dbformat.specs.declared.Rowids.{Rowids}
use Rattle.dbformat.specs.declared.TreeLook.{TreeLook}
use Rattle.dbtrace.specs.declared.Cause.{Cause}
use Rattle.dbtrace.specs.declared.Cause.TheVariants as cause
use Rattle.dbtrace.specs.declared.CellChain.{CellChain}
use Rattle.dbtrace.specs.declared.CellKey.{CellKey}
use Rattle.dbtrace.specs.declared.NamedPages.{NamedPages}

-- a line below the line of a fault
abbrev pub indented : List ℕ → List ℕ
indented text = codes "    " ++ text ++ line_feed ∷ []

-- a number of things
abbrev pub number_text : ℕ → List ℕ → List ℕ → List ℕ
number_text n one more = decimal n ++ (if n == 1 then one else more)

-- ---- the cause

-- the key that a key is not above
abbrev pub key_text : CellKey → List ℕ
key_text k = indented (codes "not above key " ++ signed_decimal k.value ++ codes " of page " ++ decimal k.page ++ codes " item " ++ decimal k.item)

-- the first leaf of the tree
abbrev pub leaf_text : ℕ → List ℕ
leaf_text page = indented (codes "the first leaf of the tree is page " ++ decimal page)

-- the rowid of a cell
abbrev pub rowid_text : ℤ → List ℕ
rowid_text rowid = codes ", rowid " ++ signed_decimal rowid

-- a page whose bytes are all one
abbrev pub blank_text : ℕ → List ℕ
blank_text byte = indented (if byte == 0 then codes "all zeros" else codes "all bytes " ++ hex_text 2 byte)

-- The overflow chain that is broken, by its cell, and how much of it was found; below it whether the page with the fault is all zeros.
abbrev pub broken_chain_text : CellChain → List ℕ
broken_chain_text c = indented (codes "chain of page " ++ decimal c.page ++ codes " item " ++ decimal c.item ++ option_map_or rowid_text c.rowid []
    ++ codes ": "
    ++ decimal c.found ++ codes " of " ++ number_text c.pages (codes " page") (codes " pages"))
    ++ (if c.seen.are_zeros then blank_text 0 else [])

-- the kind of a page of a tree
abbrev pub page_kind_text : PageKind → List ℕ
page_kind_text LeafTable = codes "a leaf of a table"
page_kind_text InteriorTable = codes "an interior page of a table"
page_kind_text LeafIndex = codes "a leaf of an index"
page_kind_text InteriorIndex = codes "an interior page of an index"

-- the text of n cells
abbrev pub cells_text : ℕ → List ℕ
cells_text n = number_text n (codes " cell") (codes " cells")

-- from the first rowid to the last
abbrev pub rowids_text : Rowids → List ℕ
rowids_text r = codes ", rowids " ++ signed_decimal r.first ++ codes " to " ++ signed_decimal r.last

-- how many of the pages that a lost interior page names are lost too
abbrev pub named_text : NamedPages → List ℕ
named_text n = codes "; " ++ decimal n.lost ++ codes " of the "
    ++ number_text n.pages (codes " page that it names is lost too") (codes " pages that it names are lost too")

-- a page that looks like one of a tree
abbrev pub tree_look_text : TreeLook → Option NamedPages → List ℕ
tree_look_text l named = indented (codes "looks like " ++ page_kind_text l.kind ++ codes " with " ++ cells_text l.cells
    ++ option_map_or rowids_text l.rowids [] ++ option_map_or named_text named [])

-- the first bytes of a page
abbrev pub first_bytes_text : List ℕ → List ℕ
first_bytes_text bytes = indented (begins_with bytes)

-- what a page looks like
abbrev pub look_text : Look → Option NamedPages → List ℕ
look_text (look.Blank byte) named = blank_text byte
look_text (look.Tree l) named = tree_look_text l named
look_text (look.Other bytes) named = first_bytes_text bytes

-- what a fault goes back to, if that is not its own place
abbrev pub cause_text : Cause → List ℕ
cause_text cause.Itself = []
cause_text (cause.Rows rowids) = []
cause_text (cause.Key k left) = key_text k
cause_text (cause.Leaf page rowids) = leaf_text page
cause_text (cause.Chain c) = broken_chain_text c
cause_text (cause.Page page facts) = []
cause_text (cause.Look l facts) = look_text l facts.named
