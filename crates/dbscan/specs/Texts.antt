-- The texts of trees and pages of a file with survey V: the name of a tree, and what a page is in it, whole and in pieces.
use Rattle.std.specs.Prelude.{ℕ, zero, suc, List, [], ◌++◌, Option, Some, None, slice_get, codes, decimal}
use Rattle.std.specs.Option.{option_map_or}
use Rattle.dbformat.specs.Header.{encoding}
use Rattle.dbformat.specs.PlainNames.{plain_name}
use Rattle.dbformat.specs.Reference.{Reference}
use Rattle.dbformat.specs.SchemaRow.{SchemaRow}
use Rattle.dbformat.specs.declared.Encoding.{Encoding}
use Rattle.dbformat.specs.declared.Fixed.{Fixed}
use Rattle.dbformat.specs.declared.Fixed.TheVariants.{Lock}
use Rattle.dbformat.specs.declared.RowKind.{RowKind}
use Rattle.dbformat.specs.declared.RowKind.TheVariants as row
use Rattle.dbscan.specs.Roots.{listed_rows}
use Rattle.dbscan.specs.declared.place.Place.{Place}
use Rattle.dbscan.specs.declared.place.Place.TheVariants as place

-- the kind of tree that a row names
abbrev pub kind_text : RowKind → List ℕ
kind_text row.Index = codes "index "
kind_text _ = codes "table "

-- the tree of a row: its kind and its name
abbrev pub row_text : Encoding → SchemaRow → List ℕ
row_text e r = kind_text r.kind ++ option_map_or (plain_name e) r.name (codes "?")

-- the tree of a start, by the rows that have one: `sqlite_schema`, or that of a row
abbrev pub tree_of_row : Encoding → List SchemaRow → ℕ → List ℕ
tree_of_row e rows zero = codes "sqlite_schema"
tree_of_row e rows (suc k) = option_map_or (row_text e) (slice_get rows k) []

-- the same of a file: 65536 rows have a start
abbrev pub tree_text : List ℕ → List Reference → ℕ → List ℕ
tree_text file V k = tree_of_row (encoding file) (listed_rows file V) k

-- the fixed use of a page
abbrev pub use_text : Option Fixed → List ℕ
use_text (Some Lock) = codes "lock-byte page"
use_text _ = codes "pointer map"

-- what a page is in its tree, or by its fixed use
abbrev pub place_text : Option Fixed → List ℕ → Place → List ℕ
place_text fixed tree place.Root = codes "root of " ++ tree
place_text fixed tree (place.ChildOf from) = codes "in " ++ tree ++ codes ", child of page " ++ decimal from
place_text fixed tree (place.OverflowOf from) = codes "in " ++ tree ++ codes ", overflow page of page " ++ decimal from
place_text fixed tree (place.OverflowAfter from) = codes "in " ++ tree ++ codes ", overflow page after page " ++ decimal from
place_text fixed tree place.Trunk = codes "trunk of the freelist"
place_text fixed tree place.FreeLeaf = codes "leaf of the freelist"
place_text fixed tree place.Fixed = use_text fixed
place_text fixed tree place.Nowhere = codes "in no tree, overflow chain or freelist"

-- ---- the pieces of what a page is

-- what comes before its tree
abbrev pub place_front : Option Fixed → Place → List ℕ
place_front fixed place.Root = codes "root of "
place_front fixed (place.ChildOf from) = codes "in "
place_front fixed (place.OverflowOf from) = codes "in "
place_front fixed (place.OverflowAfter from) = codes "in "
place_front fixed place.Trunk = codes "trunk of the freelist"
place_front fixed place.FreeLeaf = codes "leaf of the freelist"
place_front fixed place.Fixed = use_text fixed
place_front fixed place.Nowhere = codes "in no tree, overflow chain or freelist"

-- the start whose tree it is in
abbrev pub place_tree : Place → Option ℕ → Option ℕ
place_tree place.Root start = start
place_tree (place.ChildOf from) start = start
place_tree (place.OverflowOf from) start = start
place_tree (place.OverflowAfter from) start = start
place_tree _ start = None

-- what comes after it, before the page that it is reached from
abbrev pub place_words : Place → List ℕ
place_words (place.ChildOf from) = codes ", child of page "
place_words (place.OverflowOf from) = codes ", overflow page of page "
place_words (place.OverflowAfter from) = codes ", overflow page after page "
place_words _ = []

-- the page that it is reached from, if it is no root
abbrev pub place_from : Place → Option ℕ
place_from (place.ChildOf from) = Some from
place_from (place.OverflowOf from) = Some from
place_from (place.OverflowAfter from) = Some from
place_from _ = None
