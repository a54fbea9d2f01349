-- Sound files of other shapes: a tree of an index, and a pointer map with each kind of entry.
use Rattle.std.specs.Prelude.{ℕ, List, [], ◌∷◌, ◌++◌, codes}
use Rattle.dbformat.specs.Samples.{patched, blank_page, one_table, long_row_leaf}

-- a row of the schema: an index i of a table t with this root
abbrev index_row : ℕ → List ℕ
index_row r = 6 ∷ 23 ∷ 15 ∷ 15 ∷ 1 ∷ 0 ∷ codes "index" ++ codes "i" ++ codes "t" ++ r ∷ []

-- a leaf of an index with one cell of three bytes of payload
abbrev index_leaf : List ℕ
index_leaf = patched 508 (3 ∷ 3 ∷ 9 ∷ 9 ∷ []) (patched 0 (10 ∷ 0 ∷ 0 ∷ 0 ∷ 1 ∷ 1 ∷ 252 ∷ 0 ∷ 1 ∷ 252 ∷ []) blank_page)

-- an interior page of an index with the children 3 and 4, and a key of three bytes between them
abbrev index_root : List ℕ
index_root = patched 504 (0 ∷ 0 ∷ 0 ∷ 3 ∷ 3 ∷ 3 ∷ 9 ∷ 9 ∷ []) (patched 0 (2 ∷ 0 ∷ 0 ∷ 0 ∷ 1 ∷ 1 ∷ 248 ∷ 0 ∷ 0 ∷ 0 ∷ 0 ∷ 4 ∷ 1 ∷ 248 ∷ []) blank_page)

-- a file of one index, whose tree has three pages
abbrev pub index_file : List ℕ
index_file = patched 498 (index_row 2) (one_table 2 (index_root ++ index_leaf ++ index_leaf))

-- the map page of the file below: a root, two pages that are no root, a first overflow page and a later one
abbrev map_page : List ℕ
map_page = patched 0 (1 ∷ 0 ∷ 0 ∷ 0 ∷ 0 ∷ 5 ∷ 0 ∷ 0 ∷ 0 ∷ 3 ∷ 5 ∷ 0 ∷ 0 ∷ 0 ∷ 3 ∷ 3 ∷ 0 ∷ 0 ∷ 0 ∷ 4 ∷ 4 ∷ 0 ∷ 0 ∷ 0 ∷ 6 ∷ []) blank_page

-- an interior page of a table with the children 4 and 5, and the key 1 between them
abbrev table_root : List ℕ
table_root = patched 507 (0 ∷ 0 ∷ 0 ∷ 4 ∷ 1 ∷ []) (patched 0 (5 ∷ 0 ∷ 0 ∷ 0 ∷ 1 ∷ 1 ∷ 251 ∷ 0 ∷ 0 ∷ 0 ∷ 0 ∷ 5 ∷ 1 ∷ 251 ∷ []) blank_page)

-- a leaf with the rowid 1, whose payload of 1108 bytes goes on on page 6, and one with the rowid 6
abbrev first_leaf : List ℕ
first_leaf = patched 413 (136 ∷ 84 ∷ []) (long_row_leaf 6)

abbrev last_leaf : List ℕ
last_leaf = patched 508 (0 ∷ 6 ∷ []) (patched 0 (13 ∷ 0 ∷ 0 ∷ 0 ∷ 1 ∷ 1 ∷ 252 ∷ 0 ∷ 1 ∷ 252 ∷ []) blank_page)

-- a file of one table, with a pointer map: its root is page 3, with the leaves 4 and 5, and the overflow pages 6 and 7
abbrev pub mapped_file : List ℕ
mapped_file = patched 55 (3 ∷ []) (one_table 3 (map_page ++ table_root ++ first_leaf ++ last_leaf ++ patched 3 (7 ∷ []) blank_page ++ blank_page))
