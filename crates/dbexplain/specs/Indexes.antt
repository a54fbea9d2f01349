-- Which trees have no rowids: indexes, and tables without rowids, whose pages are those of indexes.
use Rattle.std.specs.Prelude.{◌≡◌, ℕ, ◌≤◌, Bool, true, false, ◌&&◌, List, Some, slice_get, slice_set, ◌==◌, if◌then◌else◌}
use Rattle.std.specs.List.{list_any}
use Rattle.dbformat.specs.Address.{freelist_start}
use Rattle.dbformat.specs.Rows.{StatRow}
use Rattle.dbformat.specs.declared.PageKind.TheVariants.{InteriorIndex, LeafIndex}
use Rattle.dbformat.specs.declared.PageType.{PageType}
use Rattle.dbformat.specs.declared.PageType.TheVariants.{Tree}

-- whether a page is one of an index
abbrev pub is_index_type : PageType → Bool
is_index_type (Tree LeafIndex) = true
is_index_type (Tree InteriorIndex) = true
is_index_type _ = false

-- whether a row is of such a page, in the tree of start k
abbrev pub is_index_page : ℕ → StatRow → Bool
is_index_page k r = (r.start == k) && is_index_type r.pagetype

-- ---- as it is noted

-- of a row the start, if its page is one of an index
abbrev pub index_noted : List Bool → StatRow → List Bool
index_noted noted r = if is_index_type r.pagetype then slice_set noted r.start true else noted

-- these rows were noted
abbrev pub AreIndexes : List StatRow → List Bool → Type 0
AreIndexes rs noted = (k : ℕ) → k ≤ freelist_start → slice_get noted k ≡ Some (list_any (is_index_page k) rs)
