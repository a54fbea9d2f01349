-- The row of another page, by its mark.
use Rattle.std.specs.Prelude.{ℕ, List, [], Option, Some, None}
use Rattle.std.specs.Option.{option_map_or}
use Rattle.dbformat.specs.Lines.{other_line}
use Rattle.dbformat.specs.FixedPages.{fixed_use}
use Rattle.dbformat.specs.Rows.{OtherPage, trunk_page, leaf_page, other_unvisited}
use Rattle.dbformat.specs.declared.Geometry.{Geometry}
use Rattle.dbmarks.specs.declared.marks.Mark.{Mark}
use Rattle.dbmarks.specs.declared.marks.Mark.TheVariants.{Unmarked, Fixed, Trunk, FreeLeaf}

-- what page p with this mark is, where it is in no tree and in no overflow chain
abbrev pub marked_other : Geometry → ℕ → Mark → Option OtherPage
marked_other g p Trunk = Some trunk_page
marked_other g p FreeLeaf = Some leaf_page
marked_other g p Unmarked = Some (other_unvisited (fixed_use g p))
marked_other g p Fixed = Some (other_unvisited (fixed_use g p))
marked_other g p _ = None

-- its line
abbrev pub marked_line : Geometry → ℕ → Mark → List ℕ
marked_line g p mark = option_map_or (other_line g.page_size p) (marked_other g p mark) []
