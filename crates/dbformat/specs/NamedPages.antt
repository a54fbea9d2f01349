-- The pages that a page of a tree names, whether its cells can be read or not (own).
use Rattle.std.specs.Prelude.{ℕ, ◌-◌, ◌&&◌, Option, Some, None, nat_le, ◌==◌, if◌then◌else◌}
use Rattle.dbformat.specs.Cell.{cell_pointer, count, right_child}
use Rattle.dbformat.specs.Head.{View, content_start, is_interior}
use Rattle.dbformat.specs.Numbers.{u32_at}

-- the number left of cell i of an interior page: the cell begins in the content area, with room for four bytes
abbrev pub left_named : View → ℕ → Option ℕ
left_named v i = let at = cell_pointer v i in
    if is_interior v.kind && nat_le (content_start v.number v.bytes) at && nat_le at (v.usable - 4) then Some (u32_at at v.bytes) else None

-- page i that it names: that left of cell i, and the right child after the last
abbrev pub named_page : View → ℕ → Option ℕ
named_page v i = if i == count v then right_child v else left_named v i
