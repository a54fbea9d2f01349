-- The room that a desk takes.
use Rattle.std.specs.Borrow.{RattleType}
use Rattle.std.specs.Mem.{FitsInMemory}
use Rattle.std.specs.declared.alloc.Allocator.{Ghosts}
use Rattle.dbscan.specs.contracts.desk.Desk.{the_row}

-- The type of the desk is no larger than memory. This holds wherever there is a value of the type.
abbrev pub DeskFitsInMemory : (A : RattleType) → Ghosts A.Denot → Type 0
DeskFitsInMemory A heap = FitsInMemory (the_row A heap)
