-- Which pages of the pointer map are read at the end of a run, and when (Database File Format, section 1.8).
use Rattle.std.specs.Prelude.{◌≡◌, ℕ, ◌+◌, ◌-◌, ◌*◌, ◌/◌, ◌<◌, ◌≤◌, true, List, Some}
use Rattle.dbformat.specs.File.{page_bytes}
use Rattle.dbformat.specs.FixedPages.{fixed_use, entries_per_map}
use Rattle.dbformat.specs.declared.ByteRange.{ByteRange}
use Rattle.dbformat.specs.declared.Geometry.{Geometry}
use Rattle.dbformat.specs.declared.Fixed.TheVariants.{Map}
use Rattle.dbscan.specs.Looks.{ReadsOrNot, ReadsRising, ReadsRisingBefore}

-- page p is a map page with pages after it
abbrev pub IsMapInUse : Geometry → ℕ → Type 0
IsMapInUse g p = (fixed_use g p ≡ Some Map) × (p < g.pages)

-- such pages were read, each once, by rising numbers
abbrev pub MapReads : Geometry → List ByteRange → Type 0
MapReads g log = ReadsRising g.page_size (IsMapInUse g) log

-- the same, where all are before page `next`
abbrev pub MapReadsBefore : Geometry → ℕ → List ByteRange → Type 0
MapReadsBefore g next log = ReadsRisingBefore g.page_size (IsMapInUse g) next log

-- at page p nothing was read, or it is such a page, and was read
abbrev pub IsMapTurn : Geometry → ℕ → List ByteRange → Type 0
IsMapTurn g p log = ReadsOrNot g.page_size (IsMapInUse g) p log

-- the last position of a map page at or before page p
abbrev pub last_map : Geometry → ℕ → ℕ
last_map g p = 2 + (p - 2) / (entries_per_map g + 1) * (entries_per_map g + 1)

-- where page p is after a map page, the bytes are those of the last one before it
abbrev pub HasMapFor : List ℕ → Geometry → ℕ → List ℕ → Type 0
HasMapFor file g p bytes = g.has_map ≡ true → 3 ≤ p → p ≤ g.pages → bytes ≡ page_bytes file (last_map g (p - 1))
