-- What was read of a page before a byte of it is marked.
use Rattle.std.specs.Prelude.{◌≡◌, ℕ, ◌+◌, ◌-◌, ◌<◌, ◌≤◌, List, length, MatchOption, Option, None, ℤ, false}
use Rattle.dbformat.specs.Head.{View, content_start}
use Rattle.dbformat.specs.Cell.{Cell, count}
use Rattle.dbformat.specs.Coverage.{Span, is_held}
use Rattle.dbpage.specs.Marking.{AreMarked, ShareNoByte, Holds, cells_upto, is_within}
use Rattle.dbpage.specs.Packed.{AddUpTo}
use Rattle.dbpage.specs.declared.packed.Beginning.{Beginning}
use Rattle.dbpage.specs.declared.common_cells.MarkedCells.{MarkedCells}

-- a cell ends at an offset, and takes four bytes or more
pub record EndsAt (c : Cell) (end : ℕ) : Type 0 where
  pub ends : c.offset + c.len ≡ end
  pub four : 4 ≤ c.len

-- a cell takes 4 to 56 bytes, one more than its payload, and has no key and no overflow page
pub record IsShort (c : Cell) : Type 0 where
  pub four : 4 ≤ c.len
  pub most : c.len ≤ 56
  pub one : c.len ≡ length c.local + 1
  pub keyless : c.key ≡ None
  pub whole : c.overflow ≡ None

-- no two spans share a byte, and they hold those of one range alone
pub record IsCellRun (spans : List Span) (start end from to : ℕ) : Type 0 where
  pub low : start ≤ from
  pub between : from ≤ to
  pub high : to ≤ end
  pub held : (byte : ℕ) → start ≤ byte → byte < end → is_held spans byte ≡ is_within from to byte
  pub apart : ShareNoByte spans start end (to - from)

-- the first n cells are a run
abbrev pub AreInRun : View → ℕ → ℕ → ℕ → Type 0
AreInRun v n from to = IsCellRun (cells_upto v n) (content_start v.number v.bytes) v.usable from to

-- the first n cells are a run, and the next holds `len` bytes from an offset on
pub record EndsRun (v : View) (cells from to offset len : ℕ) : Type 0 where
  pub n : ℕ
  pub next : n + 1 ≡ cells
  pub run : AreInRun v n from to
  pub held : Holds v n offset len

-- These are the first cells, their sums, and what they hold.
pub record IsBegun (v : View) (b : Beginning) : Type 0 where
  pub few : b.cells ≤ count v
  pub read : AddUpTo v b.cells b.sums
  pub runs : MatchOption b.next (AreInRun v b.cells b.run.from b.run.to) (λ held. EndsRun v b.cells b.run.from b.run.to held.0 held.1)

-- no cell, of a page whose first key is this
abbrev pub begins_with : Option ℤ → ℕ → Beginning
begins_with first usable = record {
  cells = 0;
  sums = record { payload = 0; greatest = 0; first = first; last = None; has_overflow = false };
  run = record { from = usable; to = usable };
  next = None;
}

-- the same, where no cell ended the run
pub record IsRunning (v : View) (b : Beginning) : Type 0 where
  pub few : b.cells ≤ count v
  pub read : AddUpTo v b.cells b.sums
  pub run : AreInRun v b.cells b.run.from b.run.to

-- the first n cells are a run, and these are their sums
pub record HasRun (v : View) (n : ℕ) (b : Beginning) : Type 0 where
  pub read : AddUpTo v n b.sums
  pub run : AreInRun v n b.run.from b.run.to

-- These are the first cells, their sums, and how many bytes they hold, which are marked.
pub record AreRead (v : View) (table : List ℕ) (m : MarkedCells) : Type 0 where
  pub few : m.cells ≤ count v
  pub read : AddUpTo v m.cells m.sums
  pub marked : AreMarked (cells_upto v m.cells) (content_start v.number v.bytes) v.usable table m.held
