-- The bytes of a recovered database, by an index of its log.
use Rattle.std.specs.Prelude.{ℕ, ◌+◌, ◌-◌, ◌*◌, ◌/◌, ◌%◌, ◌≤◌, List, [], ◌∷◌, map, min, nat_lt, slice_index, Option, Some, None, if◌then◌else◌}
use Rattle.std.specs.List.{range_with_len}
use Rattle.dbformat.specs.Log.{range}
use Rattle.dbformat.specs.declared.ByteRange.{ByteRange}
use Rattle.dblog.specs.Entries.{named_frame}
use Rattle.dblog.specs.Indexes.{Indexed}
use Rattle.dblog.specs.JournalReading.{JournalIndexed}
use Rattle.dblog.specs.declared.entry.Entry.{Entry}

-- where the pages of a recovered database are in a log: the size of a page, how many there are, and those that the log gives. The page of
-- frame 0 begins at the first byte, and that of each later frame a stride after the one before.
pub record Located : Type 0 where
  pub page_size : ℕ
  pub pages : ℕ
  pub first : ℕ
  pub stride : ℕ
  pub entries : List Entry

-- those of a write-ahead log: after its header a head of 24 bytes comes before each page
abbrev pub wal_pages : Indexed → Located
wal_pages index = record {
  page_size = index.page_size;
  pages = index.pages;
  first = 56;
  stride = 24 + index.page_size;
  entries = index.entries;
}

-- those of a rollback journal: an entry names the unit of eight bytes where a record begins, and the page comes after its number
abbrev pub journal_pages : JournalIndexed → Located
journal_pages found = record {
  page_size = found.shape.page_size;
  pages = found.shape.pages;
  first = 4;
  stride = 8;
  entries = found.entries;
}

-- where they are in a log beside a file of which this many bytes are used
pub record Placed : Type 0 where
  pub page_size : ℕ
  pub pages : ℕ
  pub first : ℕ
  pub stride : ℕ
  pub entries : List Entry
  pub base_len : ℕ

abbrev pub placed : Located → ℕ → Placed
placed l len = record { page_size = l.page_size; pages = l.pages; first = l.first; stride = l.stride; entries = l.entries; base_len = len }

-- where the page of a frame begins in a log
abbrev pub page_start : ℕ → ℕ → ℕ → ℕ
page_start first stride frame = first + stride * frame

-- byte i of a file of which `len` bytes are used: 0 past these
abbrev pub padded_byte : ℕ → List ℕ → ℕ → ℕ
padded_byte len file i = if nat_lt i len then slice_index file i else 0

-- byte i of the database: of the log, if its page is read from this frame, or else of the file
abbrev pub placed_byte : Placed → List ℕ → List ℕ → Option ℕ → ℕ → ℕ
placed_byte p base log (Some frame) i = slice_index log (page_start p.first p.stride frame + i % p.page_size)
placed_byte p base log None i = padded_byte p.base_len base i

-- the frame from which the page of byte i is read, if one is
abbrev pub frame_for : Placed → ℕ → Option ℕ
frame_for p i = named_frame p.entries (i / p.page_size + 1)

abbrev pub byte_through : Placed → List ℕ → List ℕ → ℕ → ℕ
byte_through p base log i = placed_byte p base log (frame_for p i) i

-- how many bytes it has
abbrev pub placed_len : Placed → ℕ
placed_len p = p.pages * p.page_size

-- the database
abbrev pub through : Placed → List ℕ → List ℕ → List ℕ
through p base log = map (byte_through p base log) (range_with_len 0 (placed_len p))

-- ---- what is asked for a range of the database

-- it lies in one page of the database
pub record IsInOnePage (p : Placed) (r : ByteRange) : Type 0 where
  pub one : r.offset % p.page_size + r.len ≤ p.page_size
  pub within : r.offset + r.len ≤ placed_len p

-- what is asked of the log: the range in its frame, if its page is read from one
abbrev pub log_ranges_in : Placed → ByteRange → Option ℕ → List ByteRange
log_ranges_in p r (Some frame) = range (page_start p.first p.stride frame + r.offset % p.page_size) r.len ∷ []
log_ranges_in p r None = []

abbrev pub log_ranges : Placed → ByteRange → List ByteRange
log_ranges p r = log_ranges_in p r (frame_for p r.offset)

-- what the first `len` bytes of a file have of a range, if they have something
abbrev pub padded_ranges : ℕ → ByteRange → List ByteRange
padded_ranges len r = if nat_lt r.offset len then range r.offset (min (len - r.offset) r.len) ∷ [] else []

-- what is asked of the file: what it has of the range, if its page is read from no frame
abbrev pub base_ranges_in : Placed → ByteRange → Option ℕ → List ByteRange
base_ranges_in p r (Some frame) = []
base_ranges_in p r None = padded_ranges p.base_len r

abbrev pub base_ranges : Placed → ByteRange → List ByteRange
base_ranges p r = base_ranges_in p r (frame_for p r.offset)
