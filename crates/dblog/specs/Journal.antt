-- The rollback journal (Database File Format, 3): segments, each of a head, which fills a sector, and of records. A record is the number of
-- a page, the page, and a sum.
use Rattle.std.specs.Prelude.{◌≡◌, ◌≤◌, ℕ, ◌+◌, ◌*◌, ◌-◌, ◌/◌, ◌%◌, ◌^◌, ◌==◌, Bool, ◌&&◌, ◌||◌, not}
use Rattle.std.specs.Prelude.{List, [], ◌∷◌, ◌++◌, zero, suc, drop, take, length, nat_le, nat_lt}
use Rattle.std.specs.Prelude.{Option, Some, None, slice_index, if◌then◌else◌}
use Rattle.std.specs.List.{fold, list_any, range_with_len}
use Rattle.dbformat.specs.FixedPages.{lock_page}
use Rattle.dbformat.specs.Numbers.{u32_at}
use Rattle.dblog.specs.Sums.{plus}
use Rattle.dblog.specs.Wal.{is_page_size}
use Rattle.dblog.specs.declared.cold.Cold.{Cold}
use Rattle.dblog.specs.declared.cold.Cold.TheVariants.{Short, Zeroed, NoMagic, Sizes}
use Rattle.dblog.specs.declared.journal.Place.{Place}
use Rattle.dblog.specs.declared.journal.Shape.{Shape}

-- ---- the head h of a segment: its first 28 bytes

-- d9d505f920a163d7
abbrev pub has_magic : List ℕ → Bool
has_magic h = (u32_at 0 h == 3654616569) && (u32_at 4 h == 547447767)

-- how many records it states, where ffffffff stands for as many as the journal has room for
abbrev pub stated_records : List ℕ → ℕ
stated_records h = u32_at 8 h

-- what the sums of its records begin with
abbrev pub nonce : List ℕ → ℕ
nonce h = u32_at 12 h

abbrev pub sector_sizes : List ℕ
sector_sizes = 32 ∷ 64 ∷ 128 ∷ 256 ∷ 512 ∷ 1024 ∷ 2048 ∷ 4096 ∷ 8192 ∷ 16384 ∷ 32768 ∷ 65536 ∷ []

abbrev pub is_sector_size : ℕ → Bool
is_sector_size n = list_any (λ size. n == size) sector_sizes

-- ---- what the first head says of the whole journal

-- the size of a page: 0 is that of the database
abbrev pub stated_size : ℕ → List ℕ → ℕ
stated_size stored h = if u32_at 24 h == 0 then stored else u32_at 24 h

-- the length of the journal, the size of its sectors, the size of a page, and how many pages the database had
abbrev pub shape : ℕ → List ℕ → ℕ → Shape
shape stored h len = record { len = len; sector = u32_at 20 h; page_size = stated_size stored h; pages = u32_at 16 h }

abbrev pub is_shape : Shape → Bool
is_shape s = is_page_size s.page_size && (is_sector_size s.sector && nat_le s.sector s.len)

-- what is known of such sizes
pub record IsSized (s : Shape) : Type 0 where
  pub page : 512 ≤ s.page_size
  pub most_page : s.page_size ≤ 65536
  pub page_by_8 : s.page_size % 8 ≡ 0
  pub sector : 32 ≤ s.sector
  pub most_sector : s.sector ≤ 65536
  pub sector_by_8 : s.sector % 8 ≡ 0
  pub within : s.sector ≤ s.len

-- something of the journal is used: its first head is one. A journal has a sector at least, of 512 bytes where nothing else is known.
abbrev pub is_used : ℕ → List ℕ → ℕ → Bool
is_used stored h len = nat_le 512 len && (has_magic h && is_shape (shape stored h len))

-- Why nothing of a journal is used, by its first head. One that SQLite does not need begins with 0: its transaction has ended, or nothing of
-- the database was written since it began.
abbrev pub cold_by : List ℕ → Cold
cold_by h = if slice_index h 0 == 0 then Zeroed else (if has_magic h then Sizes else NoMagic)

abbrev pub why_cold : List ℕ → ℕ → Cold
why_cold h len = if nat_lt len 512 then Short else cold_by h

-- ---- from one place to the next

-- A place is where a record begins, or where the next segment is looked for: the byte; how many records of the segment are left; and what
-- their sums begin with.

-- how many records a head states
abbrev pub records_of : Shape → List ℕ → ℕ
records_of s h = if stated_records h == 2 ^ 32 - 1 then (s.len - s.sector) / (s.page_size + 8) else stated_records h

-- the first record of a segment, whose head h begins at this byte
abbrev pub place_after : Shape → List ℕ → ℕ → Place
place_after s h at = record { at = at + s.sector; left = records_of s h; nonce = nonce h }

-- how many bytes there are up to the next sector
abbrev pub gap : Shape → ℕ → ℕ
gap s at = (s.sector - at % s.sector) % s.sector

-- the sector that begins at this byte
abbrev pub sector_at : Shape → List ℕ → ℕ → List ℕ
sector_at s journal at = take s.sector (drop at journal)

-- the first place of the segment whose head is in this sector, if it is a head
abbrev pub in_sector : Shape → List ℕ → ℕ → Option Place
in_sector s h at = if has_magic h then Some (place_after s h at) else None

-- the first place of the next segment, if that has a whole head
abbrev pub after_head : Shape → List ℕ → ℕ → Option Place
after_head s journal at = if nat_le (at + s.sector) s.len then in_sector s (sector_at s journal at) at else None

-- the sum of a record: the nonce and every 200th byte from the end of the page, modulo 2^32
abbrev pub with_byte : List ℕ → ℕ → ℕ → ℕ
with_byte page sum i = plus sum (slice_index page (length page - 200 * (i + 1)))

abbrev pub record_sum : ℕ → List ℕ → ℕ
record_sum start page = fold (with_byte page) start (range_with_len 0 ((length page - 1) / 200))

-- the bytes of the record at a place
abbrev pub record_at : Shape → List ℕ → ℕ → List ℕ
record_at s journal at = take (s.page_size + 8) (drop at journal)

-- whether these are a record: of a page that may be written, with its sum, unless it is a page that the database did not have
abbrev pub is_record : Shape → ℕ → List ℕ → Bool
is_record s start r = nat_lt 0 (u32_at 0 r) && (not (u32_at 0 r == lock_page s.page_size)
    && (nat_lt s.pages (u32_at 0 r) || (record_sum start (take s.page_size (drop 4 r)) == u32_at (s.page_size + 4) r)))

-- the place after these bytes, if they are a record
abbrev pub behind_record : Shape → List ℕ → Place → Option Place
behind_record s r p =
    if is_record s p.nonce r then Some (record { at = p.at + (s.page_size + 8); left = p.left - 1; nonce = p.nonce }) else None

-- the place after a record, if it is whole
abbrev pub after_record : Shape → List ℕ → Place → Option Place
after_record s journal p = if nat_le (p.at + (s.page_size + 8)) s.len then behind_record s (record_at s journal p.at) p else None

-- the beginning of the next sector, if the journal goes on there
abbrev pub after_gap : Shape → Place → Option Place
after_gap s p = if nat_le (p.at + gap s p.at) s.len then Some (record { at = p.at + gap s p.at; left = 0; nonce = p.nonce }) else None

-- the next place, from one where no record of the segment is left
abbrev pub after_segment : Shape → List ℕ → Place → Option Place
after_segment s journal p = if p.at % s.sector == 0 then after_head s journal p.at else after_gap s p

abbrev pub next_place : Shape → List ℕ → Place → Option Place
next_place s journal p = if p.left == 0 then after_segment s journal p else after_record s journal p

-- ---- the name of a super-journal

-- the last 16 bytes of a journal: how long a name is, its sum, and the magic
abbrev pub tail : List ℕ → List ℕ
tail journal = drop (length journal - 16) journal

-- whether the tail t of a journal of `len` bytes says that there is a name before it, of 512 bytes at most
abbrev pub has_name : ℕ → List ℕ → Bool
has_name len t = nat_lt 0 (u32_at 0 t) && (nat_le (u32_at 0 t) 512 && (nat_le (u32_at 0 t + 16) len && has_magic (drop 8 t)))

-- the n bytes before the tail
abbrev pub before_tail : ℕ → List ℕ → List ℕ
before_tail n journal = take n (drop (length journal - (16 + n)) journal)

-- a name is summed by its bytes as signed numbers
abbrev pub with_letter : ℕ → ℕ → ℕ
with_letter sum byte = plus sum (if nat_lt byte 128 then byte else byte + (2 ^ 32 - 256))

abbrev pub name_sum : List ℕ → ℕ
name_sum name = fold with_letter 0 name

-- whether these bytes are the name that the tail t states
abbrev pub is_name : List ℕ → List ℕ → Bool
is_name t name = nat_lt 0 (slice_index name 0) && (name_sum name == u32_at 4 t)

-- whether a journal names a super-journal: it is one of several of a transaction over more than one database
abbrev pub names_super : List ℕ → Bool
names_super journal = nat_le 16 (length journal) && (has_name (length journal) (tail journal)
    && is_name (tail journal) (before_tail (u32_at 0 (tail journal)) journal))

-- that name
abbrev pub super_name : List ℕ → Option (List ℕ)
super_name journal = if names_super journal then Some (before_tail (u32_at 0 (tail journal)) journal) else None

-- ---- what is used

-- a page, and the byte where its record begins
pub record Kept : Type 0 where
  pub page : ℕ
  pub at : ℕ

abbrev pub kept_at : Shape → List ℕ → Place → List Kept
kept_at s journal p = if p.left == 0 then [] else record { page = u32_at 0 (record_at s journal p.at); at = p.at } ∷ []

-- what is kept at a place, and then what is kept from the next one on, if there is one
abbrev pub with_next : List Kept → (Place → List Kept) → Option Place → List Kept
with_next kept more (Some q) = kept ++ more q
with_next kept more None = []

-- the records from a place on, up to the first that is none, where there are at most n records and heads
abbrev pub records_from : ℕ → Shape → List ℕ → Place → List Kept
records_from zero s journal p = []
records_from (suc n) s journal p = with_next (kept_at s journal p) (λ q. records_from n s journal q) (next_place s journal p)

-- what is looked at of the first head
abbrev pub first_head : List ℕ → List ℕ
first_head journal = take 28 journal

-- The records that are used of a journal beside a database whose header states this size of a page. From each place to the next
-- there is a byte at least, so there are no more places than bytes.
abbrev pub used_records : ℕ → List ℕ → List Kept
used_records stored journal =
    let s = shape stored (first_head journal) (length journal) in
    if is_used stored (first_head journal) (length journal)
    then records_from (length journal) s journal (place_after s (first_head journal) 0) else []
