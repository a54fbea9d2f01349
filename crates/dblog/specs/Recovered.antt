-- The database that a write-ahead log (Database File Format, 4.3 and 4.4) and a rollback journal (3) leave: byte by byte.
use Rattle.std.specs.Prelude.{ℕ, ◌+◌, ◌*◌, ◌/◌, ◌%◌, ◌==◌, Bool, ◌&&◌, ◌||◌, not, List, drop, take, length, map, nat_lt, slice_index, Option, Some, None}
use Rattle.std.specs.Prelude.{if◌then◌else◌}
use Rattle.std.specs.List.{fold, range_with_len}
use Rattle.dbformat.specs.Numbers.{u16_at}
use Rattle.dblog.specs.Journal.{Kept, first_head, is_used, names_super, shape, used_records}
use Rattle.dblog.specs.Wal.{header, page_number, page_size, stated_pages, used}
use Rattle.dblog.specs.declared.journal.Shape.{Shape}

-- of these the last of a page, if there is one
abbrev pub last_of : {X : Type 0} → (X → ℕ) → ℕ → List X → Option X
last_of page_of page xs = fold (λ found x. if page_of x == page then Some x else found) None xs

-- ---- the write-ahead log

-- byte i of a database: of the page in this frame, if there is one, or else of the file, and 0 past its end
abbrev pub byte_from : List ℕ → ℕ → Option (List ℕ) → ℕ → ℕ
byte_from db size (Some f) i = slice_index f (24 + i % size)
byte_from db size None i = slice_index db i

-- byte i of a database whose pages have this size, after these frames
abbrev pub recovered_byte : List ℕ → ℕ → List (List ℕ) → ℕ → ℕ
recovered_byte db size fs i = byte_from db size (last_of page_number (i / size + 1) fs) i

-- The database that this file is with this log. It is the file, if that has no bytes, or if nothing of the log is used. Else it has the
-- pages that the last used frame states, and each page is that of its last used frame, or that of the file, with zeros past its end.
abbrev pub recovered : List ℕ → List ℕ → List ℕ
recovered db log =
    if (length db == 0) || (stated_pages (used log) == 0) then db
    else map (recovered_byte db (page_size (header log)) (used log)) (range_with_len 0 (stated_pages (used log) * page_size (header log)))

-- ---- the rollback journal

-- the size of a page that two bytes of a header state: 1 is 65536
abbrev pub size_in : List ℕ → ℕ
size_in two = if u16_at 0 two == 1 then 65536 else u16_at 0 two

-- the one that the header of a database states, at byte 16 (1.3.2), or 0 where the file ends before
abbrev pub stored_size : List ℕ → ℕ
stored_size db = if nat_lt (length db) 18 then 0 else size_in (take 2 (drop 16 db))

-- what the first head of a journal says beside a database
abbrev pub shape_beside : List ℕ → List ℕ → Shape
shape_beside db journal = shape (stored_size db) (first_head journal) (length journal)

-- Whether a journal is rolled back. It has to be hot: both files have bytes, and its first byte is not 0; its magic begins with another.
-- Its first head has to be one. And if it names a super-journal, that has to be there.
abbrev pub is_rolled_back : Bool → List ℕ → List ℕ → Bool
is_rolled_back there db journal =
    nat_lt 0 (length db) && ((there || not (names_super journal)) && is_used (stored_size db) (first_head journal) (length journal))

-- byte i of a database: of the page in this record, if there is one, or else of the file, and 0 past its end
abbrev pub byte_before : List ℕ → List ℕ → ℕ → Option Kept → ℕ → ℕ
byte_before db journal size (Some r) i = slice_index journal (r.at + 4 + i % size)
byte_before db journal size None i = slice_index db i

-- byte i of a database whose pages have this size, by these records of a journal
abbrev pub rolled_byte : List ℕ → List ℕ → ℕ → List Kept → ℕ → ℕ
rolled_byte db journal size records i = byte_before db journal size (last_of (λ r. r.page) (i / size + 1) records) i

-- The database that this file was before the transaction of this journal. It is the file, if the journal is not rolled back. Else it has
-- the pages that the first head states, and each page is that of its last used record, or that of the file, with zeros past its end.
abbrev pub rolled_back : Bool → List ℕ → List ℕ → List ℕ
rolled_back there db journal =
    let s = shape_beside db journal in
    if is_rolled_back there db journal
    then map (rolled_byte db journal s.page_size (used_records (stored_size db) journal)) (range_with_len 0 (s.pages * s.page_size)) else db

-- ---- both

-- the database that SQLite makes of a file with both: first it is rolled back, and then its log is read
abbrev pub recovered_by_both : Bool → List ℕ → List ℕ → List ℕ → List ℕ
recovered_by_both there db journal log = recovered (rolled_back there db journal) log
