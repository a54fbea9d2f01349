-- What is known of a log after it was read.
use Rattle.std.specs.Prelude.{◌≡◌, ℕ, ◌+◌, ◌*◌, List, drop, length, map, nat_lt, Option, Some, None, if◌then◌else◌, IsTrue}
use Rattle.std.specs.List.{filter}
use Rattle.dblog.specs.Entries.{IsIndexOf}
use Rattle.dblog.specs.Sums.{sums_at}
use Rattle.dblog.specs.Wal.{commits, committed, frame_size, frames, has_salts, header}
use Rattle.dblog.specs.Wal.{is_header, page_number, page_size, stated_pages, used, valid, valid_frames}
use Rattle.dblog.specs.declared.entry.Entry.{Entry}
use Rattle.dblog.specs.declared.index.Counts.{Counts}

-- an index: the size of a page, the pages of the recovered database, or 0 if nothing of the log is used, the entries, and the counts
pub record Indexed : Type 0 where
  pub page_size : ℕ
  pub pages : ℕ
  pub entries : List Entry
  pub counts : Counts

-- where the first frame begins that is not valid, if the log goes on there
abbrev pub broken_at : List ℕ → ℕ → ℕ → Option ℕ
broken_at h count len = let end = 32 + frame_size h * count in if nat_lt end len then Some end else None

-- The counts of a log of `len` bytes with these frames, of which these are valid: the valid frames, those that are committed, the
-- transactions, the frames after the first that is not valid that have the log's salts, and where that one begins.
abbrev pub counts_of : List ℕ → ℕ → List (List ℕ) → List (List ℕ) → Counts
counts_of h len all good = record {
  frames = length good;
  committed = length (committed good);
  transactions = length (filter commits good);
  later = length (filter (has_salts h) (drop (length good + 1) all));
  broken = broken_at h (length good) len;
}

-- those of a file that is no log
abbrev pub no_counts : Counts
no_counts = record { frames = 0; committed = 0; transactions = 0; later = 0; broken = None }

abbrev pub counts : List ℕ → Counts
counts log = if is_header (header log) then counts_of (header log) (length log) (frames (header log) log) (valid log) else no_counts

-- this is the index of that log
pub record Indexes (index : Indexed) (log : List ℕ) : Type 0 where
  pub page_size : IsTrue (is_header (header log)) → index.page_size ≡ page_size (header log)
  pub pages : index.pages ≡ stated_pages (used log)
  pub entries : IsIndexOf index.entries (map page_number (used log))
  pub counts : index.counts ≡ counts log

-- the same of some frames of a log of `len` bytes with the header h
pub record IndexesFrames (h : List ℕ) (len : ℕ) (index : Indexed) (all : List (List ℕ)) : Type 0 where
  pub page_size : index.page_size ≡ page_size h
  pub pages : index.pages ≡ stated_pages (committed (valid_frames h (sums_at 24 h) all))
  pub entries : IsIndexOf index.entries (map page_number (committed (valid_frames h (sums_at 24 h) all)))
  pub counts : index.counts ≡ counts_of h len all (valid_frames h (sums_at 24 h) all)
