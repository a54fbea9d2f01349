-- What is kept of the frames of a log that were looked at.
use Rattle.std.specs.Prelude.{◌≡◌, ℕ, ◌+◌, ◌<◌, ◌≤◌, ◌^◌, Bool, true, false, List, [], ◌∷◌, ◌++◌, drop, length, map, if◌then◌else◌}
use Rattle.std.specs.List.{filter}
use Rattle.dblog.specs.Entries.{Gathers}
use Rattle.dblog.specs.Sums.{sums_at}
use Rattle.dblog.specs.Wal.{commits, committed, has_salts, page_number, pages_after, stated_pages, valid_frames}
use Rattle.dblog.specs.declared.entry.Entry.{Entry}
use Rattle.dblog.specs.declared.sums.Sums.{Sums}

pub record Scanned : Type 0 where
  -- the sums of the last valid frame, and whether each frame was valid
  pub before : Sums
  pub is_open : Bool
  -- how many frames are valid, and how many of these are committed
  pub frames : ℕ
  pub committed : ℕ
  -- the pages that the last commit states, and how many commits there are
  pub pages : ℕ
  pub transactions : ℕ
  -- how many frames after the first that is not valid have the log's salts
  pub later : ℕ
  pub entries : List Entry

-- What was looked at of a log with the header h: some valid frames, and then some after those. What the valid frames of the log
-- are does not depend on these any more than it says.
pub record Scans (h : List ℕ) (s : Scanned) (done : List (List ℕ)) : Type 0 where
  pub kept : List (List ℕ)
  pub passed : List (List ℕ)
  pub whole : done ≡ kept ++ passed
  pub unbroken : s.is_open ≡ true → passed ≡ []
  pub broken : s.is_open ≡ false → 0 < length passed
  pub goes_on : (more : List (List ℕ)) → valid_frames h (sums_at 24 h) (done ++ more)
      ≡ (if s.is_open then kept ++ valid_frames h s.before more else kept)
  pub frames : s.frames ≡ length kept
  pub gathers : Gathers s.entries (map page_number kept) s.committed
  pub committed : s.committed ≡ length (committed kept)
  pub pages : s.pages ≡ stated_pages kept
  pub transactions : s.transactions ≡ length (filter commits kept)
  pub later : s.later ≡ length (filter (has_salts h) (drop 1 passed))

-- n more frames can be counted
pub record HasRoom (n : ℕ) (s : Scanned) : Type 0 where
  pub frames : s.frames + n < 2 ^ 32
  pub transactions : s.transactions + n < 2 ^ 32
  pub later : s.later + n < 2 ^ 32

-- a valid frame more
pub record Adds (f : List ℕ) (old new : Scanned) : Type 0 where
  pub before : new.before ≡ sums_at 16 f
  pub is_open : new.is_open ≡ old.is_open
  pub frames : new.frames ≡ old.frames + 1
  pub committed : new.committed ≡ (if commits f then old.frames + 1 else old.committed)
  pub pages : new.pages ≡ (if commits f then pages_after f else old.pages)
  pub transactions : new.transactions ≡ (if commits f then old.transactions + 1 else old.transactions)
  pub later : new.later ≡ old.later
  pub gathers : (pages : List ℕ) → length pages ≡ old.frames → old.committed ≤ old.frames → Gathers old.entries pages old.committed
      → Gathers new.entries (pages ++ page_number f ∷ []) new.committed

-- a frame more after one that was not valid
abbrev pub passed : List ℕ → List ℕ → Scanned → Scanned
passed h f s = record s { later = if has_salts h f then s.later + 1 else s.later }

-- What a call made of a scan: after these frames it has looked at those too, and has counted at most as many.
pub record LooksAt (h : List ℕ) (frames : List (List ℕ)) (old new : Scanned) : Type 0 where
  pub scans : (done : List (List ℕ)) → Scans h old done → Scans h new (done ++ frames)
  pub room : (n : ℕ) → HasRoom (n + length frames) old → HasRoom n new
