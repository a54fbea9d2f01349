-- Laws of logs.
use Rattle.std.specs.Prelude.{◌≡◌, ◌<◌, ◌⊎◌, ℕ, Bool, true, ◌||◌, not, List, [], Ok, length, map}
use Rattle.std.specs.List.{All, flat_map}
use Rattle.dbformat.specs.declared.ByteRange.{ByteRange}
use Rattle.dbsource.specs.Answers.{Fits, Step, asked}
use Rattle.dbsource.specs.Snapshots.{HasRead}
use Rattle.dbsource.specs.Sources.{SourceState}
use Rattle.dblog.specs.Beside.{AsksBoth, BesideLength, BesideStep, Both, beside, tolds, trails}
use Rattle.dblog.specs.Indexes.{Indexed, Indexes}
use Rattle.dblog.specs.Placed.{IsInOnePage, Placed, base_ranges, log_ranges, journal_pages, placed, placed_len, through, wal_pages}
use Rattle.dblog.specs.Recovered.{recovered, recovered_by_both, rolled_back, stored_size}
use Rattle.dblog.specs.JournalReading.{IsJournalOf, JournalIndexed}
use Rattle.dblog.specs.Journal.{names_super}

-- Beside a file that has bytes, a log of which something is used gives through its index what SQLite recovers.
abbrev pub IndexRecovers : Type 0
IndexRecovers = (index : Indexed) (base log : List ℕ) → Indexes index log → 0 < index.pages → 0 < length base
    → through (placed (wal_pages index) (length base)) base log ≡ recovered base log

-- Beside a file that has bytes, a journal that names no super-journal, or one that is there, and of which something is used gives through its
-- index what SQLite rolls back, where the size of a page that the file states was known when the journal was read.
abbrev pub JournalRollsBack : Type 0
JournalRollsBack = (there : Bool) (found : JournalIndexed) (base journal : List ℕ) → IsJournalOf (stored_size base) (Ok found) journal
    → 0 < length base → (there || not (names_super journal)) ≡ true
    → through (placed (journal_pages found) (length base)) base journal ≡ rolled_back there base journal

-- A log over a file over a journal, each through its index, gives what SQLite makes of all three, if the rolled back database has bytes.
abbrev pub BothLogsRecover : Type 0
BothLogsRecover = (there : Bool) (found : JournalIndexed) (index : Indexed) (base journal log : List ℕ)
    → IsJournalOf (stored_size base) (Ok found) journal → 0 < length base → (there || not (names_super journal)) ≡ true → Indexes index log → 0 < index.pages
    → 0 < placed_len (placed (journal_pages found) (length base))
    → let p = placed (journal_pages found) (length base) in
    through (placed (wal_pages index) (placed_len p)) (through p base journal) log ≡ recovered_by_both there base journal log

-- What a call read of a file and a log, by what it asked of the database, and what it answered.
pub record HasReadBoth (base_step log_step : Step) (p : Placed) (P : List ByteRange → Type 0) (Q : List ℕ → List ByteRange → Type 0)
    (old new : Both SourceState) : Type 0 where
  -- the ranges of the database that were asked for
  pub ranges : List ByteRange
  pub holds : P ranges
  -- what was asked of both, and what they answered
  pub asks : AsksBoth base_step log_step (tolds old) (trails old) (trails new)
  pub told_base : new.base.bytes ≡ old.base.bytes
  pub told_log : new.log.bytes ≡ old.log.bytes
  -- of ranges that lie in a page, just these ranges of the file and of the log, in their order
  pub of_base : All (IsInOnePage p) ranges → map asked asks.base ≡ flat_map (base_ranges p) ranges
  pub of_log : All (IsInOnePage p) ranges → map asked asks.log ≡ flat_map (log_ranges p) ranges
  -- The database has the length that was answered, or nothing was read.
  pub len : ℕ
  pub answered : (len ≡ placed_len p) ⊎ (ranges ≡ [])
  -- Of each file and each log that agree with what they answered, Q holds of what the log makes of the file.
  pub files : len ≡ placed_len p → (f g : List ℕ) → Fits f asks.base → Fits g asks.log → Q (through p f g) ranges

-- What a run over both as one read, it read of the file and of the log.
abbrev pub BothAreRead : Step → Step → (List ByteRange → Type 0) → (List ℕ → List ByteRange → Type 0) → Type 0
BothAreRead base_step log_step P Q = (p q : Placed) (m n : ℕ) (old new : Both SourceState)
    → HasRead (BesideStep base_step log_step) BesideLength P Q (beside p m old.base old.log) (beside q n new.base new.log)
    → HasReadBoth base_step log_step p P Q old new
