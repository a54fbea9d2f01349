-- What is found of a database and a rollback journal beside it, before anything is rolled back.
use Rattle.std.specs.Prelude.{◌≡◌, ℕ, Bool, ◌&&◌, ◌||◌, List, nat_lt, not, Option, Some, None, is_some, Result, Ok, Err, if◌then◌else◌}
use Rattle.dbsource.specs.Answers.{Lengths, Step}
use Rattle.dbsource.specs.Sources.{SourceState}
use Rattle.dbsource.specs.declared.source.ReadFailed.{ReadFailed as Unread}
use Rattle.dblog.specs.Beside.{Both}
use Rattle.dblog.specs.JournalReading.{JournalIndexed, ReadsJournal}
use Rattle.dblog.specs.Placed.{Located, journal_pages}
use Rattle.dblog.specs.Stated.{Measures, ReadsName}
use Rattle.dblog.specs.declared.cold.Cold.{Cold}
use Rattle.dblog.specs.declared.journal_error.JournalError.{JournalError}
use Rattle.dblog.specs.declared.journal_error.JournalError.TheVariants.{ReadFailed}

-- the length of the database; what is used of the journal, or why nothing is; and the super-journal that it then names, if it names one
pub record Found : Type 0 where
  pub len : ℕ
  pub journal : Result JournalIndexed Cold
  pub name : Option (List ℕ)

-- where a journal has its pages, if something of it is used
abbrev pub pages_of : Result JournalIndexed Cold → Option Located
pages_of (Ok journal) = Some (journal_pages journal)
pages_of (Err why) = None

-- where it has them, if it is rolled back: one that names a super-journal is only where that is there
abbrev pub used_pages : Bool → Found → Option Located
used_pages there found = if nat_lt 0 found.len && (there || not (is_some found.name)) then pages_of found.journal else None

-- The name that it has was asked for where something of it is used.
abbrev pub AsksName : Step → ℕ → Result (Result JournalIndexed Cold) JournalError → Result Found JournalError → SourceState → SourceState → Type 0
AsksName step len (Err e) r old new = (r ≡ Err e) × (new ≡ old)
AsksName step len (Ok (Err why)) r old new = (r ≡ Ok (record { len = len; journal = Err why; name = None })) × (new ≡ old)
AsksName step len (Ok (Ok journal)) (Ok found) old new = (found.len ≡ len) × (found.journal ≡ Ok journal)
    × ReadsName {E = Unread} step journal.shape.len (Ok found.name) old new
AsksName step len (Ok (Ok journal)) (Err e) old new = (e ≡ ReadFailed) × (why : Unread) × ReadsName step journal.shape.len (Err why) old new

-- The journal was read, once, in order, from its start; and then perhaps its last bytes.
pub record ReadsNamed (step : Step) (lengths : Lengths) (len stored : ℕ) (r : Result Found JournalError) (old new : SourceState) : Type 0 where
  pub journal : Result (Result JournalIndexed Cold) JournalError
  pub between : SourceState
  pub reads : ReadsJournal step lengths stored journal old between
  pub name : AsksName step len journal r between new

-- beside a database of this length and stored size of a page, if these were read
abbrev pub ReadsAfter : Step → Lengths → Result (ℕ × ℕ) Unread → Result Found JournalError → SourceState → SourceState → Type 0
ReadsAfter step lengths (Err e) r old new = (r ≡ Err ReadFailed) × (new ≡ old)
ReadsAfter step lengths (Ok (len, stored)) r old new = ReadsNamed step lengths len stored r old new

-- What was found of both: the length of the database and the size that it states were asked for, and then the journal was read.
pub record FindsJournal (base_step : Step) (base_lengths : Lengths) (log_step : Step) (log_lengths : Lengths) (r : Result Found JournalError)
    (old new : Both SourceState) : Type 0 where
  pub size : Result (ℕ × ℕ) Unread
  pub measures : Measures base_step base_lengths size old.base new.base
  pub reads : ReadsAfter log_step log_lengths size r old.log new.log
