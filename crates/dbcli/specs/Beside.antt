-- A file and the logs beside it: how they are read, and run.
use Rattle.std.specs.Prelude.{◌≡◌, ℕ, length, IfSome, ◌==◌, ◌&&◌, Bool, true, false, nat_lt, List, Option, Some, None, Result, Ok, Err, IsErr}
use Rattle.dblog.specs.Beside.{Beside, BesideLength, BesideStep, Both, beside}
use Rattle.dblog.specs.Indexes.{Indexed}
use Rattle.dblog.specs.Placed.{Located, placed, wal_pages}
use Rattle.dblog.specs.Reading.{ReadsLog}
use Rattle.dblog.specs.Rollbacks.{FindsJournal, Found, used_pages}
use Rattle.dblog.specs.declared.journal_error.JournalError.{JournalError}
use Rattle.dblog.specs.declared.journal_error.JournalError.TheVariants as journal_error
use Rattle.dblog.specs.declared.error.LogError.{LogError}
use Rattle.dblog.specs.declared.error.LogError.TheVariants as log_error
use Rattle.dbformat.specs.FixedPages.{geometry_of}
use Rattle.dbsource.specs.Changes.{Change}
use Rattle.dbsource.specs.Failures.{one_more}
use Rattle.dbsource.specs.HeaderBytes.{HeaderBytes}
use Rattle.dbsource.specs.Headers.{Opens}
use Rattle.dbsource.specs.Patched.{Over}
use Rattle.dbsource.specs.declared.error.OpenError.{OpenError}
use Rattle.dbsource.specs.declared.error.OpenError.TheVariants as opening
use Rattle.dbsource.specs.declared.error.RunError.{RunError}
use Rattle.dbsource.specs.declared.error.RunError.TheVariants.{ReadFailed, OutOfMemory}
use Rattle.dbsource.specs.declared.out.Out.{Ghosts as OutWords}
use Rattle.dbsource.specs.declared.source.ReadFailed.{ReadFailed as Unread}
use Rattle.dbsource.specs.declared.source.Source.{Ghosts as SourceWords}
use Rattle.dbcli.specs.ErrorLines.{error_line, unrun_line}
use Rattle.dbcli.specs.Exit.{EndsWithLine}
use Rattle.dbcli.specs.Finishing.{RunsInside}
use Rattle.dbcli.specs.Status.{exit_status}
use Rattle.dbcli.specs.Tasks.{DoesWith, changed_words}
use Rattle.dbcli.specs.declared.error_lines.Unrun.TheVariants.{Version, PageSize}
use Rattle.dbcli.specs.declared.task.Task.{Task}

-- the status and the line of a log that was not read
abbrev pub log_status : LogError → ℕ
log_status log_error.ReadFailed = exit_status (Err ReadFailed)
log_status (log_error.OutOfMemory refused) = exit_status (Err OutOfMemory)
log_status log_error.Version = 3

abbrev pub log_line : LogError → List ℕ
log_line log_error.ReadFailed = error_line ReadFailed
log_line (log_error.OutOfMemory refused) = error_line OutOfMemory
log_line log_error.Version = unrun_line Version

-- the error that ends a run where a journal was not read: one that is too long is none that can be read
abbrev pub journal_run_error : JournalError → RunError
journal_run_error journal_error.ReadFailed = ReadFailed
journal_run_error (journal_error.OutOfMemory refused) = OutOfMemory
journal_run_error journal_error.TooLong = ReadFailed

-- a header that is refused is left to the run
abbrev pub FitsError : OpenError → Result Bool Unread → Type 0
FitsError (opening.Refused why) r = r ≡ Ok true
FitsError opening.ReadFailed r = IsErr r

-- whether the header of the database states this size of a page, where it was read
abbrev pub FitsHeader : ℕ → Result HeaderBytes OpenError → Result Bool Unread → Type 0
FitsHeader size (Ok h) r = r ≡ Ok ((geometry_of h.bytes h.file_len).page_size == size)
FitsHeader size (Err e) r = FitsError e r

-- Whether the super-journal is there that a journal names, by what the system answers: it is not, if the journal names none.
abbrev pub IsSuperThere : (List ℕ → Bool → Type 0) → Option (List ℕ) → Bool → Type 0
IsSuperThere finds None there = there ≡ false
IsSuperThere finds (Some name) there = finds name there

-- the two as one
abbrev pub joined : {B L : Type 0} → Located → ℕ → B × L → Beside B L
joined pages len both = record { placed = placed pages len; base = both.0; log = both.1; past_end = 0 }

-- something of the log is used
abbrev pub is_used : Indexed → ℕ → Bool
is_used index len = nat_lt 0 index.pages && nat_lt 0 len

-- The header of a source was looked at, and the size of a page that it states was compared with this one.
pub record LooksAtHeader {S : Type 0} (source : SourceWords S) (size : ℕ) (r : Result Bool Unread) (old new : S) : Type 0 where
  pub header : Result HeaderBytes OpenError
  pub opens : Opens source.step source.lengths header (source.held old) (source.held new)
  pub fits : FitsHeader size header r

module _ {B L : Type 0} (base : SourceWords B) (log : SourceWords L) where
  -- a source over both
  abbrev pub both_words : SourceWords (Beside B L)
  both_words = record {
    held = λ s. beside s.placed s.past_end (base.held s.base) (log.held s.log);
    step = BesideStep base.step log.step;
    lengths = BesideLength;
  }

  -- The header of both as one, with these changes, was looked at.
  abbrev pub LooksWith : List Change → Result Bool Unread → Beside B L → Beside B L → Type 0
  LooksWith changes r old new = (left : Over (Beside B L)) × (left.source ≡ new)
      × LooksAtHeader (changed_words both_words) old.placed.page_size r (record { changes = changes; source = old }) left

module _ {S : Type 0} (source : SourceWords S) where
  -- a length that a source answered: that of its told bytes
  pub record HasLength (len : ℕ) (old : S) : Type 0 where
    pub answered : source.lengths (source.held old).trail len
    pub told : IfSome (source.held old).bytes (λ file. len ≡ length file)

  -- the length of the file, after its log was read
  abbrev pub MeasuresBase : Result Indexed LogError → Result (Indexed × ℕ) LogError → S → S → Type 0
  MeasuresBase (Err e) r old new = (r ≡ Err e) × (new ≡ old)
  MeasuresBase (Ok index) (Ok found) old new =
      (found.0 ≡ index) × HasLength found.1 old × (source.held new ≡ source.held old)
  MeasuresBase (Ok index) (Err e) old new =
      (e ≡ log_error.ReadFailed) × (source.held new ≡ (record (source.held old) { failures = one_more (source.held old).failures }))

module _ {B L : Type 0} (base : SourceWords B) (log : SourceWords L) where
  -- What was found of both: the log was read, once, in order, from its start, and then the length of the file was asked for.
  pub record FindsLog (r : Result (Indexed × ℕ) LogError) (old new : B × L) : Type 0 where
    pub index : Result Indexed LogError
    pub reads : ReadsLog log.step log.lengths index (log.held old.1) (log.held new.1)
    pub measured : MeasuresBase base index r old.0 new.0

module _ {O E : Type 0} (err : OutWords E) where
  -- Where there is no run: nothing was done to the first Out, and the second got this line, which was handed on, if it could be.
  pub record EndsSo (line : List ℕ) (old new : O × E) : Type 0 where
    pub first : new.0 ≡ old.0
    pub second : EndsWithLine line 2 (err.held old.1) (err.held new.1)

  -- What came after a header was looked at: the run, if it fits.
  abbrev pub RunsFitting : {X : Type 0} → (X × O × E → X × O × E → Type 0) → ℕ → Result Bool Unread → X × O × E → X × O × E → Type 0
  RunsFitting Ran status (Ok true) old new = Ran old new
  RunsFitting Ran status (Ok false) old new = (new.0 ≡ old.0) × (status ≡ 3) × EndsSo (unrun_line PageSize) (old.1, old.2) (new.1, new.2)
  RunsFitting Ran status (Err e) old new = (new.0 ≡ old.0) × (status ≡ 4) × EndsSo (error_line ReadFailed) (old.1, old.2) (new.1, new.2)

module _ {B L O E : Type 0} (base : SourceWords B) (log : SourceWords L) (out : OutWords O) (err : OutWords E) where
  -- A run of a file and its log as one, if the header fits.
  pub record RunsLogged (changes : List Change) (asked : Task) (status : ℕ) (old new : Beside B L × O × E) : Type 0 where
    pub fits : Result Bool Unread
    pub mid : Beside B L
    pub looked : LooksWith base log changes fits old.0 mid
    pub ran : RunsFitting err (RunsInside (both_words base log) out err changes (DoesWith (both_words base log) out err changes asked status) status)
        status fits (mid, old.1, old.2) new

  -- Where something of the log is used, both as one are run; else the file alone.
  abbrev pub RunsUsed : List Change → Task → ℕ → Bool → Indexed → ℕ → (B × L) × O × E → (B × L) × O × E → Type 0
  RunsUsed changes asked status true index len old new = (left : Beside B L) × (new.0 ≡ (left.base, left.log))
      × RunsLogged changes asked status (joined (wal_pages index) len old.0, old.1, old.2) (left, new.1, new.2)
  RunsUsed changes asked status false index len old new =
      RunsInside base out err changes (DoesWith base out err changes asked status) status (old.0.0, old.1, old.2) (new.0.0, new.1, new.2)
      × (new.0.1 ≡ old.0.1)

  abbrev pub RunsFound : List Change → Task → ℕ → Result (Indexed × ℕ) LogError → (B × L) × O × E → (B × L) × O × E → Type 0
  RunsFound changes asked status (Err e) old new =
      (new.0 ≡ old.0) × (status ≡ log_status e) × EndsSo err (log_line e) (old.1, old.2) (new.1, new.2)
  RunsFound changes asked status (Ok (index, len)) old new =
      (used : Bool) × (used ≡ is_used index len) × RunsUsed changes asked status used index len old new

  -- What became of a file and its write-ahead log.
  pub record RunsBeside (changes : List Change) (asked : Task) (status : ℕ) (old new : (B × L) × O × E) : Type 0 where
    pub found : Result (Indexed × ℕ) LogError
    pub mid : B × L
    pub looked : FindsLog base log found old.0 mid
    pub ran : RunsFound changes asked status found (mid, old.1, old.2) new

  -- What became of a file and of its write-ahead log, if it has one: of the file alone, or of both.
  abbrev pub RunsBase : List Change → Task → ℕ → (B × Option L) × O × E → (B × Option L) × O × E → Type 0
  RunsBase changes asked status ((file, None), o, e) ((left, None), p, f) =
      RunsInside base out err changes (DoesWith base out err changes asked status) status (file, o, e) (left, p, f)
  RunsBase changes asked status ((file, Some wal), o, e) ((left, Some rest), p, f) =
      RunsBeside changes asked status ((file, wal), o, e) ((left, rest), p, f)
  RunsBase changes asked status ((file, None), o, e) ((left, Some rest), p, f) = ⊥
  RunsBase changes asked status ((file, Some wal), o, e) ((left, None), p, f) = ⊥

module _ {S O E : Type 0} (source : SourceWords S) (out : OutWords O) (err : OutWords E) where
  -- A run of what a journal makes of a file, if the header fits; with the write-ahead log, if there is one.
  pub record RunsRolled (changes : List Change) (asked : Task) (status : ℕ) (old new : (Beside S S × Option S) × O × E) : Type 0 where
    pub fits : Result Bool Unread
    pub mid : Beside S S
    pub looked : LooksWith source source changes fits old.0.0 mid
    pub ran : RunsFitting err (RunsBase (both_words source source) source out err changes asked status) status fits
        ((mid, old.0.1), old.1, old.2) new

  -- Where the journal is rolled back, what it makes of the file is run; else the file as it is.
  abbrev pub RunsPages : List Change → Task → ℕ → Option Located → ℕ → (S × S × Option S) × O × E → (S × S × Option S) × O × E → Type 0
  RunsPages changes asked status (Some pages) len old new =
      (left : Beside S S × Option S) × (new.0 ≡ (left.0.base, left.0.log, left.1))
      × RunsRolled changes asked status ((joined pages len (old.0.0, old.0.1), old.0.2), old.1, old.2) (left, new.1, new.2)
  RunsPages changes asked status None len old new = (new.0.1 ≡ old.0.1)
      × RunsBase source source out err changes asked status ((old.0.0, old.0.2), old.1, old.2) ((new.0.0, new.0.2), new.1, new.2)

module _ {S O E : Type 0} (source : SourceWords S) (out : OutWords O) (err : OutWords E) (finds : List ℕ → Bool → Type 0) where
  abbrev pub RunsRollback : List Change → Task → ℕ → Result Found JournalError → (S × S × Option S) × O × E → (S × S × Option S) × O × E → Type 0
  RunsRollback changes asked status (Err e) old new = (new.0 ≡ old.0) × (status ≡ exit_status (Err (journal_run_error e)))
      × EndsSo err (error_line (journal_run_error e)) (old.1, old.2) (new.1, new.2)
  RunsRollback changes asked status (Ok found) old new = (there : Bool) × IsSuperThere finds found.name there
      × (pages : Option Located) × (pages ≡ used_pages there found) × RunsPages source out err changes asked status pages found.len old new

  -- What became of a file, its journal, and perhaps its write-ahead log.
  pub record RunsJournal (changes : List Change) (asked : Task) (status : ℕ) (old new : (S × S × Option S) × O × E) : Type 0 where
    pub found : Result Found JournalError
    pub mid : S × S
    pub looked : FindsJournal source.step source.lengths source.step source.lengths found
        (record { base = source.held old.0.0; log = source.held old.0.1 }) (record { base = source.held mid.0; log = source.held mid.1 })
    pub ran : RunsRollback changes asked status found ((mid.0, mid.1, old.0.2), old.1, old.2) new

  -- What became of what was opened: of the file, with the logs that there are.
  abbrev pub RunsFiles : List Change → Task → ℕ → S × Option S × Option S → S × Option S × Option S → O × E → O × E → Type 0
  RunsFiles changes asked status (base, None, wal) (left, None, rest) old new =
      RunsBase source source out err changes asked status ((base, wal), old.0, old.1) ((left, rest), new.0, new.1)
  RunsFiles changes asked status (base, Some journal, wal) (left, Some cold, rest) old new =
      RunsJournal changes asked status ((base, journal, wal), old.0, old.1) ((left, cold, rest), new.0, new.1)
  RunsFiles changes asked status (base, None, wal) (left, Some cold, rest) old new = ⊥
  RunsFiles changes asked status (base, Some journal, wal) (left, None, rest) old new = ⊥
