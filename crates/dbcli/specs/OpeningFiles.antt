-- A file and its logs: how they are opened, and given back.
use Rattle.std.specs.Prelude.{◌≡◌, Bool, true, false, List, ℕ, codes, Option, Some, None, Result, Ok, Err}
use Rattle.dbcli.specs.declared.log.Log.{Log}
use Rattle.dbcli.specs.declared.log.Log.TheVariants.{Journal, Wal}
use Rattle.dbsource.specs.declared.error.RunError.{RunError}
use Rattle.dbsource.specs.declared.error.RunError.TheVariants.{ReadFailed}
use Rattle.dbsource.specs.declared.source.ReadFailed.{ReadFailed as Unread}

-- what the name of a log has after that of its database
abbrev pub suffix_of : Log → List ℕ
suffix_of Journal = codes "-journal"
suffix_of Wal = codes "-wal"

module _ {F S : Type 0} (opens : F → List ℕ → Result S Unread → F → Type 0)
    (opens_log : F → List ℕ → Log → Result (Option S) RunError → F → Type 0) (closes : F → S → F → Type 0) where
  -- A log is given back, if there is one.
  abbrev pub ClosesLog : Option S → F → F → Type 0
  ClosesLog None old new = new ≡ old
  ClosesLog (Some log) old new = closes old log new

  -- What became of a journal that was opened, after the write-ahead log was opened too: where that failed, it was given back.
  abbrev pub KeepsLogs : Option S → Result (Option S) RunError → Result (Option S × Option S) RunError → F → F → Type 0
  KeepsLogs journal (Ok wal) r old new = (r ≡ Ok (journal, wal)) × (new ≡ old)
  KeepsLogs journal (Err e) r old new = (r ≡ Err e) × ClosesLog journal old new

  -- The write-ahead log was opened after the journal, once.
  abbrev pub OpensWal : List ℕ → Result (Option S) RunError → Result (Option S × Option S) RunError → F → F → Type 0
  OpensWal path (Err e) r old new = (r ≡ Err e) × (new ≡ old)
  OpensWal path (Ok journal) r old new =
      (wal : Result (Option S) RunError) × (mid : F) × opens_log old path Wal wal mid × KeepsLogs journal wal r mid new

  -- Both logs were opened, once each: the journal, and then the write-ahead log.
  pub record OpensLogs (path : List ℕ) (r : Result (Option S × Option S) RunError) (old new : F) : Type 0 where
    pub journal : Result (Option S) RunError
    pub between : F
    pub opened : opens_log old path Journal journal between
    pub wal : OpensWal path journal r between new

  -- What became of a file that was opened, after its logs were opened too: where that failed, it was given back.
  abbrev pub KeepsAll : S → Result (Option S × Option S) RunError → Result (S × Option S × Option S) RunError → F → F → Type 0
  KeepsAll base (Ok (journal, wal)) r old new = (r ≡ Ok (base, journal, wal)) × (new ≡ old)
  KeepsAll base (Err e) r old new = (r ≡ Err e) × closes old base new

  -- The logs were opened after the file, if the line asks for them.
  abbrev pub OpensBeside : Bool → List ℕ → Result S Unread → Result (S × Option S × Option S) RunError → F → F → Type 0
  OpensBeside recovered path (Err e) r old new = (r ≡ Err ReadFailed) × (new ≡ old)
  OpensBeside false path (Ok base) r old new = (r ≡ Ok (base, None, None)) × (new ≡ old)
  OpensBeside true path (Ok base) r old new =
      (logs : Result (Option S × Option S) RunError) × (mid : F) × OpensLogs path logs old mid × KeepsAll base logs r mid new

  -- What was opened of a path: the file, once, and then perhaps its logs, and nothing else.
  pub record OpensFiles (recovered : Bool) (path : List ℕ) (r : Result (S × Option S × Option S) RunError) (old new : F) : Type 0 where
    pub base : Result S Unread
    pub between : F
    pub opened : opens old path base between
    pub logs : OpensBeside recovered path base r between new

  -- What was opened is given back: the file, and then its logs, in the order in which they were opened.
  pub record ClosesFiles (opened : S × Option S × Option S) (old new : F) : Type 0 where
    pub first : F
    pub second : F
    pub base : closes old opened.0 first
    pub journal : ClosesLog opened.1 first second
    pub wal : ClosesLog opened.2 second new
