-- How a rollback journal is read: once, in order, from its start.
use Rattle.std.specs.Prelude.{◌≡◌, ℕ, ◌+◌, ◌*◌, ◌/◌, ◌%◌, ◌^◌, ◌<◌, ◌≤◌, Bool, true, false, List, [], ◌∷◌, ◌++◌, length, nat_le, slice_index}
use Rattle.std.specs.Prelude.{◌⊎◌, IfErr, IfOk, IfSome, OnOk, Option, Some, None, Result, Ok, Err, map, if◌then◌else◌}
use Rattle.std.specs.List.{All, Any}
use Rattle.dbsource.specs.Answers.{Answer, Fits, IsRangeOf, Leads, Lengths, Step, asked}
use Rattle.dbsource.specs.Failures.{failures_after}
use Rattle.dbsource.specs.Sources.{SourceState}
use Rattle.dbformat.specs.Numbers.{u32_at}
use Rattle.dblog.specs.Entries.{Gathering, Gathers, IsIndexOf}
use Rattle.dblog.specs.Journal.{Kept, first_head, is_used, next_place, place_after, records_from, shape, used_records, why_cold}
use Rattle.dblog.specs.Reading.{InOrder, Reads}
use Rattle.dblog.specs.declared.cold.Cold.{Cold}
use Rattle.dblog.specs.declared.entry.Entry.{Entry}
use Rattle.dblog.specs.declared.journal_error.JournalError.{JournalError}
use Rattle.dblog.specs.declared.journal_error.JournalError.TheVariants.{OutOfMemory, ReadFailed, TooLong}
use Rattle.dblog.specs.declared.journal.Place.{Place}
use Rattle.dblog.specs.declared.journal.Shape.{Shape}

-- whether the source failed
abbrev pub is_failed : JournalError → Bool
is_failed ReadFailed = true
is_failed (OutOfMemory refused) = false
is_failed TooLong = false

abbrev pub has_failed : {X : Type 0} → Result X JournalError → Bool
has_failed (Ok x) = false
has_failed (Err e) = is_failed e

-- What was gathered at a place, from this record: it is that of the unit of eight bytes where it begins.
pub record IsKept (s : Shape) (seen : List ℕ) (p : Place) (before after : Gathering) : Type 0 where
  pub size : length seen ≡ s.page_size + 8
  pub some : 0 < u32_at 0 seen
  pub committed : after.committed ≡ p.at / 8 + 1
  pub gathers : (pages : List ℕ) → length pages ≡ p.at / 8 → before.committed ≤ p.at / 8 → Gathers before.entries pages before.committed
      → Gathers after.entries (pages ++ u32_at 0 seen ∷ []) (p.at / 8 + 1)

-- What reading these bytes from byte `at` on makes of a journal of `len` bytes: they are read where the journal has them.
pub record ReadsWithin (step : Step) (len at : ℕ) (r : Result Bool JournalError) (piece : List ℕ) (old new : SourceState) : Type 0 where
  pub seen : List ℕ
  pub reads : Reads step at (has_failed r) old new seen
  pub within : reads.end ≤ len
  pub short : at + length seen ≤ len
  pub whole : IfOk r (λ b. (b ≡ nat_le (at + length piece) len) × (seen ≡ (if b then piece else [])))
  -- no length is looked at
  pub unmeasured : IfErr r (λ e. ¬ (e ≡ TooLong))

-- what was found from place p on, by these bytes: q is the next place, or there is none
pub record IsFound (s : Shape) (seen : List ℕ) (p q : Place) (b : Bool) : Type 0 where
  pub next : (file : List ℕ) → length file ≡ s.len → IsRangeOf file p.at seen → next_place s file p ≡ (if b then Some q else None)
  pub further : b ≡ true → q.at ≡ p.at + length seen
  pub moves : b ≡ true → 0 < length seen
  pub eighth : b ≡ true → p.at % 8 ≡ 0 → q.at % 8 ≡ 0

-- What looking for the next place makes of a source.
pub record FindsPlace (step : Step) (s : Shape) (r : Result Bool JournalError) (old new : SourceState) (p q : Place) : Type 0 where
  pub seen : List ℕ
  pub reads : Reads step p.at (has_failed r) old new seen
  pub within : reads.end ≤ s.len
  pub short : p.at + length seen ≤ s.len
  pub found : IfOk r (IsFound s seen p q)
  pub unmeasured : IfErr r (λ e. ¬ (e ≡ TooLong))

-- or there was no record
abbrev pub WasKept : Shape → List ℕ → Place → Gathering → Gathering → Bool → Type 0
WasKept s seen p before after true = IsKept s seen p before after
WasKept s seen p before after false = after ≡ before

-- What looking for the next record makes of a source, and of what was gathered.
pub record KeepsRecord (step : Step) (s : Shape) (r : Result Bool JournalError) (old new : SourceState) (p q : Place) (before after : Gathering) : Type 0 where
  pub finds : FindsPlace step s r old new p q
  pub kept : IfOk r (WasKept s finds.seen p before after)

-- What looking for the next place, of whichever kind, makes of both.
pub record MovesOn (step : Step) (s : Shape) (r : Result Bool JournalError) (old new : SourceState) (p q : Place) (before after : Gathering) : Type 0 where
  pub finds : FindsPlace step s r old new p q
  pub between : p.left ≡ 0 → after ≡ before
  pub kept : 0 < p.left → IfOk r (WasKept s finds.seen p before after)

-- The unit of eight bytes at which a page's record begins: unit k of these is that of page k of the list, or of none, where there is 0.
pub record AreUnits (pages : List ℕ) (kept : List Kept) : Type 0 where
  pub named : (k : ℕ) → k < length pages → 0 < slice_index pages k → Any (λ r. (r.page ≡ slice_index pages k) × (r.at ≡ 8 * k)) kept
  pub all : All (λ r. (0 < r.page) × (k : ℕ) × (k < length pages) × (r.at ≡ 8 * k) × (slice_index pages k ≡ r.page)) kept

-- the records begin at units before this one
abbrev pub AreBefore : List ℕ → ℕ → Type 0
AreBefore pages count = (k : ℕ) → k < length pages → 0 < slice_index pages k → k < count

-- What was gathered of these records.
pub record GathersRecords (entries : Gathering) (kept : List Kept) : Type 0 where
  pub pages : List ℕ
  pub units : AreUnits pages kept
  pub before : AreBefore pages entries.committed
  pub least : entries.committed ≤ length pages
  pub gathers : Gathers entries.entries pages entries.committed

-- What reading all that comes after the first head makes of a source, and of what was gathered: it is what is used.
pub record ReadsPlaces {X : Type 0} (step : Step) (s : Shape) (r : Result X JournalError) (old new : SourceState) (first : Place) (before after : Gathering)
    : Type 0 where
  pub seen : List ℕ
  pub reads : Reads step first.at (has_failed r) old new seen
  pub within : reads.end ≤ s.len
  pub short : first.at + length seen ≤ s.len
  pub kept : List Kept
  pub all : OnOk r ((file : List ℕ) → length file ≡ s.len → IsRangeOf file first.at seen → records_from s.len s file first ≡ kept)
  pub gathered : OnOk r (Gathers before.entries [] 0 → before.committed ≡ 0 → GathersRecords after kept)
  pub unmeasured : IfErr r (λ e. ¬ (e ≡ TooLong))

-- the index of these records: each entry names the unit where a record of its page begins, and no record of its page begins after that
pub record IndexesRecords (entries : List Entry) (kept : List Kept) : Type 0 where
  pub pages : List ℕ
  pub units : AreUnits pages kept
  pub index : IsIndexOf entries pages

-- What reading what comes after the 28 bytes h makes of a journal.
pub record ReadsRecords {X : Type 0} (step : Step) (s : Shape) (h : List ℕ) (r : Result X JournalError) (entries : X → List Entry) (old new : SourceState)
    : Type 0 where
  pub seen : List ℕ
  pub reads : Reads step 28 (has_failed r) old new seen
  pub within : reads.end ≤ s.len
  pub short : 28 + length seen ≤ s.len
  pub indexes : IfOk r (λ x. (file : List ℕ) → length file ≡ s.len → IsRangeOf file 28 seen
      → IndexesRecords (entries x) (records_from s.len s file (place_after s h 0)))
  pub unmeasured : IfErr r (λ e. ¬ (e ≡ TooLong))

-- what is known of a journal of which something is used: its shape, and the index of its records
pub record JournalIndexed : Type 0 where
  pub shape : Shape
  pub entries : List Entry

-- this is what is used of that journal, or why nothing is, beside a database whose header states this size of a page
abbrev pub IsJournalOf : ℕ → Result JournalIndexed Cold → List ℕ → Type 0
IsJournalOf stored (Err why) journal = (is_used stored (first_head journal) (length journal) ≡ false)
    × (why ≡ why_cold (first_head journal) (length journal))
IsJournalOf stored (Ok found) journal = (is_used stored (first_head journal) (length journal) ≡ true)
    × (found.shape ≡ shape stored (first_head journal) (length journal)) × IndexesRecords found.entries (used_records stored journal)

-- What the reading of a journal makes of its source. There is a length, which the source answered, unless it failed at that. What was asked for
-- is the journal, once, in order, from its start. There is a journal of this length that agrees with the answers; the result is right
-- for each; and told bytes are one.
pub record ReadsJournal (step : Step) (lengths : Lengths) (stored : ℕ) (r : Result (Result JournalIndexed Cold) JournalError) (old new : SourceState)
    : Type 0 where
  pub len : ℕ
  pub log : List Answer
  pub leads : Leads step old.trail log new.trail
  pub told : new.bytes ≡ old.bytes
  pub answered : lengths old.trail len ⊎ ((r ≡ Err ReadFailed) × (log ≡ []))
  pub end : ℕ
  pub in_order : InOrder 0 end (map asked log)
  pub within : end ≤ len
  pub there_is : (file : List ℕ) × (length file ≡ len) × Fits file log
  pub files : (file : List ℕ) → length file ≡ len → Fits file log → IfOk r (λ found. IsJournalOf stored found file)
  pub tells : IfSome old.bytes (λ file. (length file ≡ len) × Fits file log)
  -- none shorter than 32 GiB is too long
  pub long : IfErr r (λ e. e ≡ TooLong → 2 ^ 35 ≤ len)
  pub count : new.failures ≡ failures_after is_failed r old.failures

-- the same of the bytes after the first 28, in a journal of `len` bytes
pub record ReadsAfterHead (step : Step) (h : List ℕ) (len stored : ℕ) (r : Result (Result JournalIndexed Cold) JournalError) (old new : SourceState)
    : Type 0 where
  pub seen : List ℕ
  pub reads : Reads step 28 (has_failed r) old new seen
  pub within : reads.end ≤ len
  pub short : 28 + length seen ≤ len
  pub files : (file : List ℕ) → length file ≡ len → first_head file ≡ h → IsRangeOf file 28 seen → IfOk r (λ found. IsJournalOf stored found file)
  pub unmeasured : IfErr r (λ e. ¬ (e ≡ TooLong))
