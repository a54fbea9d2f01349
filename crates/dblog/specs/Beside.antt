-- A source over two: a file, and a log beside it.
use Rattle.std.specs.Prelude.{◌≡◌, ℕ, ◌+◌, ◌%◌, ◌^◌, ◌≤◌, ◌<◌, Bool, true, false, ◌||◌, List, [], ◌∷◌, ◌++◌, length, map}
use Rattle.std.specs.Prelude.{Option, Some, None, IfSome, Result, OnOk, OnErr, slice_index}
use Rattle.std.specs.List.{list_any}
use Rattle.dbformat.specs.Log.{range}
use Rattle.dbformat.specs.declared.ByteRange.{ByteRange}
use Rattle.dbsource.specs.Answers.{Answer, Fits, FitsAnswer, Front, Leads, Step, Trail, answer, asked, changed_by, failed, given}
use Rattle.dbsource.specs.Changes.{Change}
use Rattle.dbsource.specs.Failures.{CountsAfter, failures_after, is_any}
use Rattle.dbsource.specs.Sources.{SourceState}
use Rattle.dblog.specs.Placed.{IsInOnePage, Placed, base_ranges, log_ranges, padded_byte, placed_len, padded_ranges, through}
use Rattle.dblog.specs.declared.entry.Entry.{Entry}

-- the two, where the pages are, and how many reads failed since they passed the end
pub record Beside (B L : Type 0) : Type 0 where
  pub placed : Placed
  pub base : B
  pub log : L
  pub past_end : ℕ

-- one of each
pub record Both (X : Type 0) : Type 0 where
  pub base : X
  pub log : X

-- ---- what it keeps

-- A trail has one list of fronts and one of ranges. So both trails are kept in one, the file's before the log's, after two fronts that say
-- where the pages are, how many fronts and ranges are the file's, and the told bytes of both. Numbers stand as changes in them.
abbrev pub numbers : ℕ → List ℕ → Change
numbers first rest = record { offset = first; bytes = rest }

abbrev pub entry_numbers : Entry → Change
entry_numbers e = numbers e.page (e.frame ∷ [])

abbrev pub placed_numbers : Placed → List Change
placed_numbers p = numbers p.page_size (p.pages ∷ p.first ∷ p.stride ∷ p.base_len ∷ []) ∷ map entry_numbers p.entries

abbrev pub both_fronts : Placed → Both (Option (List ℕ)) → Both Trail → List Front
both_fronts p told t =
    changed_by (placed_numbers p) told.base
    ∷ changed_by (numbers (length t.base.fronts) (length t.base.ranges ∷ []) ∷ []) told.log
    ∷ (t.base.fronts ++ t.log.fronts)

abbrev pub both_trails : Placed → Both (Option (List ℕ)) → Both Trail → Trail
both_trails p told t = record { fronts = both_fronts p told t; ranges = t.base.ranges ++ t.log.ranges }

-- the told bytes of the database, where both have some
abbrev pub told_through : Placed → Option (List ℕ) → Option (List ℕ) → Option (List ℕ)
told_through p (Some base) (Some log) = Some (through p base log)
told_through p (Some base) None = None
told_through p None log = None

-- how many calls failed: of the file, of the log, and reads that passed the end
abbrev pub both_failures : ℕ → ℕ → ℕ → ℕ
both_failures base log past_end = (base + log + past_end) % 2 ^ 64

abbrev pub beside : Placed → ℕ → SourceState → SourceState → SourceState
beside p past_end base log = record {
  bytes = told_through p base.bytes log.bytes;
  trail = both_trails p (record { base = base.bytes; log = log.bytes }) (record { base = base.trail; log = log.trail });
  failures = both_failures base.failures log.failures past_end;
}

-- the two as a source, by what each of them is as one
abbrev pub both_held : {B L : Type 0} → (B → SourceState) → (L → SourceState) → Beside B L → SourceState
both_held base log s = beside s.placed s.past_end (base s.base) (log s.log)

-- ---- what a read makes of it

-- it is for a range that could not be read
abbrev pub is_failed : Answer → Bool
is_failed (given offset bytes) = false
is_failed (failed r) = true

-- What the file and the log were asked for a range: of one that lies in a page just these ranges.
pub record AreAskedFor (p : Placed) (r : ByteRange) (base log : List ByteRange) : Type 0 where
  pub of_base : IsInOnePage p r → base ≡ base_ranges p r
  pub of_log : IsInOnePage p r → log ≡ log_ranges p r

-- a range that lies in the database fails only where one of these does
abbrev pub FailsBy : Placed → Answer → List Answer → List Answer → Type 0
FailsBy p (given offset bytes) base log = Unit {0}
FailsBy p (failed r) base log = r.offset + r.len ≤ placed_len p → (list_any is_failed base || list_any is_failed log) ≡ true

-- What was asked of both, and what they answered: told bytes agree with it.
pub record AsksBoth (base_step log_step : Step) (told : Both (Option (List ℕ))) (old new : Both Trail) : Type 0 where
  pub base : List Answer
  pub log : List Answer
  pub leads_base : Leads base_step old.base base new.base
  pub leads_log : Leads log_step old.log log new.log
  pub tells_base : IfSome told.base (λ f. Fits f base)
  pub tells_log : IfSome told.log (λ f. Fits f log)

-- the told bytes of both, their trails, and how many of their calls failed
abbrev pub tolds : Both SourceState → Both (Option (List ℕ))
tolds s = record { base = s.base.bytes; log = s.log.bytes }

abbrev pub trails : Both SourceState → Both Trail
trails s = record { base = s.base.trail; log = s.log.trail }

abbrev pub counts : Both SourceState → List ℕ
counts s = s.base.failures ∷ s.log.failures ∷ []

-- the answer is right for each file and each log that agree with what they answered
abbrev pub IsThrough : Placed → Answer → List Answer → List Answer → Type 0
IsThrough p a base log = (f g : List ℕ) → Fits f base → Fits g log → FitsAnswer (through p f g) a

-- What a call asked of the file for a range of it, of which `len` bytes are used, and what it gives: these bytes, with zeros past them.
pub record ReadsPadded {E : Type 0} (step : Step) (len offset : ℕ) (r : Result (Unit {0}) E) (buf : List ℕ) (old new : SourceState) : Type 0 where
  pub told : new.bytes ≡ old.bytes
  pub log : List Answer
  pub leads : Leads step old.trail log new.trail
  pub tells : IfSome old.bytes (λ f. Fits f log)
  pub gives : OnOk r ((f : List ℕ) → Fits f log → (k : ℕ) → k < length buf → slice_index buf k ≡ padded_byte len f (offset + k))
  pub ranges : map asked log ≡ padded_ranges len (range offset (length buf))
  pub fails : OnErr r (list_any is_failed log ≡ true)
  pub count : new.failures ≡ failures_after is_any r old.failures

-- What a call asked of both for a range of the database, and what it made of them: one of them failed, once, exactly where it did.
pub record ReadsBoth {E : Type 0} (base_step log_step : Step) (p : Placed) (offset : ℕ) (r : Result (Unit {0}) E) (buf : List ℕ)
    (old new : Both SourceState) : Type 0 where
  pub told_base : new.base.bytes ≡ old.base.bytes
  pub told_log : new.log.bytes ≡ old.log.bytes
  pub asks : AsksBoth base_step log_step (tolds old) (trails old) (trails new)
  pub gives : IsThrough p (answer r offset buf) asks.base asks.log
  pub ranges : AreAskedFor p (range offset (length buf)) (map asked asks.base) (map asked asks.log)
  pub fails : FailsBy p (answer r offset buf) asks.base asks.log
  pub count : CountsAfter is_any r (counts old) (counts new)

-- A step of it: steps of the file and of the log, whose answers it gives in their places.
pub record BesideStep (base_step log_step : Step) (old : Trail) (a : Answer) (new : Trail) : Type 0 where
  pub placed : Placed
  pub told : Both (Option (List ℕ))
  pub before : Both Trail
  pub after : Both Trail
  pub was : old ≡ both_trails placed told before
  pub is : new ≡ both_trails placed told after
  pub asks : AsksBoth base_step log_step told before after
  pub gives : IsThrough placed a asks.base asks.log
  pub ranges : AreAskedFor placed (asked a) (map asked asks.base) (map asked asks.log)
  pub fails : FailsBy placed a asks.base asks.log

-- its length: that of the database
pub record BesideLength (trail : Trail) (n : ℕ) : Type 0 where
  pub placed : Placed
  pub told : Both (Option (List ℕ))
  pub before : Both Trail
  pub was : trail ≡ both_trails placed told before
  pub length : n ≡ placed_len placed
