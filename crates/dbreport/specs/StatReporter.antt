-- The reporter of the statistics: what a finding makes of it, and what it has written and counted after some.
use Rattle.std.specs.Prelude.{◌≡◌, ℕ, ◌+◌, Bool, true, false, not, List, [], ◌∷◌, ◌++◌, length, flat_map, Result, Ok, MatchResult}
use Rattle.std.specs.Io.KnownBytes.{Appends, Keeps}
use Rattle.dbformat.specs.Lines.{counted, fault_line, page_line, tree_line}
use Rattle.dbformat.specs.Rows.{StatRow}
use Rattle.dbformat.specs.declared.Fault.{Fault}
use Rattle.dbformat.specs.declared.Geometry.{Geometry}
use Rattle.dbsource.specs.Failures.{CountsAfter, is_any}
use Rattle.dbsource.specs.Outs.{Begins, Flushes, OutState}
use Rattle.dbsource.specs.declared.out.WriteFailed.{WriteFailed}
use Rattle.dbmarks.specs.declared.marks.Mark.{Mark}
use Rattle.dbscan.specs.Notices.{Notice, received_fault, received_row, ended, marked}
use Rattle.dbscan.specs.Starts.{At}
use Rattle.dbwalk.specs.Reporting.{SinkState}
use Rattle.dbreport.specs.CheckReporter.{PutsAll}
use Rattle.dbreport.specs.TreeNames.{name_at}
use Rattle.dbreport.specs.OtherMarks.{marked_line}
use Rattle.dbreport.specs.Sums.{sums_of}
use Rattle.dbreport.specs.declared.statistics.reporter.StatReporter.{StatReporter}

-- what is written of rows as they come
abbrev pub pages_text : Bool → List ℕ → ℕ → List StatRow → List ℕ
pages_text true name size rows = []
pages_text false name size rows = flat_map (page_line name size) rows

-- what is written after the rows of a tree
abbrev pub tree_end_text : Bool → List ℕ → ℕ → List StatRow → List ℕ
tree_end_text true name size [] = []
tree_end_text true name size (row ∷ rows) = tree_line name size (row ∷ rows)
tree_end_text false name size rows = []

-- what is written of page p by its mark: its row, if it is in no tree and in no overflow chain
abbrev pub other_text : Bool → Geometry → ℕ → Mark → List ℕ
other_text true g p mark = marked_line g p mark
other_text false g p mark = []

-- what a reporter writes of rows as they come at a start
abbrev pub reporter_rows_text : {O E : Type 0} → StatReporter O E → At → List StatRow → List ℕ
reporter_rows_text s at rows = pages_text s.form.aggregate (name_at s.encoding at) s.page_size rows

-- it writes to the same Outs as before, and has noted no failure
abbrev pub AreSameOuts : {O E : Type 0} → StatReporter O E → StatReporter O E → Type 0
AreSameOuts s t = (t.out.ghost_name ≡ s.out.ghost_name) × (t.err.ghost_name ≡ s.err.ghost_name) × (t.is_shut ≡ s.is_shut)

-- it writes to the same Outs as before, and in the same way
pub record IsSameReporter {O E : Type 0} (s t : StatReporter O E) : Type 0 where
  pub out : t.out.ghost_name ≡ s.out.ghost_name
  pub err : t.err.ghost_name ≡ s.err.ghost_name
  pub encoding : t.encoding ≡ s.encoding
  pub page_size : t.page_size ≡ s.page_size
  pub form : t.form ≡ s.form

-- an Out was flushed: the bytes that it has stay, none of them is pending, and it did not fail
abbrev pub IsFlushed : OutState → OutState → Type 0
IsFlushed old new = Flushes {A = Unit {0}} {E = Unit {0}} (Ok tt) old new

-- the Out beside the one that bytes are put to, if they are: it was flushed then, or is as it was
abbrev pub IsFlushedIf : Bool → OutState → OutState → Type 0
IsFlushedIf true old new = IsFlushed old new
IsFlushedIf false old new = new ≡ old

-- a row was taken: it was written, after the faults that came before it, or counted for its tree's
pub record TakesStatRow {O E : Type 0} (held : O → OutState) (held' : E → OutState)
    (s : StatReporter O E) (at : At) (r : StatRow) (t : StatReporter O E) : Type 0 where
  pub same : IsSameReporter s t
  pub err : IsFlushedIf (not s.form.aggregate) (held' s.err.now) (held' t.err.now)
  pub found : t.found ≡ s.found
  pub sums : (rows : List StatRow) → s.sums ≡ sums_of rows → t.sums ≡ sums_of (rows ++ (r ∷ []))
  pub puts : PutsAll (held s.out.now) (held t.out.now) (reporter_rows_text s at (r ∷ []))

-- it was not written whole, or the faults before it were not handed on
pub record CutsRow {O E : Type 0} (held : O → OutState) (held' : E → OutState)
    (s : StatReporter O E) (at : At) (r : StatRow) (t : StatReporter O E) : Type 0 where
  pub same : IsSameReporter s t
  pub err : Keeps (held' s.err.now).bytes (held' t.err.now).bytes
  pub out : Begins (held s.out.now).bytes (held t.out.now).bytes (reporter_rows_text s at (r ∷ []))

-- a fault was written, after the rows that came before it, and counted
pub record TakesFault {O E : Type 0} (held : O → OutState) (held' : E → OutState) (s : StatReporter O E) (f : Fault) (t : StatReporter O E) : Type 0 where
  pub same : IsSameReporter s t
  pub out : IsFlushed (held s.out.now) (held t.out.now)
  pub found : t.found ≡ counted (s.found + 1)
  pub sums : t.sums ≡ s.sums
  pub puts : PutsAll (held' s.err.now) (held' t.err.now) (fault_line f)

-- it was not written whole, or the rows before it were not handed on
pub record CutsStatFault {O E : Type 0} (held : O → OutState) (held' : E → OutState) (s : StatReporter O E) (f : Fault) (t : StatReporter O E) : Type 0 where
  pub same : IsSameReporter s t
  pub out : Keeps (held s.out.now).bytes (held t.out.now).bytes
  pub err : Begins (held' s.err.now).bytes (held' t.err.now).bytes (fault_line f)

-- the failures of the first Out, and of the second
abbrev pub failures_of_each : OutState → OutState → List ℕ
failures_of_each out err = out.failures ∷ err.failures ∷ []

-- it borrows both Outs, whose failures are counted
abbrev pub stat_held : {O E : Type 0} → (O → OutState) → (E → OutState) → StatReporter O E → SinkState
stat_held held held' s = record {
  lent = s.out.ghost_name ∷ s.err.ghost_name ∷ [];
  failures = failures_of_each (held s.out.now) (held' s.err.now);
  is_shut = s.is_shut;
}

-- From one reporter to the other these bytes were written to the first Out, and the lines of these faults to the second.
pub record HasWritten {O E : Type 0} (held : O → OutState) (held' : E → OutState) (s t : StatReporter O E) (text : List ℕ) (faults : List Fault) : Type 0 where
  pub form : t.form ≡ s.form
  pub encoding : t.encoding ≡ s.encoding
  pub page_size : t.page_size ≡ s.page_size
  pub found : (n : ℕ) → s.found ≡ counted n → t.found ≡ counted (n + length faults)
  pub out : Appends (held s.out.now).bytes (held t.out.now).bytes text
  pub err : Appends (held' s.err.now).bytes (held' t.err.now).bytes (flat_map fault_line faults)

-- a beginning of each was written
pub record HasBegun {O E : Type 0} (held : O → OutState) (held' : E → OutState) (s t : StatReporter O E) (text : List ℕ) (faults : List Fault) : Type 0 where
  pub out : Begins (held s.out.now).bytes (held t.out.now).bytes text
  pub err : Begins (held' s.err.now).bytes (held' t.err.now).bytes (flat_map fault_line faults)

-- at Ok all of both, and at Err a beginning of each
abbrev pub WritesBoth : {A X O E : Type 0} → (O → OutState) → (E → OutState) → Result A X → StatReporter O E → StatReporter O E → List ℕ → List Fault → Type 0
WritesBoth held held' r s t text faults = MatchResult r (λ _. HasWritten held held' s t text faults) (λ _. HasBegun held held' s t text faults)

-- A tree has ended: its own row was written, where its rows are added up, after the faults that came before it.
pub record EndsTree {O E : Type 0} (held : O → OutState) (held' : E → OutState) (s : StatReporter O E) (at : At) (t : StatReporter O E) : Type 0 where
  pub same : IsSameReporter s t
  pub found : t.found ≡ s.found
  pub sums : t.sums ≡ sums_of []
  pub err : IsFlushedIf s.form.aggregate (held' s.err.now) (held' t.err.now)
  pub writes : (rows : List StatRow) → s.sums ≡ sums_of rows
      → Appends (held s.out.now).bytes (held t.out.now).bytes (tree_end_text s.form.aggregate (name_at s.encoding at) s.page_size rows)

-- it was not written whole, or the faults before it were not handed on
pub record CutsEnd {O E : Type 0} (held : O → OutState) (held' : E → OutState) (s : StatReporter O E) (at : At) (t : StatReporter O E) : Type 0 where
  pub kept : Keeps (held' s.err.now).bytes (held' t.err.now).bytes
  pub writes : (rows : List StatRow) → s.sums ≡ sums_of rows
      → Begins (held s.out.now).bytes (held t.out.now).bytes (tree_end_text s.form.aggregate (name_at s.encoding at) s.page_size rows)

-- All starts have been walked from: the row of another page was written, where these are asked for, after the faults that came before it.
pub record PutsOther {O E : Type 0} (held : O → OutState) (held' : E → OutState)
    (s : StatReporter O E) (g : Geometry) (p : ℕ) (mark : Mark) (t : StatReporter O E) : Type 0 where
  pub same : IsSameReporter s t
  pub found : t.found ≡ s.found
  pub sums : t.sums ≡ s.sums
  pub err : IsFlushedIf s.form.all (held' s.err.now) (held' t.err.now)
  pub writes : Appends (held s.out.now).bytes (held t.out.now).bytes (other_text s.form.all g p mark)

-- it was not written whole, or the faults before it were not handed on
pub record CutsOther {O E : Type 0} (held : O → OutState) (held' : E → OutState)
    (s : StatReporter O E) (g : Geometry) (p : ℕ) (mark : Mark) (t : StatReporter O E) : Type 0 where
  pub kept : Keeps (held' s.err.now).bytes (held' t.err.now).bytes
  pub writes : Begins (held s.out.now).bytes (held t.out.now).bytes (other_text s.form.all g p mark)

-- a notice was taken
abbrev pub ReceivesStat : {O E : Type 0} → (O → OutState) → (E → OutState) → StatReporter O E → Notice → StatReporter O E → Type 0
ReceivesStat out err s (received_fault x) t = TakesFault out err s x.fault t
ReceivesStat out err s (received_row at r) t = TakesStatRow out err s at r t
ReceivesStat out err s (ended at) t = EndsTree out err s at t
ReceivesStat out err s (marked g p mark) t = PutsOther out err s g p mark t

-- it was not taken whole
abbrev pub CutsStat : {O E : Type 0} → (O → OutState) → (E → OutState) → StatReporter O E → Notice → StatReporter O E → Type 0
CutsStat out err s (received_fault x) t = CutsStatFault out err s x.fault t
CutsStat out err s (received_row at r) t = CutsRow out err s at r t
CutsStat out err s (ended at) t = CutsEnd out err s at t
CutsStat out err s (marked g p mark) t = CutsOther out err s g p mark t

-- What writing of a notice leaves, where the reporter is open: it was taken, or at an error not whole; the Outs are the same, and each
-- failure of one is counted, and not noted yet.
pub record Writes {O E : Type 0} (out : O → OutState) (err : E → OutState) (r : Result (Unit {0}) WriteFailed) (s : StatReporter O E) (n : Notice)
    (t : StatReporter O E) : Type 0 where
  pub taken : MatchResult r (λ _. ReceivesStat out err s n t) (λ _. CutsStat out err s n t)
  pub same : AreSameOuts s t
  pub count : CountsAfter is_any r (failures_of_each (out s.out.now) (err s.err.now)) (failures_of_each (out t.out.now) (err t.err.now))

-- What a notice makes of a reporter, by whether it was shut before it, and is after it: an open one takes it, and is shut if it was not
-- taken whole; a shut one takes nothing.
abbrev pub ReceivesBy : {O E : Type 0} → (O → OutState) → (E → OutState) → Bool → Bool → StatReporter O E → Notice → StatReporter O E → Type 0
ReceivesBy out err false false s n t = ReceivesStat out err s n t
ReceivesBy out err false true s n t = CutsStat out err s n t
ReceivesBy out err true true s n t = s ≡ t
ReceivesBy out err true false s n t = ⊥

abbrev pub ReceivesOpen : {O E : Type 0} → (O → OutState) → (E → OutState) → StatReporter O E → Notice → StatReporter O E → Type 0
ReceivesOpen out err s n t = ReceivesBy out err s.is_shut t.is_shut s n t
