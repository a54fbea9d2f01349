-- What a reporter receives of a file, as one list: what is found of the whole file and at each start, and where a tree ends.
use Rattle.std.specs.Prelude.{◌≡◌, ℕ, ◌+◌, ◌≤◌, List, [], ◌∷◌, ◌++◌, length, map, filter_map, Option, Some, None}
use Rattle.std.specs.List.{enumerate_from}
use Rattle.dbsurvey.specs.Story.{Errand, Go, Follow, errands_at}
use Rattle.dbformat.specs.EndFaults.{end_faults}
use Rattle.dbformat.specs.File.{geometry}
use Rattle.dbformat.specs.FixedPages.{IsInRange}
use Rattle.dbformat.specs.HeaderFaults.{header_faults}
use Rattle.dbformat.specs.Reference.{root, Way, Reference}
use Rattle.dbformat.specs.Schema.{root_kind, root_start, freelist_starts}
use Rattle.dbformat.specs.Rows.{StatRow}
use Rattle.dbformat.specs.SchemaRow.{SchemaRow}
use Rattle.dbformat.specs.Story.{Event}
use Rattle.dbformat.specs.declared.Fault.{Fault}
use Rattle.dbformat.specs.declared.Geometry.{Geometry}
use Rattle.dbmarks.specs.Marking.{marks_of}
use Rattle.dbmarks.specs.declared.marks.Mark.{Mark}
use Rattle.dbtrace.specs.Finding.{Finding, reported_fault, reported_row, reported_below, visited_below}
use Rattle.dbtrace.specs.declared.Cause.{Cause}
use Rattle.dbtrace.specs.declared.Cause.TheVariants.{Itself}
use Rattle.dbtrace.specs.declared.Part.{Part}
use Rattle.dbtrace.specs.declared.Part.TheVariants as part
use Rattle.dbtrace.specs.declared.TracedFault.{TracedFault}
use Rattle.dbwalk.specs.Rows.{row_of}
use Rattle.dbscan.specs.Roots.{listed_rows}
use Rattle.dbscan.specs.Starts.{At, at_schema, at_row, at_freelist, schema_reference}
use Rattle.dbscan.specs.declared.notice.Notice.{Notice as Lent}
use Rattle.dbscan.specs.declared.notice.Notice.TheVariants as lent

-- A fault, with its part and its cause; a row of the tree of a start; the end of the tree of a start; or, when all walks have ended, a
-- page and its mark.
pub data Notice : Type 0 where
  received_fault : TracedFault → Notice
  received_row : At → StatRow → Notice
  ended : At → Notice
  marked : Geometry → ℕ → Mark → Notice

-- a fault at start k
abbrev pub at_start : ℕ → Fault → Cause → TracedFault
at_start k f why = record { part = part.Start k; fault = f; cause = why }

-- a fault of the whole file, which goes back to nothing else
abbrev pub of_file : Part → Fault → TracedFault
of_file where_reported f = record { part = where_reported; fault = f; cause = Itself }

-- what is found at a start
abbrev pub found : At → Finding → Notice
found at (reported_fault f why) = received_fault (at_start at.number f why)
found at (reported_row r) = received_row at r

-- a fault of the whole file
abbrev pub whole : Part → Fault → Notice
whole where_reported f = received_fault (of_file where_reported f)

-- the notice that is borrowed
abbrev pub notice_of : Lent → Notice
notice_of (lent.Fault x) = received_fault x.now
notice_of (lent.Row at r) = received_row at.now (row_of r.now)
notice_of (lent.Ended at) = ended at.now
notice_of (lent.Page g p mark) = marked g.now p mark

-- what a reporter may rely on: a page is numbered from 1, in a file of this shape
abbrev pub IsGiven : Notice → Type 0
IsGiven (received_fault x) = Unit {0}
IsGiven (received_row at r) = Unit {0}
IsGiven (ended at) = Unit {0}
IsGiven (marked g p mark) = IsInRange g × (1 ≤ p)

-- the fault of a notice, if it is one
abbrev pub notice_fault : Notice → Option Fault
notice_fault (received_fault x) = Some x.fault
notice_fault (received_row at r) = None
notice_fault (ended at) = None
notice_fault (marked g p mark) = None

-- those among notices
abbrev pub faults_received : List Notice → List Fault
faults_received notices = filter_map notice_fault notices

-- a reporter on which only faults have an effect
abbrev pub ReceivesFaults : {S : Type 0} → (S → Fault → S → Type 0) → S → Notice → S → Type 0
ReceivesFaults takes s (received_fault x) t = takes s x.fault t
ReceivesFaults takes s (received_row at r) t = t ≡ s
ReceivesFaults takes s (ended at) t = t ≡ s
ReceivesFaults takes s (marked g p mark) t = t ≡ s

-- the reference to the root of a row, as that of start k
abbrev pub root_reference : List ℕ → ℕ → SchemaRow → Reference
root_reference file k r = record { address = k ∷ []; page = r.root; role = record { role = root (root_kind file r); from = 0; item = k } }

-- what there is to do at the roots of these rows, by their numbers, and along the freelist
abbrev pub errands_left : List ℕ → List (ℕ × SchemaRow) → List (Errand Way Event)
errands_left file left = errands_at [] (map Follow (map (root_start file) left ++ freelist_starts file))

-- what is reported at a start below its root, after the visits of W
abbrev pub tree_notices : At → List ℕ → List Reference → Reference → List Notice
tree_notices at file W c = map (found at) (reported_below file W (Go c ∷ [])) ++ (ended at ∷ [])

-- and at the starts of these rows, and then of the freelist
abbrev pub later_notices : List ℕ → List Reference → List (ℕ × SchemaRow) → List Notice
later_notices file W [] = map (found at_freelist) (reported_below file W (errands_left file []))
later_notices file W ((k, row) ∷ left) =
    tree_notices (at_row k row) file W (root_reference file k row)
    ++ later_notices file (W ++ visited_below file W (Go (root_reference file k row) ∷ [])) left

-- all that is reported at the starts of a file, where V is the survey: at the schema's, and at those that the schema names
abbrev pub start_notices : List ℕ → List Reference → List Notice
start_notices file V =
    tree_notices at_schema file [] schema_reference
    ++ later_notices file ([] ++ visited_below file [] (Go schema_reference ∷ [])) (enumerate_from 1 (listed_rows file V))

-- the pages from page p on, with these marks
abbrev pub pages_from : Geometry → ℕ → List Mark → List Notice
pages_from g p [] = []
pages_from g p (mark ∷ marks) = marked g p mark ∷ pages_from g (p + 1) marks

-- all that is reported after the walks: each page with its mark, and then the faults at the end
abbrev pub end_notices : List ℕ → List Reference → List Notice
end_notices file V = pages_from (geometry file) 1 (marks_of (geometry file) V) ++ map (whole part.End) (end_faults file V)

-- all that is reported of a file: the faults of its header, what is found at its starts, and what is reported after the walks
abbrev pub run_notices : List ℕ → List Reference → List Notice
run_notices file V = map (whole part.Header) (header_faults file (length file)) ++ (start_notices file V ++ end_notices file V)
