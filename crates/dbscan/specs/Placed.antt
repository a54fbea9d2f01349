-- Faults as a reporter receives them: each with the part of the report that it belongs to, and with its cause.
use Rattle.std.specs.Prelude.{◌≡◌, ℕ, ◌≤◌, List, ◌++◌, length, map, filter_map, flat_map, Option, None, Some}
use Rattle.dbsurvey.specs.Address.{EachPair, IsIn}
use Rattle.dbformat.specs.Address.{freelist_start, start_of}
use Rattle.dbformat.specs.EndFaults.{end_faults}
use Rattle.dbformat.specs.HeaderFaults.{header_faults}
use Rattle.dbformat.specs.Reference.{Reference}
use Rattle.dbformat.specs.Report.{event_faults}
use Rattle.dbformat.specs.Schema.{starts}
use Rattle.dbformat.specs.Story.{reporting}
use Rattle.dbformat.specs.declared.Fault.{Fault}
use Rattle.dbtrace.specs.Causes.{cause_of}
use Rattle.dbtrace.specs.declared.Part.{Part}
use Rattle.dbtrace.specs.declared.Part.TheVariants as part
use Rattle.dbtrace.specs.declared.TracedFault.{TracedFault}
use Rattle.dbformat.specs.Starts.{start_at}
use Rattle.dbscan.specs.Notices.{Notice, at_start, received_fault, received_row, ended, of_file}

-- Faults with their causes.

-- the faults of the walk, each at the start of the address that it is reported at
abbrev pub walk_reported : List ℕ → List Reference → List TracedFault
walk_reported file V = flat_map (λ t. map (λ f. at_start (start_of t.key) f (cause_of file V t.event f.code)) (event_faults file V t.event)) (reporting file V)

-- all faults of a file
abbrev pub reported_faults : List ℕ → List Reference → List TracedFault
reported_faults file V = map (of_file part.Header) (header_faults file (length file)) ++ walk_reported file V ++ map (of_file part.End) (end_faults file V)

-- without part and cause
abbrev pub faults_of : List TracedFault → List Fault
faults_of ts = map (λ t. t.fault) ts

-- the fault of a notice, if it is one
abbrev pub reported_of : Notice → Option TracedFault
reported_of (received_fault x) = Some x
reported_of _ = None

-- those among notices
abbrev pub reported_in : List Notice → List TracedFault
reported_in notices = filter_map reported_of notices

-- Where faults at starts are.

-- A fault that is reported at start k: k is a start of the file, and the fault's page, where it is above 0, was reached from it.
pub record IsAtStart (file : List ℕ) (V : List Reference) (f : Fault) (k : ℕ) : Type 0 where
  pub start : IsIn k (map (λ l. l.step) (starts file V))
  pub reached : (f.page ≡ 0 → ⊥) → start_at V f.page ≡ Some k

-- so it is of a fault with its part
abbrev pub IsOfStart : List ℕ → List Reference → TracedFault → Type 0
IsOfStart file V t = (k : ℕ) → t.part ≡ part.Start k → IsAtStart file V t.fault k

-- Starts of notices.

-- the number of the start of a part of the report, if it is one
abbrev pub part_number : Part → Option ℕ
part_number (part.Start k) = Some k
part_number _ = None

-- the number of the start of a notice, if it is of one
abbrev pub number_of : Notice → Option ℕ
number_of (received_fault x) = part_number x.part
number_of (received_row at r) = Some at.number
number_of (ended at) = Some at.number
number_of _ = None

-- no start comes after a later one
abbrev pub StartsRise : List Notice → Type 0
StartsRise notices = EachPair (λ j k. j ≤ k) (filter_map number_of notices)

-- each is that of a root or of the freelist
abbrev pub AreStarts : List Notice → Type 0
AreStarts notices = (k : ℕ) → IsIn k (filter_map number_of notices) → k ≤ freelist_start
