-- What the marks say at the end of a run, of all pages.
use Rattle.std.specs.Prelude.{◌≡◌, ℕ, Bool, true, false, not, ◌&&◌, List, [], ◌∷◌, length, filter, find, fold, max, count_by, Option, Some, None}
use Rattle.std.specs.Prelude.{pos, nat_lt, ◌==◌}
use Rattle.std.specs.List.{range_with_len}
use Rattle.std.specs.Option.{option_map_or}
use Rattle.dbsurvey.specs.Address.{IsIn}
use Rattle.dbsurvey.specs.Whole.{HasEachPageOnce}
use Rattle.dbformat.specs.Faults.{fault}
use Rattle.dbformat.specs.Tests.{reported_if}
use Rattle.dbformat.specs.File.{geometry, MapEntry, map_entry}
use Rattle.dbformat.specs.FixedPages.{is_page, is_fixed}
use Rattle.dbformat.specs.Reference.{Reference}
use Rattle.dbformat.specs.EndFaults.{is_same_entry, use_fault, late_root_fault, free_pages, greatest_root_reached}
use Rattle.dbformat.specs.Survey.{Survey}
use Rattle.dbformat.specs.declared.Geometry.{Geometry}
use Rattle.dbformat.specs.declared.Fault.{Fault}
use Rattle.dbformat.specs.declared.FaultCode.TheVariants.{N01, M01, M02}
use Rattle.dbmarks.specs.declared.entry.MapEntry as entry
use Rattle.dbmarks.specs.declared.marks.Mark.{Mark}
use Rattle.dbmarks.specs.declared.marks.Mark.TheVariants.{Unmarked, Fixed, Root, Trunk, FreeLeaf, FirstOverflow, LaterOverflow, Child}
use Rattle.dbmarks.specs.Marking.{mark_of, marks_of, page_mark}

-- the visits of a walk: of pages of the file without fixed use, each once
pub record AreVisits (g : Geometry) (V : List Reference) : Type 0 where
  pub allowed : (r : Reference) → IsIn r V → (is_page g r.page ≡ true) × (is_fixed g r.page ≡ false)
  pub once : HasEachPageOnce V

-- the pointer-map entry of a page with this mark
abbrev pub mark_entry : Mark → MapEntry
mark_entry Root = record { type = 1; number = 0 }
mark_entry Trunk = record { type = 2; number = 0 }
mark_entry FreeLeaf = record { type = 2; number = 0 }
mark_entry (FirstOverflow from) = record { type = 3; number = from }
mark_entry (LaterOverflow from) = record { type = 4; number = from }
mark_entry (Child from) = record { type = 5; number = from }
mark_entry _ = record { type = 0; number = 0 }

-- an entry of the program as one of the format
abbrev pub entry_value : entry.MapEntry → MapEntry
entry_value e = record { type = e.kind; number = e.number }

-- that the map has another entry
abbrev pub other_entry : ℕ → Option MapEntry → MapEntry → List Fault
other_entry p None own = []
other_entry p (Some e) own = reported_if (not (is_same_entry e own)) (fault M01 p e.type (pos e.number))

-- the fault of page p at the end, by its entry in the map and its mark
abbrev pub mark_fault : ℕ → Option MapEntry → Mark → List Fault
mark_fault p entry Unmarked = fault N01 p 0 (pos 0) ∷ []
mark_fault p entry Fixed = []
mark_fault p entry mark = other_entry p entry (mark_entry mark)

-- whether a page is on the freelist
abbrev pub is_free_mark : Mark → Bool
is_free_mark Trunk = true
is_free_mark FreeLeaf = true
is_free_mark _ = false

-- whether it is a root
abbrev pub is_root_mark : Mark → Bool
is_root_mark Root = true
is_root_mark _ = false

-- whether it is in use, and no root
abbrev pub is_other_mark : Mark → Bool
is_other_mark Unmarked = false
is_other_mark Fixed = false
is_other_mark Root = false
is_other_mark _ = true

-- whether p is a page whose mark passes a test
abbrev pub is_marked : (Mark → Bool) → List Mark → ℕ → Bool
is_marked test marks p = option_map_or test (page_mark marks p) false

-- the pages with such a mark, by number
abbrev pub marked_pages : (Mark → Bool) → List Mark → List ℕ
marked_pages test marks = filter (is_marked test marks) (range_with_len 1 (length marks))

-- the greatest page with a root's mark, or 1
abbrev pub greatest_root_marked : List Mark → ℕ
greatest_root_marked marks = fold max 1 (marked_pages is_root_mark marks)

-- the first page in use that is no root
abbrev pub least_other_marked : List Mark → Option ℕ
least_other_marked marks = find (is_marked is_other_mark marks) (range_with_len 1 (length marks))

-- that page p is the root of a row of the schema and comes after that page, in a file with a pointer map
abbrev pub late_fault : Bool → ℕ → Mark → Option ℕ → List Fault
late_fault has_map p mark None = []
late_fault has_map p mark (Some least) = reported_if (has_map && (is_root_mark mark && not (p == 1)) && nat_lt least p) (fault M02 p 0 (pos least))

-- what the visits of V say at the end is what their marks say: of the use of each page, of its place among the roots, of
-- the count of the freelist, and of the greatest root
pub record IsGivenByMarks (file : List ℕ) (V : List Reference) : Type 0 where
  pub uses : (p : ℕ) → use_fault file V p ≡ mark_fault p (map_entry file p) (mark_of (geometry file) V p)
  pub late : (p : ℕ) → late_root_fault file V p
      ≡ late_fault (geometry file).has_map p (mark_of (geometry file) V p) (least_other_marked (marks_of (geometry file) V))
  pub free : free_pages V ≡ count_by is_free_mark (marks_of (geometry file) V)
  pub greatest : greatest_root_reached V ≡ greatest_root_marked (marks_of (geometry file) V)

-- so it is of each survey
abbrev pub MarksGiveTheEnd : List ℕ → Type 0
MarksGiveTheEnd file = (V : List Reference) → Survey file V → IsGivenByMarks file V
