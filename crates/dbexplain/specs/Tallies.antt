-- The tally of the faults that were reported: how many there are by code and by start, which pages have one, and how many pages were reached.
use Rattle.std.specs.Prelude.{◌≡◌, ℕ, ◌+◌, ◌-◌, ◌≤◌, Bool, ◌&&◌, List, [], length, min, count_by, Option, Some, None, ◌^◌, slice_get, slice_index}
use Rattle.std.specs.Prelude.{slice_set, slice_index_or, if◌then◌else◌}
use Rattle.std.specs.List.{range_with_len}
use Rattle.dbformat.specs.Address.{freelist_start}
use Rattle.dbformat.specs.Codes.{code_index}
use Rattle.dbformat.specs.Lines.{counted}
use Rattle.dbformat.specs.Reference.{Reference}
use Rattle.dbformat.specs.declared.FaultCode.{FaultCode}
use Rattle.dbtrace.specs.declared.Part.{Part}
use Rattle.dbtrace.specs.declared.Part.TheVariants as part
use Rattle.dbtrace.specs.declared.TracedFault.{TracedFault}
use Rattle.dbinjuries.specs.Bits.{bit_set, has_bit, HasPageBit}
use Rattle.dbexplain.specs.Summary.{code_count, start_count, whole_count, is_reached, is_reported}
use Rattle.dbexplain.specs.declared.tally.StartCount.{StartCount}
use Rattle.dbexplain.specs.declared.tally.Tally.TheInside.{Inside}

-- A tally as contracts see it: how many faults there are, with each code by its index, at each start, and of the whole file; and words with a
-- bit for each page.
pub record Tallied : Type 0 where
  pub all : ℕ
  pub codes : List ℕ
  pub starts : List StartCount
  pub whole : ℕ
  pub pages : List ℕ

-- what the fields hold
abbrev pub tallied : {A : Type 0} → Inside A → Tallied
tallied t = record { all = t.all; codes = t.codes; starts = t.starts; whole = t.whole; pages = t.pages }

-- how many faults with a code were counted
abbrev pub count_of : Tallied → FaultCode → ℕ
count_of t code = slice_index t.codes (code_index code)

-- nothing is counted of a start
abbrev pub no_count : StartCount
no_count = record { faults = 0; reached = 0; faulty = 0 }

-- what was counted of start k
abbrev pub count_at : Tallied → ℕ → StartCount
count_at t k = slice_index_or t.starts k no_count

-- ---- a fault more

-- one with this code
abbrev pub code_reported : FaultCode → Tallied → Tallied
code_reported code t = record t { all = counted (t.all + 1); codes = slice_set t.codes (code_index code) (counted (count_of t code + 1)) }

-- at a start, where its page is noted, or of the whole file
abbrev pub one_fault : StartCount → StartCount
one_fault c = record c { faults = counted (c.faults + 1) }

abbrev pub part_reported : Part → ℕ → Tallied → Tallied
part_reported (part.Start k) page t = record t { starts = slice_set t.starts k (one_fault (count_at t k)); pages = bit_set page t.pages }
part_reported _ page t = record t { whole = counted (t.whole + 1) }

abbrev pub fault_reported : Tallied → TracedFault → Tallied
fault_reported t x = part_reported x.part x.fault.page (code_reported x.fault.code t)

-- ---- a page more

-- reached from a start, with a fault or without one
abbrev pub one_reached_page : Bool → StartCount → StartCount
one_reached_page faulty c = record c { reached = min (c.reached + 1) (2 ^ 32 - 1); faulty = min (c.faulty + (if faulty then 1 else 0)) (2 ^ 32 - 1) }

abbrev pub start_reached : ℕ → ℕ → Tallied → Tallied
start_reached k p t = record t { starts = slice_set t.starts k (one_reached_page (has_bit t.pages p) (count_at t k)) }

-- if it was reached
abbrev pub page_reached : Option ℕ → ℕ → Tallied → Tallied
page_reached None p t = t
page_reached (Some k) p t = start_reached k p t

-- ---- what it all means

-- What was counted at start k: its faults, and of the first n pages those that were reached from it, and those of them with a fault.
abbrev pub counted_start : List Reference → List TracedFault → ℕ → ℕ → StartCount
counted_start V ts n k = record {
  faults = counted (start_count ts k);
  reached = count_by (is_reached V k) (range_with_len 1 n);
  faulty = count_by (λ p. is_reached V k p && is_reported ts p) (range_with_len 1 n);
}

-- The tally is that of these faults, of a file with this number of pages, and of its first n pages.
pub record IsTallyTo (pages : ℕ) (V : List Reference) (ts : List TracedFault) (n : ℕ) (t : Tallied) : Type 0 where
  pub all : t.all ≡ counted (length ts)
  pub codes : (code : FaultCode) → slice_get t.codes (code_index code) ≡ Some (counted (code_count ts code))
  pub starts : (k : ℕ) → k ≤ freelist_start → slice_get t.starts k ≡ Some (counted_start V ts n k)
  pub whole : t.whole ≡ counted (whole_count ts)
  pub room : HasPageBit t.pages pages
  pub bits : (p : ℕ) → p ≤ pages → has_bit t.pages p ≡ is_reported ts p

-- The tally is that of these faults, where no page is counted yet.
abbrev pub IsTallyOf : ℕ → List TracedFault → Tallied → Type 0
IsTallyOf pages ts t = IsTallyTo pages [] ts 0 t
