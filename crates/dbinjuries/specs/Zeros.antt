-- Pages that are zeros, and pages of one byte throughout (own): of those with a fault, where it goes back to that.
use Rattle.std.specs.Prelude.{◌≡◌, ℕ, Bool, true, false, ◌&&◌, ◌||◌, List, filter, Option, ◌==◌, if◌then◌else◌}
use Rattle.std.specs.List.{list_any}
use Rattle.std.specs.Option.{option_map_or}
use Rattle.dbformat.specs.EndFaults.{page_numbers}
use Rattle.dbformat.specs.File.{geometry}
use Rattle.dbformat.specs.Reference.{Reference}
use Rattle.dbformat.specs.declared.ByteRun.{ByteRun}
use Rattle.dbformat.specs.declared.Look.TheVariants as look
use Rattle.dbtrace.specs.declared.Cause.{Cause}
use Rattle.dbtrace.specs.declared.Cause.TheVariants as cause
use Rattle.dbtrace.specs.declared.TracedFault.{TracedFault}
use Rattle.dbinjuries.specs.Listed.{listed_faults}
use Rattle.dbinjuries.specs.Bits.{bit_set, has_bit}

-- whether the page of a fault with this cause is zeros: it is of an unknown type or lost, and blank, or its next overflow page is refused
abbrev pub is_of_zeros : Cause → Bool
is_of_zeros (cause.Look (look.Blank byte) facts) = byte == 0
is_of_zeros (cause.Chain c) = c.seen.are_zeros
is_of_zeros _ = false

-- whether the longest run of one byte in a page is all of its usable bytes
abbrev pub is_whole : ℕ → Option ByteRun → Bool
is_whole usable run = option_map_or (λ r. r.len == usable) run false

-- whether the page of a fault with this cause is one byte throughout, zero or another
abbrev pub is_of_one_byte : ℕ → Cause → Bool
is_of_one_byte usable (cause.Look (look.Blank byte) facts) = true
is_of_one_byte usable (cause.Page page facts) = is_whole usable facts.run
is_of_one_byte usable (cause.Chain c) = c.seen.are_zeros || is_whole usable c.seen.run
is_of_one_byte usable _ = false

-- whether page p is, by some of these faults and what is so of their causes
abbrev pub is_page_of : (Cause → Bool) → List TracedFault → ℕ → Bool
is_page_of is_of xs p = list_any (λ x. is_of x.cause && (x.fault.page == p)) xs

-- the pages of a file that are
abbrev pub pages_of : (Cause → Bool) → List ℕ → List Reference → List ℕ
pages_of is_of file V = filter (is_page_of is_of (listed_faults file V)) (page_numbers (geometry file))

abbrev pub zero_pages : List ℕ → List Reference → List ℕ
zero_pages file V = pages_of is_of_zeros file V

abbrev pub blank_pages : List ℕ → List Reference → List ℕ
blank_pages file V = pages_of (is_of_one_byte (geometry file).usable) file V

-- ---- by bits

-- the bits, with that of the page of one more fault
abbrev pub noted : (Cause → Bool) → List ℕ → TracedFault → List ℕ
noted is_of words x = if is_of x.cause then bit_set x.fault.page words else words

-- those of a file with a bit are its pages of which this is so
abbrev pub AreBitsOf : (Cause → Bool) → List ℕ → List Reference → List ℕ → Type 0
AreBitsOf is_of file V words = filter (has_bit words) (page_numbers (geometry file)) ≡ pages_of is_of file V

abbrev pub AreZeros : List ℕ → List Reference → List ℕ → Type 0
AreZeros file V words = AreBitsOf is_of_zeros file V words

abbrev pub AreBlank : List ℕ → List Reference → List ℕ → Type 0
AreBlank file V words = AreBitsOf (is_of_one_byte (geometry file).usable) file V words
