-- What is shown of faults: the codes of a square's pages, and the frames. The strong frame is of the pages of the first injuries, of those that
-- the values of their first faults name, and of the causes of these.
use Rattle.std.specs.Prelude.{ℕ, ◌+◌, ◌-◌, ◌*◌, ◌%◌, ◌^◌, ℤ, pos, Bool, List, [], ◌∷◌, map, min, flat_map, nat_lt, if◌then◌else◌, not, ◌&&◌, ◌++◌}
use Rattle.std.specs.Prelude.{codes, take, ◌==◌}
use Rattle.std.specs.Int.{bit_at}
use Rattle.std.specs.Int.RustNames.{bit_or}
use Rattle.std.specs.List.{list_any, range_with_len}
use Rattle.dbformat.specs.declared.Fault.{Fault}
use Rattle.dbformat.specs.declared.FaultCode.{FaultCode}
use Rattle.dbformat.specs.declared.FaultCode.TheVariants.{M02, O01, R02, R03, T04}
use Rattle.dbformat.specs.Codes.{all_codes, code_index}
use Rattle.dbformat.specs.Lines.{code_text}
use Rattle.dbformat.specs.Reference.{Reference}
use Rattle.dbformat.specs.Report.{faults}
use Rattle.dbtrace.specs.declared.Cause.{Cause}
use Rattle.dbtrace.specs.declared.Cause.TheVariants as cause
use Rattle.dbtrace.specs.declared.TracedFault.{TracedFault}
use Rattle.dbinjuries.specs.Kept.{kept_of}
use Rattle.dbinjuries.specs.Listed.{listed_injuries}
use Rattle.dbinjuries.specs.Zeros.{blank_pages, zero_pages}
use Rattle.dbinjuries.specs.declared.injury.Injury.{Injury}
use Rattle.dbinjuries.specs.declared.page_runs.PageRun.{PageRun}
use Rattle.dbpicture.specs.Owners.{capped_pages}
use Rattle.dbpicture.specs.declared.faults.Sign.{Sign}
use Rattle.dbpicture.specs.declared.faults.Sign.TheVariants.{Blank, Code, Faulty, Framed, Zeros}
use Rattle.dbpicture.specs.declared.faults.SquareFaults.{SquareFaults}
use Rattle.dbpicture.specs.declared.frame.Frame.{Frame}
use Rattle.dbpicture.specs.declared.frame.Frame.TheVariants as frame

-- the page that a value is the number of: one of 32 bits, and 0 is none
abbrev pub page_of_value : ℤ → ℕ
page_of_value (pos n) = if nat_lt n 4294967296 then n else 0
page_of_value _ = 0

-- the page that the value of a fault with this code names, or 0
abbrev pub value_page : FaultCode → ℤ → ℕ
value_page R02 value = page_of_value value
value_page R03 value = page_of_value value
value_page T04 value = page_of_value value
value_page O01 value = page_of_value value
value_page M02 value = page_of_value value
value_page _ value = 0

-- the page of a cause, or 0: that of the key, of the first leaf, or of the cell that has the chain
abbrev pub cause_page : Cause → ℕ
cause_page (cause.Key k left) = k.page
cause_page (cause.Leaf page rowids) = page
cause_page (cause.Chain c) = c.page
cause_page _ = 0

-- the pages of a run, and those of the faults that belong to an injury, as far as they are kept: its first ten runs
abbrev pub run_pages : PageRun → List ℕ
run_pages r = range_with_len r.first (capped_pages (r.last + 1) - r.first)

abbrev pub other_pages : Injury → List ℕ
other_pages e = flat_map run_pages (take (min e.others.runs.count 10) e.others.runs.kept)

-- the bit of a sign: those below 60 are of codes
abbrev pub sign_bit : Sign → ℕ
sign_bit (Code code) = code_index code
sign_bit Blank = 60
sign_bit Zeros = 61
sign_bit Faulty = 62
sign_bit Framed = 63

-- the signs of the page of a fault
abbrev pub fault_signs : Fault → List (ℕ × Sign)
fault_signs f = (f.page, Code f.code) ∷ (f.page, Faulty) ∷ []

-- and those of a fault that leads: its own page, the one that its value names, and that of its cause have the strong frame
abbrev pub frame_signs : TracedFault → List (ℕ × Sign)
frame_signs x = (x.fault.page, Framed) ∷ (value_page x.fault.code x.fault.value, Framed) ∷ (cause_page x.cause, Framed) ∷ []

-- and those of an injury: the pages of the faults that belong to it have the strong frame too
abbrev pub framed : List ℕ → List (ℕ × Sign)
framed pages = map (λ p. (p, Framed)) pages

abbrev pub injury_signs : Injury → List (ℕ × Sign)
injury_signs e = frame_signs e.first ++ framed (other_pages e)

-- and those of pages that are zeros, or one byte throughout
abbrev pub with_sign : Sign → List ℕ → List (ℕ × Sign)
with_sign sign pages = map (λ p. (p, sign)) pages

-- whether one of some pages has a sign, of all signs, each with its page
abbrev pub shows : List (ℕ × Sign) → (ℕ → Bool) → Sign → Bool
shows signs is_of sign = list_any (λ s. is_of s.0 && (sign_bit s.1 == sign_bit sign)) signs

-- the same of a word with a bit for each sign, and this word with one sign more
abbrev pub shown : ℕ → Sign → Bool
shown bits sign = bit_at bits (sign_bit sign) == 1

abbrev pub sign_added : Sign → SquareFaults → SquareFaults
sign_added sign faults = record { bits = bit_or faults.bits (1 * 2 ^ sign_bit sign % 2 ^ 64) }

-- a code, where a square shows it, after a space
abbrev pub code_if : (Sign → Bool) → FaultCode → List ℕ
code_if has code = if has (Code code) then codes " " ++ code_text code else []

-- what the title of a square says of faults
abbrev pub faults_text : (Sign → Bool) → List ℕ
faults_text has = if has Faulty then codes ", with" ++ flat_map (code_if has) all_codes else []

-- the frame of a square
abbrev pub frame_of : (Sign → Bool) → Frame
frame_of has = if has Framed then frame.Strong else (if has Faulty then frame.Weak else frame.None)

-- ---- the faults of a file with survey V

-- the signs of the pages: of all faults, of the first 100 injuries, which `explain` lists if no other number is given, and of those that are
-- zeros or one byte throughout
abbrev pub signs_of : List ℕ → List Reference → List (ℕ × Sign)
signs_of file V = flat_map fault_signs (faults file V) ++ flat_map injury_signs (map kept_of (take 100 (listed_injuries file V)))
    ++ with_sign Zeros (zero_pages file V) ++ with_sign Blank (blank_pages file V)

-- whether page p has a sign
abbrev pub page_shows : List ℕ → List Reference → Sign → ℕ → Bool
page_shows file V sign p = shows (signs_of file V) (λ q. q == p) sign

-- whether a page has the weak frame, by whether it has a fault, and whether it has the strong one
abbrev pub is_weak : (ℕ → Bool) → (ℕ → Bool) → ℕ → Bool
is_weak faulty strong p = faulty p && not (strong p)
