-- What is listed of the faults of a file with survey V (own): first all that are of no lost page, in their order, and then those of lost
-- pages, in theirs, which go back to what their pages look like.
use Rattle.std.specs.Prelude.{◌≡◌, ℕ, not, Bool, is_some, true, false, ◌&&◌, List, ◌++◌, map, filter}
use Rattle.dbformat.specs.EndFaults.{visit_of}
use Rattle.dbformat.specs.File.{geometry}
use Rattle.dbformat.specs.FixedPages.{is_fixed, is_page}
use Rattle.dbformat.specs.Reference.{Reference}
use Rattle.dbformat.specs.declared.FaultCode.{FaultCode}
use Rattle.dbformat.specs.declared.FaultCode.TheVariants.{N01}
use Rattle.dbtrace.specs.Causes.{lost_cause_at}
use Rattle.dbtrace.specs.declared.Part.{Part}
use Rattle.dbtrace.specs.declared.Part.TheVariants as part
use Rattle.dbtrace.specs.declared.TracedFault.{TracedFault}
use Rattle.dbinjuries.specs.Listing.{Injury, injuries}
use Rattle.dbscan.specs.Placed.{reported_faults}

-- ---- lost pages, to which nothing refers

-- whether a part is the end
abbrev pub is_end : Part → Bool
is_end part.End = true
is_end _ = false

-- whether a code is that of a lost page
abbrev pub is_lost_code : FaultCode → Bool
is_lost_code N01 = true
is_lost_code _ = false

-- whether a fault is that of a lost page: these are found at the end
abbrev pub is_lost : TracedFault → Bool
is_lost x = is_end x.part && is_lost_code x.fault.code

-- whether page p is of no fixed use, and no visit names it
abbrev pub is_unreached : List ℕ → List Reference → ℕ → Bool
is_unreached file V p = not (is_fixed (geometry file) p) && not (is_some (visit_of V p))

-- whether p is a lost page of the file
abbrev pub is_lost_page : List ℕ → List Reference → ℕ → Bool
is_lost_page file V p = is_page (geometry file) p && is_unreached file V p

-- its fault goes back to what the page looks like, and of an interior page also to how many of the pages that it names are lost too
abbrev pub looked_at : List ℕ → List Reference → TracedFault → TracedFault
looked_at file V x = record x { cause = lost_cause_at (is_lost_page file V) file x.fault.page }

-- ---- all faults

-- those that are of no lost page
abbrev pub others_of : List TracedFault → List TracedFault
others_of xs = filter (λ x. not (is_lost x)) xs

-- those of lost pages
abbrev pub lost_faults : List ℕ → List Reference → List TracedFault
lost_faults file V = map (looked_at file V) (filter is_lost (reported_faults file V))

-- all, in the order in which they are listed
abbrev pub listed_faults : List ℕ → List Reference → List TracedFault
listed_faults file V = others_of (reported_faults file V) ++ lost_faults file V

-- what is listed of them
abbrev pub listed_injuries : List ℕ → List Reference → List Injury
listed_injuries file V = injuries (listed_faults file V)

-- some of them are the first
abbrev pub IsBeginning : List TracedFault → List TracedFault → Type 0
IsBeginning xs ys = (rest : List TracedFault) × (xs ++ rest ≡ ys)
