-- The lines below a fault of a file with survey V (own): the number of the header that is wrong, or where its pages are.
use Rattle.std.specs.Prelude.{ℕ, ◌-◌, ◌*◌, ◌/◌, ℤ, pos, Bool, ◌&&◌, List, [], ◌++◌, length, Option, codes, decimal, nat_le, nat_lt, ◌==◌, if◌then◌else◌}
use Rattle.std.specs.Option.{option_map_or}
use Rattle.dbformat.specs.Address.{freelist_start}
use Rattle.dbformat.specs.EndFaults.{visit_of}
use Rattle.dbformat.specs.File.{MapEntry, geometry}
use Rattle.dbformat.specs.FixedPages.{is_page, fixed_use}
use Rattle.dbformat.specs.Header.{stated_pages, greatest_root, freelist_count}
use Rattle.dbformat.specs.Reference.{Reference, role_of, from_of, entry_of}
use Rattle.dbformat.specs.declared.Fault.{Fault}
use Rattle.dbformat.specs.declared.FaultCode.{FaultCode}
use Rattle.dbformat.specs.declared.FaultCode.TheVariants.{H01, H02, H03, H04, H05, H06, H07, H08, H09, H10, R01, R02, R03, T04, O01, M01, M02}
use Rattle.dbformat.specs.declared.Geometry.{Geometry}
use Rattle.dbinjuries.specs.Lines.{indented}
use Rattle.dbformat.specs.Starts.{start_at}
use Rattle.dbscan.specs.Owners.{place_of}
use Rattle.dbscan.specs.Texts.{place_text, tree_text}
use Rattle.dbscan.specs.declared.place.Place.{Place}

-- Where page p begins and what it is, by the shape of the file, the texts of its trees, and the page's place and start. A
-- number that no page has gets no line.
abbrev pub page_place_line : Geometry → (ℕ → List ℕ) → ℕ → Place → Option ℕ → List ℕ
page_place_line g tree p place start =
    if is_page g p
    then indented (codes "page " ++ decimal p ++ codes " at byte " ++ decimal ((p - 1) * g.page_size) ++ codes ": "
    ++ place_text (fixed_use g p) (option_map_or tree start []) place)
    else []

-- the line of page p of a file
abbrev pub place_line : List ℕ → List Reference → ℕ → List ℕ
place_line file V p = page_place_line (geometry file) (tree_text file V) p (place_of file V p) (start_at V p)

-- what start k is
abbrev pub line_of_start : (ℕ → List ℕ) → ℕ → List ℕ
line_of_start tree k =
    indented (codes "start " ++ decimal k ++ codes ": " ++ (if k == freelist_start then codes "first trunk of the freelist" else codes "root of " ++ tree k))

-- the line of start k of a file
abbrev pub start_line : List ℕ → List Reference → ℕ → List ℕ
start_line file V k = line_of_start (tree_text file V) k

-- where a fault is: on its page, or at a start
abbrev pub own_line : List ℕ → List Reference → Fault → List ℕ
own_line file V f = if f.page == 0 then start_line file V f.item else place_line file V f.page

-- the page that is the value of a fault
abbrev pub value_page : ℤ → ℕ
value_page (pos p) = p
value_page _ = 0

-- the same with the page that its value is
abbrev pub both_lines : List ℕ → List Reference → Fault → List ℕ
both_lines file V f = own_line file V f ++ place_line file V (value_page f.value)

-- Whether page p is whole in a file of this length, but after the end that its header states: the file has more pages than that.
abbrev pub is_after_end : Geometry → ℕ → ℕ → Bool
is_after_end g len p = nat_lt g.pages p && nat_le p (len / g.page_size)

-- the line that says so, and that where it is
abbrev pub after_end_said : ℕ → List ℕ
after_end_said p = indented (codes "page " ++ decimal p ++ codes " is in the file, after its stated end")

abbrev pub after_end_text : Geometry → ℕ → ℕ → List ℕ
after_end_text g len p = if is_after_end g len p then after_end_said p else []

-- of a page of a file
abbrev pub after_end_line : List ℕ → ℕ → List ℕ
after_end_line file p = after_end_text (geometry file) (length file) p

-- where a fault is, and that the page that its value names is after the stated end, if it is
abbrev pub outside_lines : List ℕ → List Reference → Fault → List ℕ
outside_lines file V f = own_line file V f ++ after_end_line file (value_page f.value)

-- a number of the header
abbrev pub header_line : ℕ → List ℕ
header_line n = indented (codes "header: " ++ decimal n)

-- a pointer-map entry
abbrev pub line_of_entry : MapEntry → List ℕ
line_of_entry e = indented (codes "entry wanted: type " ++ decimal e.type ++ codes ", number " ++ decimal e.number)

-- the one that the visit of a page asks for
abbrev pub entry_line : Option Reference → List ℕ
entry_line v = option_map_or (λ r. line_of_entry (entry_of (role_of r) (from_of r))) v []

-- The lines below a fault: the number of the header that is wrong, or its page, and with it the page that it names, where this is if it is
-- after the stated end, or the entry that was wanted. The other faults of the header have none.
abbrev pub lines_below : List ℕ → List Reference → Fault → FaultCode → List ℕ
lines_below file V f H01 = []
lines_below file V f H02 = []
lines_below file V f H03 = []
lines_below file V f H04 = []
lines_below file V f H05 = []
lines_below file V f H06 = header_line (stated_pages file)
lines_below file V f H07 = []
lines_below file V f H08 = []
lines_below file V f H09 = header_line (greatest_root file)
lines_below file V f H10 = header_line (freelist_count file)
lines_below file V f R01 = outside_lines file V f
lines_below file V f R02 = both_lines file V f
lines_below file V f R03 = both_lines file V f
lines_below file V f T04 = both_lines file V f
lines_below file V f O01 = both_lines file V f
lines_below file V f M02 = both_lines file V f
lines_below file V f M01 = own_line file V f ++ entry_line (visit_of V f.page)
lines_below file V f _ = own_line file V f
