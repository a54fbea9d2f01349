-- The marks of pages: as what each is used, by the visits of a walk and by the file's layout.
use Rattle.std.specs.Prelude.{◌≡◌, ℕ, ◌-◌, Bool, true, false, List, [], map, slice_get, slice_set, Option, Some, None, count_by, ◌==◌, if◌then◌else◌, ◌/◌, ◌%◌}
use Rattle.std.specs.Option.{option_map_or}
use Rattle.dbformat.specs.FixedPages.{is_fixed}
use Rattle.dbformat.specs.File.{geometry}
use Rattle.dbformat.specs.Reference.{Role, root, child, first_overflow, later_overflow, trunk, free_leaf, Reference, role_of, from_of}
use Rattle.dbformat.specs.EndFaults.{visit_of, page_numbers}
use Rattle.dbformat.specs.declared.FaultCode.{FaultCode}
use Rattle.dbformat.specs.declared.FaultCode.TheVariants.{R01, R02, R03, T04}
use Rattle.dbformat.specs.declared.Geometry.{Geometry}
use Rattle.dbmarks.specs.declared.marks.Mark.{Mark}
use Rattle.dbmarks.specs.declared.marks.Mark.TheVariants.{Unmarked, Fixed, Root, Trunk, FreeLeaf, FirstOverflow, LaterOverflow, Child}

-- the mark of a page that is visited in a role, from a page
abbrev pub role_mark : Role → ℕ → Mark
role_mark (root kind) from = Root
role_mark (child kind) from = Child from
role_mark (first_overflow left) from = FirstOverflow from
role_mark (later_overflow left) from = LaterOverflow from
role_mark trunk from = Trunk
role_mark free_leaf from = FreeLeaf

-- the mark that a visit gives its page
abbrev pub visit_mark : Reference → Mark
visit_mark r = role_mark (role_of r) (from_of r)

-- the mark of page p after the visits of W
unfoldable pub mark_of : Geometry → List Reference → ℕ → Mark
mark_of g W p = if is_fixed g p then Fixed else option_map_or visit_mark (visit_of W p) Unmarked

-- the marks of all pages
unfoldable pub marks_of : Geometry → List Reference → List Mark
marks_of g W = map (mark_of g W) (page_numbers g)

-- the marks of a file's pages are those of the visits of W
abbrev pub AreMarksOf : List ℕ → List Reference → List Mark → Type 0
AreMarksOf file W marks = marks ≡ marks_of (geometry file) W

-- the mark of page p, if there is such a page
abbrev pub page_mark : List Mark → ℕ → Option Mark
page_mark marks p = if p == 0 then None else slice_get marks (p - 1)

-- whether a mark is none
abbrev pub is_none : Mark → Bool
is_none Unmarked = true
is_none _ = false

-- whether p is a page that has no mark
abbrev pub is_unmarked : List Mark → ℕ → Bool
is_unmarked marks p = option_map_or is_none (page_mark marks p) false

-- how many pages have no mark
abbrev pub unmarked_pages : List Mark → ℕ
unmarked_pages marks = count_by is_none marks

-- a mark without the visits
abbrev pub cleared : Mark → Mark
cleared Fixed = Fixed
cleared _ = Unmarked

-- a mark that a visit gives
pub record IsUse (mark : Mark) : Type 0 where
  pub some : is_none mark ≡ false
  pub cleared : cleared mark ≡ Unmarked

-- just the pages of fixed use are marked so
abbrev pub AreMarksFor : Geometry → List Mark → Type 0
AreMarksFor g marks = map cleared marks ≡ marks_of g []

-- each mark that was there stays, and the pages of fixed use are the same
pub record KeepsMarks (old new : List Mark) : Type 0 where
  pub marks : (p : ℕ) → is_unmarked old p ≡ false → page_mark new p ≡ page_mark old p
  pub fixed : map cleared new ≡ map cleared old

-- Why a reference may not be followed, by the mark of its page: the first reason, where the page has this mark, or there is no
-- such page, and where it would be too deep in its tree or not; none where it may be followed.
abbrev pub refusal_by : Option Mark → Bool → Option FaultCode
refusal_by None is_too_deep = Some R01
refusal_by (Some Fixed) is_too_deep = Some R02
refusal_by (Some Unmarked) is_too_deep = if is_too_deep then Some T04 else None
refusal_by (Some _) is_too_deep = if is_too_deep then Some T04 else Some R03

-- The marks after a reference to page p: the page has its mark, where the reference may be followed.
abbrev pub followed : List Mark → ℕ → Mark → Option FaultCode → List Mark
followed marks p mark None = slice_set marks (p - 1) mark
followed marks p mark (Some code) = marks

-- How a mark is stored in four bytes.

-- the mark of a kind, from 0 to 7, and a page
abbrev pub mark_of_kind : ℕ → ℕ → Mark
mark_of_kind kind from =
    if kind == 0 then Unmarked
    else if kind == 1 then Fixed
    else if kind == 2 then Root
    else if kind == 3 then Trunk
    else if kind == 4 then FreeLeaf
    else if kind == 5 then FirstOverflow from
    else if kind == 6 then LaterOverflow from
    else Child from

-- the kind in the low three bits, and the page in the others
unfoldable pub unpacked : ℕ → Mark
unpacked word = mark_of_kind (word % 8) (word / 8)

-- the page that a mark names, or 0
abbrev pub named_page : Mark → ℕ
named_page (FirstOverflow from) = from
named_page (LaterOverflow from) = from
named_page (Child from) = from
named_page _ = 0
