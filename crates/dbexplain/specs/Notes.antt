-- The pieces of the lines below a fault, and what is known of a file for them.
use Rattle.std.specs.Prelude.{ℕ, ◌-◌, ◌*◌, ℤ, List, [], ◌∷◌, ◌++◌, Option, Some, None, codes, decimal, ◌==◌, if◌then◌else◌}
use Rattle.std.specs.Option.{option_map_or}
use Rattle.dbformat.specs.Address.{freelist_start}
use Rattle.dbformat.specs.File.{MapEntry}
use Rattle.dbformat.specs.FixedPages.{is_page, fixed_use}
use Rattle.dbformat.specs.Lines.{line_feed}
use Rattle.dbformat.specs.Reference.{Reference}
use Rattle.dbformat.specs.Survey.{Survey}
use Rattle.dbformat.specs.declared.FaultCode.{FaultCode}
use Rattle.dbformat.specs.declared.FaultCode.TheVariants.{H01, H02, H03, H04, H05, H06, H07, H08, H09, H10, R01, R02, R03, T04, O01, M01, M02}
use Rattle.dbformat.specs.declared.Geometry.{Geometry}
use Rattle.dbsource.specs.Headers.{IsHeaderOf}
use Rattle.dbmarks.specs.EndMarks.{mark_entry}
use Rattle.dbmarks.specs.Marking.{AreMarksOf}
use Rattle.dbmarks.specs.declared.marks.Mark.{Mark}
use Rattle.dbmarks.specs.declared.marks.Mark.TheVariants.{Unmarked}
use Rattle.dbmarks.specs.declared.marks.Mark.TheVariants as mark
use Rattle.dbscan.specs.Roots.{AreListed}
use Rattle.dbscan.specs.Texts.{place_from, place_front, place_words}
use Rattle.dbexplain.specs.Below.{value_page}
use Rattle.dbscan.specs.Trees.{AreTrees}
use Rattle.dbscan.specs.declared.place.Place.{Place}
use Rattle.dbexplain.specs.declared.owners.Below.{Below}
use Rattle.dbexplain.specs.declared.owners.Below.TheVariants as below
use Rattle.dbexplain.specs.declared.owners.Owners.{Owners}

-- what comes after the tree of a page, to the end of the line
abbrev pub place_end : Place → List ℕ
place_end p = place_words p ++ option_map_or decimal (place_from p) [] ++ line_feed ∷ []

-- where a page begins, and what comes before its tree
abbrev pub page_front : Geometry → ℕ → Place → List ℕ
page_front g p place =
    codes "    page " ++ decimal p ++ codes " at byte " ++ decimal ((p - 1) * g.page_size) ++ codes ": " ++ place_front (fixed_use g p) place

-- what a start is, before its tree
abbrev pub start_front : ℕ → List ℕ
start_front k = codes "    start " ++ decimal k ++ codes ": " ++ (if k == freelist_start then codes "first trunk of the freelist" else codes "root of ")

-- the start whose tree it is
abbrev pub start_tree : ℕ → Option ℕ
start_tree k = if k == freelist_start then None else Some k

-- the entry that a page with this mark has, if it is in use
abbrev pub wanted_entry : Option Mark → Option MapEntry
wanted_entry None = None
wanted_entry (Some Unmarked) = None
wanted_entry (Some mark.Fixed) = None
wanted_entry (Some m) = Some (mark_entry m)

-- what is written below a fault with this code
abbrev pub below_of : FaultCode → Below
below_of H01 = below.Nothing
below_of H02 = below.Nothing
below_of H03 = below.Nothing
below_of H04 = below.Nothing
below_of H05 = below.Nothing
below_of H06 = below.StatedPages
below_of H07 = below.Nothing
below_of H08 = below.Nothing
below_of H09 = below.GreatestRoot
below_of H10 = below.FreelistCount
below_of R01 = below.Outside
below_of R02 = below.Both
below_of R03 = below.Both
below_of T04 = below.Both
below_of O01 = below.Both
below_of M02 = below.Both
below_of M01 = below.Entry
below_of _ = below.Own

-- the page that a value is, or 0 where there is none
abbrev pub page_or_none : Geometry → ℤ → ℕ
page_or_none g value = if is_page g (value_page value) then value_page value else 0

-- All this is of a file and its survey: the header, the marks of the visits, the rows of the schema, and the starts of pages.
pub record AreOwnersOf {A : Type 0} (o : Owners A) (file : List ℕ) (V : List Reference) : Type 0 where
  pub header : IsHeaderOf o.header.now file
  pub survey : Survey file V
  pub marks : AreMarksOf file V o.marks.now
  pub rows : AreListed file V o.roots.now.rows
  pub trees : AreTrees V o.trees.now.known
