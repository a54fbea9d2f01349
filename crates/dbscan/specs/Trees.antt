-- What a page is by its mark, and the start that it belongs to, by its mark and by the rows that were received.
use Rattle.std.specs.Prelude.{◌≡◌, ℕ, false, List, slice_get, slice_set, Option, Some, None}
use Rattle.dbsurvey.specs.Address.{IsIn}
use Rattle.dbformat.specs.Address.{start_of, freelist_start}
use Rattle.dbformat.specs.Reference.{Reference, role_of, is_on_freelist}
use Rattle.dbformat.specs.Rows.{StatRow}
use Rattle.dbmarks.specs.declared.marks.Mark.{Mark}
use Rattle.dbmarks.specs.declared.marks.Mark.TheVariants.{Fixed, Root, Trunk, FreeLeaf, FirstOverflow, LaterOverflow, Child}
use Rattle.dbscan.specs.declared.page_trees.PageTrees.TheInside.{Inside}
use Rattle.dbscan.specs.declared.place.Place.{Place}
use Rattle.dbscan.specs.declared.place.Place.TheVariants as place

-- what a page with this mark is, if there is such a page
abbrev pub place_by : Option Mark → Place
place_by (Some Fixed) = place.Fixed
place_by (Some Root) = place.Root
place_by (Some Trunk) = place.Trunk
place_by (Some FreeLeaf) = place.FreeLeaf
place_by (Some (FirstOverflow from)) = place.OverflowOf from
place_by (Some (LaterOverflow from)) = place.OverflowAfter from
place_by (Some (Child from)) = place.ChildOf from
place_by _ = place.Nowhere

-- what was noted of the pages, by their numbers: of a page of a tree or a chain the start of its tree
pub record Trees : Type 0 where
  pub known : List ℕ

-- what the fields hold
abbrev pub trees : {A : Type 0} → Inside A → Trees
trees t = record { known = t.starts.items }

-- the start of a row is noted of its page
abbrev pub row_noted : List ℕ → StatRow → List ℕ
row_noted known r = slice_set known r.page r.start

-- the start of a page with this mark, by what was noted of it
abbrev pub start_by : Option Mark → Option ℕ → Option ℕ
start_by (Some Root) known = known
start_by (Some (FirstOverflow from)) known = known
start_by (Some (LaterOverflow from)) known = known
start_by (Some (Child from)) known = known
start_by (Some Trunk) known = Some freelist_start
start_by (Some FreeLeaf) known = Some freelist_start
start_by _ known = None

-- the start is noted of each page of a tree or a chain of a file with survey V
abbrev pub AreTrees : List Reference → List ℕ → Type 0
AreTrees V known = (r : Reference) → IsIn r V → is_on_freelist (role_of r) ≡ false → slice_get known r.page ≡ Some (start_of r.address)
