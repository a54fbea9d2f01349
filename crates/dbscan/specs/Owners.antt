-- Who owns page p of a file, and as what, where V is the survey of the file: each page of V has one visit, and the address of
-- a visit begins with the start that it was reached from.
use Rattle.std.specs.Prelude.{◌≡◌, ◌↔◌, ℕ, List, [], ◌∷◌, find, ◌==◌, if◌then◌else◌}
use Rattle.std.specs.Option.{option_map_or}
use Rattle.dbsurvey.specs.Address.{IsIn}
use Rattle.dbformat.specs.Address.{start_of, freelist_start}
use Rattle.dbformat.specs.EndFaults.{visit_of}
use Rattle.dbformat.specs.File.{geometry}
use Rattle.dbformat.specs.FixedPages.{is_fixed}
use Rattle.dbformat.specs.Reference.{Role, root, child, first_overflow, later_overflow, trunk, free_leaf, Reference, role_of, from_of}
use Rattle.dbformat.specs.Schema.{starts}
use Rattle.dbformat.specs.Starts.{start_at, is_start, first_start}
use Rattle.dbformat.specs.Survey.{Survey}
use Rattle.dbscan.specs.declared.place.Place.{Place}
use Rattle.dbscan.specs.declared.place.Place.TheVariants as place

-- what a page is that is visited in a role, from a page
abbrev pub place_in : Role → ℕ → Place
place_in (root kind) from = place.Root
place_in (child kind) from = place.ChildOf from
place_in (first_overflow left) from = place.OverflowOf from
place_in (later_overflow left) from = place.OverflowAfter from
place_in trunk from = place.Trunk
place_in free_leaf from = place.FreeLeaf

-- what page p is: one of fixed use; or what its visit is; or nothing where no visit names it
unfoldable pub place_of : List ℕ → List Reference → ℕ → Place
place_of file V p =
    if is_fixed (geometry file) p then place.Fixed else option_map_or (λ r. place_in (role_of r) (from_of r)) (visit_of V p) place.Nowhere

-- Who a page belongs to: to nobody; to the layout of the file, where it has a fixed use; to the freelist; or to the tree with
-- this root page.
pub data Owner : Type 0 where
  Nobody : Owner
  Layout : Owner
  Freelist : Owner
  Tree : ℕ → Owner

-- what belongs to a start: the freelist, or the tree of the page that is visited there
abbrev pub owner_at : List Reference → ℕ → Owner
owner_at V k = if k == freelist_start then Freelist else option_map_or (λ u. Tree u.page) (find (is_start k) V) Nobody

-- the owner of page p: the layout, or the owner at the start of its visit
unfoldable pub owner_of : List ℕ → List Reference → ℕ → Owner
owner_of file V p =
    if is_fixed (geometry file) p then Layout else option_map_or (λ r. owner_at V (start_of r.address)) (visit_of V p) Nobody

-- A visited page has an owner: the freelist, just where its visit is below that start; or else the tree of a root page, which
-- is visited at the start of its visit, and that is the first start that names this root page.
pub record HasOwner (file : List ℕ) (V : List Reference) (r : Reference) : Type 0 where
  pub free : (owner_of file V r.page ≡ Freelist) ↔ (start_of r.address ≡ freelist_start)
  pub tree : (start_of r.address ≡ freelist_start → ⊥) → (u : Reference) × IsIn u V × (u.address ≡ start_of r.address ∷ [])
      × (owner_of file V r.page ≡ Tree u.page)
  pub first : (q : ℕ) → owner_of file V r.page ≡ Tree q → first_start (starts file V) q ≡ start_at V r.page

-- so it is of each visit of a survey
abbrev pub AreOwned : List ℕ → Type 0
AreOwned file = (V : List Reference) → Survey file V → (r : Reference) → IsIn r V → HasOwner file V r
