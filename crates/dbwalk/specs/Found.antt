-- What a page of a tree is, by the bytes at a level, and what is reported of it.
use Rattle.std.specs.Prelude.{◌≡◌, ◌≤◌, length, ℕ, false, pos, List, Option, Some, None, slice_get, IfSome, Bool, [], ◌∷◌, ◌++◌, map, option_to_list}
use Rattle.dbformat.specs.Faults.{fault}
use Rattle.dbformat.specs.Head.{View, undamaged, is_interior, content_start, type_byte}
use Rattle.dbformat.specs.declared.TreeKind.{TreeKind}
use Rattle.dbwalk.specs.LeafCells.{HasSpan}
use Rattle.dbwalk.specs.Walking.{IsOpen}
use Rattle.dbwalk.specs.declared.page.Damage.{Damage}
use Rattle.dbwalk.specs.declared.page.PagePlace.{PagePlace}
use Rattle.dbwalk.specs.declared.page.Damage.TheVariants as damage
use Rattle.dbwalk.specs.declared.state.KeySpan.{KeySpan}
use Rattle.dbwalk.specs.declared.page_report.PageFound.{PageFound}
use Rattle.dbwalk.specs.declared.page_report.PageFound.TheVariants.{Damaged, Interior, Leaf}
use Rattle.dbformat.specs.Counts.{no_counts, view_counts}
use Rattle.dbformat.specs.Laws.{event_row}
use Rattle.dbformat.specs.PageFaults.{inner_faults, page_faults}
use Rattle.dbformat.specs.Reference.{Reference}
use Rattle.dbformat.specs.Story.{at_page}
use Rattle.dbformat.specs.Rows.{StatRow}
use Rattle.dbformat.specs.declared.Fault.{Fault}
use Rattle.dbformat.specs.declared.PageType.TheVariants.{Tree, Damaged}
use Rattle.dbtrace.specs.Causes.{leaf_cause, page_cause, visit_cause}
use Rattle.dbtrace.specs.Finding.{Finding, reported_row, reported_by}
use Rattle.dbtrace.specs.Progress.{depth_faults}
use Rattle.dbtrace.specs.declared.RowidBounds.{RowidBounds}
use Rattle.dbtrace.specs.declared.TreeLeaf.{TreeLeaf}
use Rattle.dbtrace.specs.declared.Cause.{Cause}
use Rattle.dbtrace.specs.declared.Cause.TheVariants as cause
use Rattle.dbformat.specs.declared.FaultCode.{FaultCode}
use Rattle.dbformat.specs.declared.FaultCode.TheVariants.{P01, P02, P03, P10, T05}

-- a page that was read has this many usable bytes
pub record IsUsable (usable : ℕ) (page : List ℕ) : Type 0 where
  pub whole : usable ≤ length page
  pub least : 480 ≤ usable
  pub most : usable ≤ 65536

-- A page that is viewed is at this place, and there is this room to work in, a byte for each usable byte.
pub record IsPlaceOf (place : PagePlace) (view : View) (len : ℕ) : Type 0 where
  pub number : place.page ≡ view.number
  pub most : view.usable ≤ 65536
  pub room : view.usable ≤ len

-- the bytes at a level are those of a page
abbrev pub HasPageAt : List (List ℕ) → ℕ → List ℕ → Type 0
HasPageAt levels level page = (bytes : List ℕ) → slice_get levels level ≡ Some bytes → bytes ≡ page

-- a damaged page
pub record IsDamagedAt (usable : ℕ) (kind : TreeKind) (levels : List (List ℕ)) (level page : ℕ) : Type 0 where
  pub bytes : List ℕ
  pub there : slice_get levels level ≡ Some bytes
  pub viewed : undamaged kind page usable bytes ≡ None

-- an undamaged leaf
pub record IsOpenLeaf (usable : ℕ) (kind : TreeKind) (levels : List (List ℕ)) (level page : ℕ) : Type 0 where
  pub bytes : List ℕ
  pub there : slice_get levels level ≡ Some bytes
  pub view : View
  pub viewed : undamaged kind page usable bytes ≡ Some view
  pub leaf : is_interior view.kind ≡ false

-- an undamaged leaf, with the span of its keys if its cells have nothing else to look at
pub record IsLeafFound (usable : ℕ) (kind : TreeKind) (levels : List (List ℕ)) (level page : ℕ) (keys : Option KeySpan) : Type 0 where
  pub leaf : IsOpenLeaf usable kind levels level page
  pub span : IfSome keys (HasSpan leaf.view)

abbrev pub IsFound : ℕ → TreeKind → List (List ℕ) → ℕ → ℕ → PageFound → Type 0
IsFound usable kind levels level page Damaged = IsDamagedAt usable kind levels level page
IsFound usable kind levels level page Interior = IsOpen usable kind levels level page 0
IsFound usable kind levels level page (Leaf keys) = IsLeafFound usable kind levels level page keys

-- of an undamaged page
abbrev pub view_row : ℕ → List ℕ → View → StatRow
view_row start path v = record {
  start = start;
  path = path;
  chain = None;
  page = v.number;
  pagetype = Tree v.kind;
  counts = view_counts v;
}

-- of a damaged one
abbrev pub damaged_row : ℕ → List ℕ → ℕ → StatRow
damaged_row start path page = record {
  start = start;
  path = path;
  chain = None;
  page = page;
  pagetype = Damaged;
  counts = no_counts;
}

-- the cause of a fault within an undamaged page; and the same where the page's is known: that it has no cells goes back to nothing, and
-- has its rows
abbrev pub view_cause : RowidBounds → View → FaultCode → Cause
view_cause rowids v = page_cause rowids v.number v.usable v.bytes (Some v)

abbrev pub rows_of : Cause → Cause
rows_of (cause.Page page facts) = cause.Rows facts.rowids
rows_of c = c

abbrev pub inner_cause : Cause → FaultCode → Cause
inner_cause page P10 = rows_of page
inner_cause page _ = page

-- what is reported of an undamaged page: its row, and then the faults within it
abbrev pub undamaged_findings : ℕ → List ℕ → RowidBounds → View → Bool → List Finding
undamaged_findings start path rowids v is_child = reported_row (view_row start path v) ∷ reported_by (view_cause rowids v) (inner_faults v is_child)

-- the causes of a page, and that of a leaf at another depth, by its rowids and the first leaf before it
abbrev pub with_leaf : (FaultCode → Cause) → RowidBounds → Option TreeLeaf → FaultCode → Cause
with_leaf why rowids leaf T05 = leaf_cause rowids leaf
with_leaf why rowids leaf code = why code

-- the one fault of page p, which is damaged
abbrev pub damage_fault : ℕ → List ℕ → Damage → Fault
damage_fault p page damage.UnknownType = fault P01 p 0 (pos (type_byte p page))
damage_fault p page damage.OtherTree = fault P02 p 0 (pos (type_byte p page))
damage_fault p page damage.ContentStart = fault P03 p 0 (pos (content_start p page))

-- what is reported of a damaged page: its row, and its one fault, by its bytes
abbrev pub damaged_findings : ℕ → List ℕ → RowidBounds → ℕ → ℕ → List ℕ → Fault → List Finding
damaged_findings start path rowids page usable bytes damage = reported_row (damaged_row start path page)
    ∷ reported_by (page_cause rowids page usable bytes None) (damage ∷ [])

-- what is reported of the visit of a page of a tree: its row, and its faults, by its rowids and the first leaf before it
abbrev pub page_findings : List ℕ → RowidBounds → Option TreeLeaf → Reference → List Finding
page_findings file rowids leaf c = map reported_row (option_to_list (event_row file (at_page c)))
    ++ reported_by (with_leaf (visit_cause rowids file c) rowids leaf) (page_faults file [] c ++ depth_faults file leaf c)
