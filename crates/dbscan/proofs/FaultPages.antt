-- The faults of an event are of its page: of the one that is visited, or that a reference is found on.
use Rattle.dbscan.proofs.Common.{arith, ◌≡◌, ℕ, inl, inr, Bool, true, false, cond, not, ◌&&◌, List, [], ◌∷◌, ◌++◌, length, Option, Some, None, Result, Ok, Err}
use Rattle.dbscan.proofs.Common.{refl, ap, subst, ◌∙◌, flat_map, pos, ℤ, ◌==◌, IsIn, start_of, schema_start, page_bytes, View, is_interior, usable_size, Role}
use Rattle.dbscan.proofs.Common.{root, child, free_leaf, Reference, role_of, from_of, event_faults, SchemaCell, schema_cell, SchemaRow, Event, at_page, at_key}
use Rattle.dbscan.proofs.Common.{at_refused, Fault, range_with_len, IsIn-cases, IsIn-from_flat_map, FaultCode, RowFault, Cell, cell, count}
use Rattle.dbformat.specs.Coverage.{bad_freeblock, coverage}
use Rattle.dbformat.specs.Faults.{fault}
use Rattle.dbformat.specs.Head.{view, view_of_kind, type_byte, page_kind, is_same_tree, tree_of}
use Rattle.dbformat.specs.KeyFaults.{key_of, key_faults, row_faults, row_faults_if, cell_place_faults}
use Rattle.dbformat.specs.PageFaults.{cell_fault, cell_faults, freeblock_fault, coverage_fault, inner_faults, faults_of_view, tree_page_faults, depth_fault}
use Rattle.dbformat.specs.PageFaults.{role_faults, page_faults}
use Rattle.dbformat.specs.ReferenceFaults.{refusal_fault, reference_faults}
use Rattle.dbformat.specs.Survey.{refused}
use Rattle.dbformat.specs.Tests.{reported_if}
use Rattle.dbformat.specs.declared.CellFault.{CellFault}
use Rattle.dbformat.specs.declared.CellFault.TheVariants.{Offset, Unreadable}
use Rattle.dbformat.specs.declared.Coverage.{Coverage}
use Rattle.dbformat.specs.declared.Coverage.TheVariants.{Overlap, Unheld}
use Rattle.dbformat.specs.declared.FaultCode.TheVariants.{P02}
use Rattle.dbformat.specs.declared.HeadFault.{HeadFault}
use Rattle.dbformat.specs.declared.HeadFault.TheVariants.{UnknownType, ContentStart}
use Rattle.dbformat.specs.declared.PageKind.{PageKind}
use Rattle.dbformat.specs.declared.RowFault.TheVariants.{Malformed, Root}
use Rattle.dbformat.specs.declared.TreeKind.{TreeKind}

-- all of these faults are of page p
abbrev pub AreOf : ℕ → List Fault → Type 0
AreOf p fs = (f : Fault) → IsIn f fs → f.page ≡ p

record Of (p : ℕ) (fs : List Fault) : Type 0 where
  each : AreOf p fs

module _ (p : ℕ) where
  of_none : Of p []
  of_none = record { each = λ f i. absurd i }

  of_one : (g : Fault) → g.page ≡ p → Of p (g ∷ [])
  of_one g e = record { each = λ f i. elim i [ inl h ↦ ap (λ (f : Fault). f.page) h ∙ e | inr n ↦ absurd n ] }

  of_both : (xs ys : List Fault) → Of p xs → Of p ys → Of p (xs ++ ys)
  of_both xs ys h k = record { each = λ f i. elim (IsIn-cases f xs ys i) [ inl j ↦ h.each f j | inr j ↦ k.each f j ] }

  of_if : (b : Bool) (g : Fault) → g.page ≡ p → Of p (reported_if b g)
  of_if true g e = of_one g e
  of_if false g e = of_none

  of_each : {X : Type 0} (each : X → List Fault) (xs : List X) → ((x : X) → Of p (each x)) → Of p (flat_map each xs)
  of_each each xs h = record { each = λ f i. let m = IsIn-from_flat_map each xs f i in (h m.0).each f m.2 }

-- ---- a page of a tree

inner_of : (v : View) (is_child : Bool) → Of v.number (inner_faults v is_child)
inner_of v is_child =
    let p = v.number in
    of_both p _ _ (of_both p _ _ (of_both p _ _ (of_both p _ _ (of_if p _ _ refl)
    (of_each p (cell_fault v) (range_with_len 0 (count v)) (λ i. at_cell i (cell v i) refl)))
    (at_freeblock (bad_freeblock v) refl)) (at_coverage good (coverage v) refl)) (of_if p _ _ refl)
  where
    good : Bool
    good = length (cell_faults v ++ freeblock_fault v) == 0

    at_cell : (i : ℕ) (c : Result Cell CellFault) → cell v i ≡ c → Of v.number (cell_fault v i)
    at_cell i (Ok c) e = rw e (of_none v.number)
    at_cell i (Err Offset) e = rw e (of_one v.number _ refl)
    at_cell i (Err Unreadable) e = rw e (of_one v.number _ refl)

    at_freeblock : (o : Option (ℕ × ℕ)) → bad_freeblock v ≡ o → Of v.number (freeblock_fault v)
    at_freeblock None e = rw e (of_none v.number)
    at_freeblock (Some b) e = rw e (of_one v.number _ refl)

    at_coverage : (is_good : Bool) (c : Coverage) → coverage v ≡ c → Of v.number (coverage_fault v is_good)
    at_coverage is_good (Overlap k) e = rw e (of_one v.number _ refl)
    at_coverage is_good (Unheld n) e = rw e (of_if v.number _ _ refl)

-- the number of a view is the page's
number_is : (p usable : ℕ) (page : List ℕ) (o : Option PageKind) (v : View) → view_of_kind p usable page o ≡ Ok v → v.number ≡ p
number_is p usable page o v e = grind arith

tree_of_page : (kind : TreeKind) (is_child : Bool) (p usable : ℕ) (page : List ℕ) → Of p (tree_page_faults kind is_child p usable page)
unfolding tree_page_faults view
tree_of_page kind is_child p usable page = by_view (view p usable page) (λ v e. number_is p usable page (page_kind (type_byte p page)) v e)
  where
    by_view : (r : Result View HeadFault) → ((v : View) → r ≡ Ok v → v.number ≡ p) → Of p (faults_of_view kind is_child p page r)
    by_view (Err UnknownType) h = of_one p _ refl
    by_view (Err ContentStart) h = of_one p _ refl
    by_view (Ok v) h = by_tree (is_same_tree (tree_of v.kind) kind)
      where
        by_tree : (b : Bool) → Of p (cond b (inner_faults v is_child) (fault P02 p 0 (pos (type_byte p page)) ∷ []))
        by_tree true = subst (λ q. Of q (inner_faults v is_child)) (h v refl) (inner_of v is_child)
        by_tree false = of_one p _ refl

page_of : (file : List ℕ) (V : List Reference) (r : Reference) → Of r.page (page_faults file V r)
unfolding page_faults depth_fault
page_of file V r = by_role (role_of r)
  where
    by_role : (role : Role) → Of r.page (role_faults role file V r)
    by_role (root kind) = of_both r.page _ _ (tree_of_page kind false r.page (usable_size file) (page_bytes file r.page)) (of_if r.page _ _ refl)
    by_role (child kind) = of_both r.page _ _ (tree_of_page kind true r.page (usable_size file) (page_bytes file r.page)) (of_if r.page _ _ refl)
    by_role free_leaf = of_none r.page
    by_role _ = of_if r.page _ _ refl

-- ---- a cell

row_of_cell : (is_full : Bool) (c : SchemaCell) → Of c.page (row_faults_if is_full c)
row_of_cell is_full c = by_row c.row
  where
    by_row : (row : Result SchemaRow RowFault) → Of c.page (row_faults_if is_full (record c { row = row }))
    by_row (Err Malformed) = of_one c.page _ refl
    by_row (Err (Root value)) = of_one c.page _ refl
    by_row (Ok r) = of_both c.page _ _ (of_if c.page _ _ refl) (of_if c.page _ _ refl)

cell_of_page : (file : List ℕ) (V : List Reference) (r : Reference) (v : View) (x : ℕ × Cell) → Of r.page (cell_place_faults file V r v x)
unfolding row_faults key_faults
cell_of_page file V r v (i, c) = of_both r.page _ _ (by_case ((start_of r.address == schema_start) && not (is_interior v.kind))) (by_key c.key)
  where
    by_case : (b : Bool) → Of r.page (cond b (row_faults file V (schema_cell file V r (i, c))) [])
    by_case true = row_of_cell _ (schema_cell file V r (i, c))
    by_case false = of_none r.page

    by_key : (o : Option ℤ) → Of r.page (flat_map (key_faults file V) (key_of r v (i, record c { key = o })))
    by_key None = of_none r.page
    by_key (Some value) = of_both r.page _ _ (of_if r.page _ _ refl) (of_none r.page)

-- ---- a reference that is refused

refusal_of : (file : List ℕ) (V : List Reference) (r : Reference) → Of (from_of r) (reference_faults file V r)
refusal_of file V r = by_code (refused file V r) refl
  where
    by_code : (o : Option FaultCode) → refused file V r ≡ o → Of (from_of r) (reference_faults file V r)
    by_code None e = rw e (of_none (from_of r))
    by_code (Some code) e = rw e (of_one (from_of r) (refusal_fault r code) refl)

-- ---- an event

-- the page of an event
abbrev pub page_of_event : Event → ℕ
page_of_event (at_page r) = r.page
page_of_event (at_key r v x) = r.page
page_of_event (at_refused r) = from_of r

pub event_of_page : (file : List ℕ) (V : List Reference) (e : Event) → AreOf (page_of_event e) (event_faults file V e)
event_of_page file V (at_page r) = (page_of file V r).each
event_of_page file V (at_key r v x) = (cell_of_page file V r v x).each
event_of_page file V (at_refused r) = (refusal_of file V r).each
