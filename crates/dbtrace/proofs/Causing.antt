-- Faults with the causes of their codes: where two readings agree on the codes, they report the faults alike.
use Rattle.std.proofs.Common.{◌≡◌, ℕ, Bool, true, false, cond, List, [], ◌∷◌, ◌++◌, map, length, drop, get_or, Option, Some, None, Result, Ok, Err, refl, sym}
use Rattle.std.proofs.Common.{ap, ap₂, ◌∙◌}
use Rattle.std.specs.Prelude.{flat_map, is_none, ◌==◌}
use Rattle.std.specs.List.{range_with_len}
use Rattle.std.proofs.lemmas.List.{append-nil, map-append}
use Rattle.dbtrace.proofs.Common.{reported_if, fault, usable_size, page_bytes, View, Cell, Role, root, child, first_overflow, later_overflow, trunk, free_leaf}
use Rattle.dbtrace.proofs.Common.{Reference, role_of, tree_kind, depth_fault, page_faults, SchemaCell, Fault, FaultCode, TreeKind, reported_fault, reported_by}
use Rattle.dbtrace.proofs.Common.{Cause}
use Rattle.dbformat.specs.Head.{view, tree_of, is_same_tree}
use Rattle.dbformat.specs.Cell.{cell, count}
use Rattle.dbformat.specs.Coverage.{bad_freeblock, coverage}
use Rattle.dbformat.specs.PageFaults.{fragment_fault, cell_fault, cell_faults, freeblock_fault, coverage_fault, empty_fault, inner_faults, faults_of_view}
use Rattle.dbformat.specs.PageFaults.{tree_page_faults, role_faults}
use Rattle.dbformat.specs.SchemaRow.{SchemaRow}
use Rattle.dbformat.specs.KeyFaults.{row_faults_if}
use Rattle.dbformat.specs.declared.CellFault.{CellFault}
use Rattle.dbformat.specs.declared.CellFault.TheVariants.{Offset, Unreadable}
use Rattle.dbformat.specs.declared.Coverage.{Coverage}
use Rattle.dbformat.specs.declared.Coverage.TheVariants.{Overlap, Unheld}
use Rattle.dbformat.specs.declared.FaultCode.TheVariants.{P01, P02, P03, P04, P05, P06, P07, P08, P09, P10, O01, L01, S01, S02, S03, S04}
use Rattle.dbformat.specs.declared.HeadFault.{HeadFault}
use Rattle.dbformat.specs.declared.HeadFault.TheVariants.{UnknownType, ContentStart}
use Rattle.dbformat.specs.declared.RowFault.{RowFault}
use Rattle.dbformat.specs.declared.RowFault.TheVariants.{Malformed, Root}
use Rattle.dbtrace.specs.Finding.{reported_alone}
use Rattle.dbtrace.specs.declared.Cause.TheVariants.{Itself}
use Rattle.dbtrace.proofs.Depths.{no_depth, reported_same}

pub reported_by-append : (why : FaultCode → Cause) (xs ys : List Fault) → reported_by why (xs ++ ys) ≡ reported_by why xs ++ reported_by why ys
reported_by-append why xs ys = map-append (λ f. reported_fault f (why f.code)) xs ys

-- the codes of a page of a tree, those within an undamaged one last, and those of a row of the schema
abbrev pub inner_codes : List FaultCode
inner_codes = P04 ∷ P05 ∷ P06 ∷ P07 ∷ P08 ∷ P09 ∷ P10 ∷ []

abbrev pub page_codes : List FaultCode
page_codes = P01 ∷ P02 ∷ P03 ∷ inner_codes

abbrev pub row_codes : List FaultCode
row_codes = S01 ∷ S02 ∷ S03 ∷ S04 ∷ []

-- two readings agree on some codes
abbrev pub AgreeOn : List FaultCode → (FaultCode → Cause) → (FaultCode → Cause) → Type 0
AgreeOn codes why other = map why codes ≡ map other codes

-- one reading of codes for which nothing is known
abbrev pub alone : FaultCode → Cause
alone code = Itself

-- they agree on one code, by its place in the list
cause_at : (i : ℕ) {found wanted : List Cause} → found ≡ wanted → get_or found i Itself ≡ get_or wanted i Itself
cause_at i e = ap (λ causes. get_or causes i Itself) e

module _ (why other : FaultCode → Cause) where
  -- they report some faults alike
  abbrev pub AreSame : List Fault → Type 0
  AreSame fs = reported_by why fs ≡ reported_by other fs

  same-append : (xs ys : List Fault) → AreSame xs → AreSame ys → AreSame (xs ++ ys)
  same-append xs ys h k = reported_by-append why xs ys ∙ ap₂ (λ a b. a ++ b) h k ∙ sym (reported_by-append other xs ys)

  same-each : {X : Type 0} (each : X → List Fault) (xs : List X) → ((x : X) → AreSame (each x)) → AreSame (flat_map each xs)
  same-each each [] h = refl
  same-each each (x ∷ xs) h = same-append (each x) (flat_map each xs) (h x) (same-each each xs h)

  same_one : (f : Fault) → why f.code ≡ other f.code → AreSame (f ∷ [])
  same_one f e = ap (λ c. reported_fault f c ∷ []) e

  -- the faults within a page
  module _ (h : AgreeOn inner_codes why other) where
    pub inner_same : (v : View) (is_child : Bool) → AreSame (inner_faults v is_child)
    inner_same v is_child =
        same-append (fragment_fault v ++ cell_faults v ++ freeblock_fault v ++ coverage_fault v good) (empty_fault v is_child)
        (same-append (fragment_fault v ++ cell_faults v ++ freeblock_fault v) (coverage_fault v good)
        (same-append (fragment_fault v ++ cell_faults v) (freeblock_fault v)
        (same-append (fragment_fault v) (cell_faults v) (reported_same why other _ _ (cause_at 0 h))
        (same-each (cell_fault v) (range_with_len 0 (count v)) at_cell))
        (at_freeblock (bad_freeblock v) refl))
        (at_coverage good (coverage v) refl))
        (reported_same why other _ _ (cause_at 6 h))
      where
        good : Bool
        good = length (cell_faults v ++ freeblock_fault v) == 0

        at_cell : (i : ℕ) → AreSame (cell_fault v i)
        at_cell i = by_cell (cell v i) refl
          where
            by_cell : (c : Result Cell CellFault) → cell v i ≡ c → AreSame (cell_fault v i)
            by_cell (Ok c) e = rw e refl
            by_cell (Err Offset) e = rw e (same_one _ (cause_at 1 h))
            by_cell (Err Unreadable) e = rw e (same_one _ (cause_at 2 h))

        at_freeblock : (o : Option (ℕ × ℕ)) → bad_freeblock v ≡ o → AreSame (freeblock_fault v)
        at_freeblock None e = rw e refl
        at_freeblock (Some b) e = rw e (same_one _ (cause_at 3 h))

        at_coverage : (is_good : Bool) (c : Coverage) → coverage v ≡ c → AreSame (coverage_fault v is_good)
        at_coverage is_good (Overlap k) e = rw e (same_one _ (cause_at 4 h))
        at_coverage is_good (Unheld n) e = rw e (reported_same why other _ _ (cause_at 5 h))

  row_same : AgreeOn row_codes why other → (is_full : Bool) (c : SchemaCell) → AreSame (row_faults_if is_full c)
  row_same h is_full c = by_row c.row
    where
      by_row : (row : Result SchemaRow RowFault) → AreSame (row_faults_if is_full (record c { row = row }))
      by_row (Err Malformed) = same_one _ (cause_at 0 h)
      by_row (Err (Root value)) = same_one _ (cause_at 2 h)
      by_row (Ok r) = same-append (reported_if (is_none r.name) (fault S02 c.page c.item c.rowid)) _ (reported_same why other _ _ (cause_at 1 h))
          (reported_same why other _ _ (cause_at 3 h))

  -- The faults of a page for itself.

  -- of a page of a tree
  module _ (h : AgreeOn page_codes why other) where
    pub tree_same : (kind : TreeKind) (is_child : Bool) (p usable : ℕ) (page : List ℕ) → AreSame (tree_page_faults kind is_child p usable page)
    unfolding tree_page_faults
    tree_same kind is_child p usable page = by_view (view p usable page)
      where
        by_tree : (v : View) (b : Bool) (f : Fault) → why f.code ≡ other f.code → AreSame (cond b (inner_faults v is_child) (f ∷ []))
        by_tree v true f e = inner_same (ap (drop 3) h) v is_child
        by_tree v false f e = same_one f e

        by_view : (v : Result View HeadFault) → AreSame (faults_of_view kind is_child p page v)
        by_view (Err UnknownType) = same_one _ (cause_at 0 h)
        by_view (Err ContentStart) = same_one _ (cause_at 2 h)
        by_view (Ok v) = by_tree v (is_same_tree (tree_of v.kind) kind) _ (cause_at 1 h)

  -- of any
  pub page_same : (file : List ℕ) → why O01 ≡ other O01 → why L01 ≡ other L01 → (r : Reference)
      → ((kind : TreeKind) → tree_kind (role_of r) ≡ Some kind → AgreeOn page_codes why other) → AreSame (page_faults file [] r)
  unfolding page_faults
  page_same file chains trunks r in_tree = by_role (role_of r) refl
    where
      tree_page : (kind : TreeKind) (is_child : Bool) → AgreeOn page_codes why other → AreSame
          (tree_page_faults kind is_child r.page (usable_size file) (page_bytes file r.page) ++ depth_fault file [] r)
      tree_page kind is_child h =
          let fs = tree_page_faults kind is_child r.page (usable_size file) (page_bytes file r.page) in
          let none : fs ++ depth_fault file [] r ≡ fs = ap (λ l. fs ++ l) (no_depth file r) ∙ append-nil fs in
          ap (reported_by why) none ∙ tree_same h kind is_child r.page (usable_size file) (page_bytes file r.page) ∙ sym (ap (reported_by other) none)

      by_role : (role : Role) → role_of r ≡ role → AreSame (role_faults role file [] r)
      by_role (root kind) e = tree_page kind false (in_tree kind (ap tree_kind e))
      by_role (child kind) e = tree_page kind true (in_tree kind (ap tree_kind e))
      by_role (first_overflow left) e = reported_same why other _ _ chains
      by_role (later_overflow left) e = reported_same why other _ _ chains
      by_role trunk e = reported_same why other _ _ trunks
      by_role free_leaf e = refl

-- those of rows of the schema go back to nothing else
pub rows_alone : (why : FaultCode → Cause) → AgreeOn row_codes why alone → (is_full : Bool) (rows : List SchemaCell)
    → reported_by why (flat_map (row_faults_if is_full) rows) ≡ map reported_alone (flat_map (row_faults_if is_full) rows)
rows_alone why h is_full rows = same-each why alone (row_faults_if is_full) rows (row_same why alone h is_full)
