-- The step at the place of a cell's key: of an interior page or a leaf, with a key or without, and of the schema's rows. And
-- cells of a leaf that have nothing but their keys to look at, while the keys rise: they hand out nothing, and change only the
-- greatest key.
use Rattle.std.proofs.Common.{◌≡◌, ℕ, ℤ, int_lt, Bool, true, false, not, List, [], ◌∷◌, ◌++◌, map, Option, Some, None, refl, sym, ap, ◌∙◌, zero}
use Rattle.std.proofs.Common.{suc, ◌+◌, ◌<◌, ◌≤◌, ◌<ℤ◌, arith, Ok, Err, Result, subst, flat_map, ◌==◌, option_and_then}
use Rattle.dbwalk.proofs.Common.{start_of, schema_start, Cell, cell, count, View, is_interior, Reference, role_of, tree_kind, tree_view, SchemaCell}
use Rattle.dbwalk.proofs.Common.{at_key, own_visit, story_of, T06, FaultCode, left_rows, RowidBounds, Finding}
use Rattle.dbwalk.proofs.Common.{reported_by, Cause, CellKey, Item, found, given, items_at, Progress, cause_by, rows_of, key_value, Walk, advance, run_below}
use Rattle.dbwalk.proofs.Common.{bare, key_cause, order_reported, placed, top_after, AreRisingFrom, IsIn, Address, AreQuiet, Due, errands_of}
use Rattle.dbwalk.proofs.Common.{errands_in, cell_errands, report_cell, CellFault, TreeKind, IsAboveLast, IsAllLocal, key_at, IsAt, HasDone, done_below, Mark}
use Rattle.dbwalk.proofs.Common.{Tree, append-nil, range_with_len, option_map_or, option_or, result_ok, flat_map-append, all_quiet, has_steps, nat_tests}
use Rattle.dbformat.specs.KeyFaults.{key_of}
use Rattle.dbtrace.specs.Progress.{late_faults, greatest_after}
use Rattle.dbtrace.proofs.Keys.{le_is}
use Rattle.std.proofs.lemmas.Int.{ints}
use Rattle.dbsurvey.proofs.Ordering.{IsIn-from_flat_map}
use Rattle.dbformat.proofs.Cells.{is_of_kind}
use Rattle.dbformat.proofs.Looping.{range-more}
use Rattle.dbwalk.proofs.Pages.PageVisits.{reported_once}
use Rattle.dbwalk.proofs.Trees.Stacking.{cells_in}
use Rattle.dbwalk.proofs.Leaves.LeafErrands.{leaf_errands_are}

-- the fault of a cell's key, if it has one, as the program reports it
abbrev pub order_reported_of : Bool → Option RowidBounds → Option CellKey → ℕ → ℕ → Option ℤ → List Finding
order_reported_of is_rowid left top page item None = []
order_reported_of is_rowid left top page item (Some value) = order_reported is_rowid left top page item value

module _ (file : List ℕ) (r : Reference) (v : View) (n : ℕ) (x : Cell) where
  key_faults_are : (why : FaultCode → Cause) (top : Option CellKey) → why T06 ≡ key_cause (left_rows v (n, x)) top
      → reported_by why (flat_map (late_faults top) (key_of r v (n, x)))
      ≡ order_reported_of (not (is_interior v.kind)) (left_rows v (n, x)) top r.page n x.key
  key_faults_are why top e = grind (arith, append-nil, le_is, reported_once)

  greatest_is : (top : Option CellKey) → greatest_after top (key_of r v (n, x)) ≡ top_after top r.page n x.key
  greatest_is top = grind arith

  -- what the cell hands out, where these are its rows of the schema: the rows, and then the key's fault
  pub cell_items : (U : List Reference) (p : Progress) (rows : List SchemaCell) → rows_of file U r v (n, x) ≡ rows
      → items_at file U p (at_key r v (n, x)) ≡ map given rows ++ map found (order_reported_of (not (is_interior v.kind)) (left_rows v
      (n, x)) p.greatest r.page n x.key)
  cell_items U p rows are = ap (λ l. map given l ++ map found
      (reported_by (cause_by file U p (at_key r v (n, x))) (flat_map (late_faults p.greatest) (key_of r v (n, x))))) are
      ∙ ap (λ l. map given rows ++ map found l) (key_faults_are (cause_by file U p (at_key r v (n, x))) p.greatest refl)

  -- the greatest key after it
  pub greatest_behind : (now : Walk) → (advance file now (at_key r v (n, x))).state.greatest ≡ top_after now.state.greatest r.page n x.key
  greatest_behind now = greatest_is now.state.greatest

-- cells of interior pages, and of trees that are not the schema's, are of no row
pub no_row_inside : (file : List ℕ) (U : List Reference) (r : Reference) (v : View) (x : ℕ × Cell) → is_interior v.kind ≡ true → rows_of file U r v x ≡ []
no_row_inside file U r v x inside = grind arith

pub no_row_elsewhere : (file : List ℕ) (U : List Reference) (r : Reference) (v : View) (x : ℕ × Cell) → (start_of r.address == schema_start) ≡ false
    → rows_of file U r v x ≡ []
no_row_elsewhere file U r v x other = rw other refl

-- the same walk with another greatest key
abbrev pub with_greatest : Walk → Option CellKey → Walk
with_greatest now top = record { visits = now.visits; state = record { greatest = top; leaf = now.state.leaf }; items = now.items }

module _ (file : List ℕ) (r : Reference) (kind : TreeKind) (v : View) (leaf : is_interior v.kind ≡ false)
    (other : (start_of r.address == schema_start) ≡ false) where
  pub quiet : (is : List ℕ) → AreQuiet own_visit (flat_map (cell_errands r kind v) is)
  quiet is e h = let m = IsIn-from_flat_map (cell_errands r kind v) is (Due e) h in by_cell m.0 (cell v m.0) m.2
    where
      by_cell : (i : ℕ) (o : Result Cell CellFault) → IsIn (Due e) (option_map_or (errands_in r kind v i) (result_ok o) []) → own_visit e.event ≡ None
      by_cell i (Ok c) h = all_quiet.0 r kind v i c e h
      by_cell i (Err f) h = absurd h

  -- of a key that is greater than the last one nothing is reported, and it is the greatest
  rises : (top : Option CellKey) (i : ℕ) (x : Cell) → IsAboveLast (key_value top) x.key → (flat_map (late_faults top) (key_of r v (i, x)) ≡ [])
      × (greatest_after top (key_of r v (i, x)) ≡ option_or (placed r.page i x.key) top)
  rises top i x h = by_key x.key top h
    where
      by_key : (o : Option ℤ) (top : Option CellKey) → IsAboveLast (key_value top) o → (flat_map (late_faults top) (key_of r v (i, record x { key = o })) ≡ [])
          × (greatest_after top (key_of r v (i, record x { key = o })) ≡ option_or (placed r.page i o) top)
      by_key None top h = (refl, refl)
      by_key (Some value) None h = (refl, refl)
      by_key (Some value) (Some m) h =
          let l : m.value <ℤ value = h m.value value refl refl in
          let e : int_lt m.value value ≡ true = grind (arith, ints) in (rw (leaf, e) refl, rw e refl)

  -- one cell
  one : (now : Walk) (i : ℕ) → i < count v → (w : IsAllLocal v i) → IsAboveLast (key_value now.state.greatest) (key_at v i)
      → run_below file now (cell_errands r kind v i) ≡ with_greatest now (option_or (placed r.page i (key_at v i)) now.state.greatest)
  one now i l w h =
      let x = w.whole in
      let at : key_at v i ≡ x.key = ap (λ o. option_and_then (λ c. c.key) (result_ok o)) w.readable in
      let rise = rises now.state.greatest i x (subst (IsAboveLast (key_value now.state.greatest)) at h) in
      let alone : cell_errands r kind v i ≡ report_cell r v i x ∷ [] = ap (λ o. option_map_or (errands_in r kind v i) (result_ok o) []) w.readable
      ∙ no_links x w.here ((is_of_kind v (i, x) (cells_in v i x l w.readable)).leaf leaf) in
      let none : rows_of file (now.visits ++ []) r v (i, x) ≡ [] = rw other refl in
      ap (run_below file now) alone ∙ (has_steps file).event now _ [] refl ∙ (has_steps file).none (advance file now (at_key r v (i, x)))
      ∙ walk_is (append-nil now.visits) (rise.1 ∙ ap (λ o. option_or (placed r.page i o) now.state.greatest) (sym at)) none rise.0
    where
      no_links : (x : Cell) → x.overflow ≡ None → x.left ≡ None → errands_in r kind v i x ≡ report_cell r v i x ∷ []
      no_links x e f = rw (e, f) refl

      walk_is : now.visits ++ [] ≡ now.visits → greatest_after now.state.greatest (key_of r v (i, w.whole))
          ≡ option_or (placed r.page i (key_at v i)) now.state.greatest → rows_of file (now.visits ++ []) r v (i, w.whole) ≡ []
          → flat_map (late_faults now.state.greatest) (key_of r v (i, w.whole)) ≡ [] → advance file now (at_key r v (i, w.whole))
          ≡ with_greatest now (option_or (placed r.page i (key_at v i)) now.state.greatest)
      walk_is a b c d = rw (b, c, d, a, append-nil now.items) refl

  -- and several cells
  pub passed : (n from : ℕ) (now : Walk) (after : Option CellKey) → from + n ≤ count v → AreRisingFrom r.page v from n now.state.greatest after
      → run_below file now (flat_map (cell_errands r kind v) (range_with_len from n)) ≡ with_greatest now after
  passed zero from now after l h = (has_steps file).none now ∙ ap (with_greatest now) (sym h)
  passed (suc n) from now after l h =
      ap (λ is. run_below file now (flat_map (cell_errands r kind v) is)) (range-more from n)
      ∙ ap (run_below file now) (flat_map-append (cell_errands r kind v) (range_with_len from n) ((from + n) ∷ [])
      ∙ ap (λ es. flat_map (cell_errands r kind v) (range_with_len from n) ++ es) (append-nil (cell_errands r kind v (from + n))))
      ∙ (has_steps file).join now (flat_map (cell_errands r kind v) (range_with_len from n)) (cell_errands r kind v (from + n)) (quiet (range_with_len from n))
      ∙ ap (λ m. run_below file m (cell_errands r kind v (from + n))) (passed n from now h.0 (omega arith) h.1)
      ∙ one (with_greatest now h.0) (from + n) (omega arith) h.2 h.3
      ∙ ap (with_greatest now) (sym h.4)

-- A leaf whose cells have nothing but their keys to look at, where the keys come after the greatest so far.

-- a start after the first is not the schema's
pub other_start : (a : Address) (k : ℕ) → start_of a ≡ k → 1 ≤ k → (start_of a == schema_start) ≡ false
other_start a k e l = grind (arith, nat_tests)

module _ {P : Type 0} (moves : P → Item → P → Type 0) (stops : P → Item → P → Type 0) (file : List ℕ) (now : Walk) (c : Reference) (kind : TreeKind)
    (v : View) where
  -- its cells hand out nothing, and the last key is the greatest
  pub leaf_passed : (start_of c.address == schema_start) ≡ false → tree_kind (role_of c) ≡ Some kind → tree_view file c ≡ Some v → is_interior v.kind ≡ false
      → (after : Option CellKey) → AreRisingFrom c.page v 0 (count v) now.state.greatest after
      → (marks : List Mark) (tree : Tree) (w : P) → IsAt file (with_greatest now after) marks tree
      → HasDone {A = Unit {0}} moves stops file (done_below file now (errands_of (story_of file) c)) (Ok tt) (marks, tree) w w
  leaf_passed other role viewed leaf after rising marks tree w at =
      let low : 0 + count v ≤ count v = omega arith in
      let all : done_below file now (errands_of (story_of file) c) ≡ with_greatest (bare now) after =
      ap (run_below file (bare now)) (leaf_errands_are file c kind v role viewed leaf)
      ∙ passed file c kind v leaf other (count v) 0 (bare now) after low rising in
      subst (λ m. HasDone {A = Unit {0}} moves stops file m (Ok tt) (marks, tree) w w) (sym all) (record { at = at; handed = refl })
