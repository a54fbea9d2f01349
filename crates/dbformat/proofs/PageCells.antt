-- A tree page without a fault: all its cells are readable, and have the parts that its kind gives them.
use Rattle.std.proofs.Common.{◌≡◌, ℕ, zero, suc, ◌+◌, inl, inr, Bool, true, false, cond, List, [], ◌∷◌, ◌++◌, length, Option, Some, None, Result, Ok, Err, refl}
use Rattle.std.proofs.Common.{sym, subst, ap}
use Rattle.std.specs.Prelude.{option_map, ◌==◌}
use Rattle.std.specs.List.{range_with_len, enumerate_from, cons_option}
use Rattle.std.specs.Result.{result_ok}
use Rattle.dbformat.specs.Header.{usable_size}
use Rattle.dbformat.specs.File.{page_bytes}
use Rattle.dbformat.specs.Head.{right_number, is_interior, View, view, if_of_tree, is_same_tree, tree_of}
use Rattle.dbformat.specs.Cell.{right_child, Cell, cell, cells, count}
use Rattle.dbformat.specs.PageFaults.{tree_page_faults, faults_of_view, inner_faults, cell_fault, cell_faults, fragment_fault, freeblock_fault, coverage_fault}
use Rattle.dbformat.specs.PageFaults.{empty_fault}
use Rattle.dbformat.specs.Terms.{IsFaultlessPage, cells_of}
use Rattle.dbformat.specs.declared.CellFault.{CellFault}
use Rattle.dbformat.specs.declared.CellFault.TheVariants.{Offset, Unreadable}
use Rattle.dbformat.specs.declared.HeadFault.{HeadFault}
use Rattle.dbformat.specs.declared.TreeKind.{TreeKind}
use Rattle.dbformat.proofs.CellParts.{Fits, cell_fits, at_offset, from_ok, second, numbered}
use Rattle.dbsurvey.proofs.Each.{Each, Each-none, Each-cons}
use Rattle.dbsurvey.proofs.Lists.{both_empty, none_of}

-- the view of an undamaged page is of the tree's kind
undamaged_parts : (kind : TreeKind) (r : Result View HeadFault) (v : View) → if_of_tree kind r ≡ Some v → (r ≡ Ok v)
    × (is_same_tree (tree_of v.kind) kind ≡ true)
undamaged_parts kind (Err e) v h = cc
undamaged_parts kind (Ok w) v h = let k = by_case (is_same_tree (tree_of w.kind) kind) refl h in (ap (λ u. Ok u) k.0, k.1)
  where
    by_case : (b : Bool) → is_same_tree (tree_of w.kind) kind ≡ b → cond b (Some w) None ≡ Some v → (w ≡ v) × (is_same_tree (tree_of v.kind) kind ≡ true)
    by_case true e h = let same : w ≡ v = cc in (same, subst (λ u. is_same_tree (tree_of u.kind) kind ≡ true) same e)
    by_case false e h = cc

-- cell by cell

-- where all are there, they are numbered without a gap
record AreAll (f : ℕ → Option Cell) (k n : ℕ) (xs : List (ℕ × Cell)) : Type 0 where
  pub numbers : xs ≡ enumerate_from k (second xs)
  pub long : length (second xs) ≡ n
  pub each : Each (λ c. (i : ℕ) × (f i ≡ Some c)) (second xs)

all_there : (f : ℕ → Option Cell) (k n : ℕ) → Each (λ i. (c : Cell) × (f i ≡ Some c)) (range_with_len k n) → AreAll f k n (numbered f k n)
all_there f k zero h = record { numbers = refl; long = refl; each = Each-none (λ c. (i : ℕ) × (f i ≡ Some c)) }
all_there f k (suc n) h =
    let c = h k (inl refl) in
    let rest = all_there f (k + 1) n (λ i j. h i (inr j)) in
    subst One (sym c.1) (record {
      numbers = ap (λ xs. (k, c.0) ∷ xs) rest.numbers;
      long = ap suc rest.long;
      each = Each-cons (λ c. (i : ℕ) × (f i ≡ Some c)) c.0 (second (numbered f (k + 1) n)) (k, c.1) rest.each;
    })
  where
    One : Option Cell → Type 0
    One o = AreAll f k (suc n) (cons_option (option_map (λ c. (k, c)) o) (numbered f (k + 1) n))

-- what a tree page without a fault has
pub record HasAllCells (file : List ℕ) (kind : TreeKind) (p : ℕ) (v : View) : Type 0 where
  pub view_is : view p (usable_size file) (page_bytes file p) ≡ Ok v
  pub same_kind : is_same_tree (tree_of v.kind) kind ≡ true
  pub numbers : cells v ≡ enumerate_from 0 (cells_of v)
  pub long : count v ≡ length (cells_of v)
  pub fit : Each (Fits v.kind) (cells_of v)
  pub reads : Each (λ c. (i : ℕ) × (cell v i ≡ Ok c)) (cells_of v)

readable : (v : View) (i : ℕ) → cell_fault v i ≡ [] → (c : Cell) × (cell v i ≡ Ok c)
readable v i e = by_result (cell v i) refl
  where
    by_result : (r : Result Cell CellFault) → cell v i ≡ r → (c : Cell) × (cell v i ≡ Ok c)
    by_result (Ok c) f = (c, f)
    by_result (Err Offset) f = let g = rw f at e in cc
    by_result (Err Unreadable) f = let g = rw f at e in cc

inner_none : (kind : TreeKind) (is_child : Bool) (p : ℕ) (page : List ℕ) (v : View) → is_same_tree (tree_of v.kind) kind ≡ true
    → faults_of_view kind is_child p page (Ok v) ≡ [] → cell_faults v ≡ []
inner_none kind is_child p page v same e =
    let inner : inner_faults v is_child ≡ [] = rw same at e in
    let a = both_empty (fragment_fault v ++ cell_faults v ++ freeblock_fault v ++ coverage_fault v (length (cell_faults v ++ freeblock_fault v) == 0))
    (empty_fault v is_child) inner in
    let b = both_empty (fragment_fault v ++ cell_faults v ++ freeblock_fault v) (coverage_fault v (length (cell_faults v ++ freeblock_fault v) == 0)) a.0 in
    let c = both_empty (fragment_fault v ++ cell_faults v) (freeblock_fault v) b.0 in
    (both_empty (fragment_fault v) (cell_faults v) c.0).1

pub has_all_cells : {file : List ℕ} {kind : TreeKind} {is_child : Bool} {p : ℕ} {v : View} → IsFaultlessPage file kind is_child p v → HasAllCells file kind p v
unfolding tree_page_faults cells
has_all_cells {file} {kind} {is_child} {p} {v} w =
    let parts = undamaged_parts kind (view p (usable_size file) (page_bytes file p)) v w.undamaged in
    let none : cell_faults v ≡ [] = inner_none kind is_child p (page_bytes file p) v parts.1
    (subst (λ r. faults_of_view kind is_child p (page_bytes file p) r ≡ []) parts.0 w.faultless) in
    let all = all_there (λ i. result_ok (cell v i)) 0 (count v)
    (λ i j. let k = readable v i (none_of (cell_fault v) (range_with_len 0 (count v)) none i j) in (k.0, ap result_ok k.1)) in
    record {
      view_is = parts.0;
      same_kind = parts.1;
      numbers = all.numbers;
      long = sym all.long;
      fit = λ c j. let k = all.each c j in let o = at_offset v k.0 c (from_ok v k.0 c k.1) in cell_fits v.kind v o.0 c o.1;
      reads = λ c j. let k = all.each c j in (k.0, from_ok v k.0 c k.1);
    }

-- a page with a right child is interior
pub has_right : (v : View) (right : ℕ) → right_child v ≡ Some right → is_interior v.kind ≡ true
has_right v right e = by_case (is_interior v.kind) (right_number v.number v.bytes) e
  where
    by_case : (b : Bool) (q : ℕ) → cond b (Some q) None ≡ Some right → b ≡ true
    by_case true q e = refl
    by_case false q e = cc
