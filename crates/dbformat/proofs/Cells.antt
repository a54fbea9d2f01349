-- The readable cells of a page: their numbers rise, and those of an interior page have a left child.
use Rattle.std.proofs.Common.{◌≡◌, ℕ, zero, suc, ◌+◌, ◌≤◌, ◌<◌, inl, inr, true, false, List, [], ◌∷◌, Option, Some, None, refl, sym, ap, subst, arith}
use Rattle.std.specs.Prelude.{⊤, filter_map, option_map}
use Rattle.std.specs.List.{range_with_len, cons_option}
use Rattle.std.specs.Result.{result_ok}
use Rattle.dbsurvey.specs.Address.{IsIn, EachPair}
use Rattle.dbformat.specs.Head.{View, is_interior}
use Rattle.dbformat.specs.Cell.{Cell, cell, cells, count}
use Rattle.dbformat.specs.declared.PageKind.{PageKind}
use Rattle.dbformat.specs.declared.PageKind.TheVariants.{InteriorIndex, InteriorTable, LeafIndex, LeafTable}
use Rattle.dbformat.proofs.CellParts.{Fits, cell_fits, at_offset, from_ok}

-- numbered cells whose numbers rise, from k on
abbrev pub RiseFrom : ℕ → List (ℕ × Cell) → Type 0
RiseFrom k [] = ⊤
RiseFrom k (x ∷ xs) = (k ≤ x.0) × RiseFrom (suc x.0) xs

RiseFrom-lower : (j k : ℕ) (xs : List (ℕ × Cell)) → j ≤ k → RiseFrom k xs → RiseFrom j xs
RiseFrom-lower j k [] h r = tt
RiseFrom-lower j k (x ∷ xs) h r = let l = r.0 in (omega arith, r.1)

rise_from : (k : ℕ) (xs : List (ℕ × Cell)) → RiseFrom k xs → (y : ℕ × Cell) → IsIn y xs → k ≤ y.0
rise_from k [] r y i = absurd i
rise_from k (x ∷ xs) r y (inl e) = let l = r.0 in let m = ap (λ (z : ℕ × Cell). z.0) e in omega arith
rise_from k (x ∷ xs) r y (inr i) = let l = r.0 in let m = rise_from (suc x.0) xs r.1 y i in omega arith

pub rise_pairs : (k : ℕ) (xs : List (ℕ × Cell)) → RiseFrom k xs → EachPair (λ x y. x.0 < y.0) xs
rise_pairs k [] r = tt
rise_pairs k (x ∷ xs) r = ((λ y i. let l = rise_from (suc x.0) xs r.1 y i in omega arith), rise_pairs (suc x.0) xs r.1)

module _ (f : ℕ → Option Cell) where
  abbrev numbered : ℕ → Option (ℕ × Cell)
  numbered i = option_map (λ c. (i, c)) (f i)

  numbers_rise : (k n : ℕ) → RiseFrom k (filter_map numbered (range_with_len k n))
  numbers_rise k zero = tt
  numbers_rise k (suc n) = by_case (f k) (RiseFrom-lower (suc k) (k + 1) (filter_map numbered (range_with_len (k + 1) n)) (omega arith)
      (numbers_rise (k + 1) n))
    where
      by_case : (o : Option Cell) → RiseFrom (suc k) (filter_map numbered (range_with_len (k + 1) n))
          → RiseFrom k (cons_option (option_map (λ c. (k, c)) o) (filter_map numbered (range_with_len (k + 1) n)))
      by_case None r = RiseFrom-lower k (suc k) (filter_map numbered (range_with_len (k + 1) n)) (omega arith) r
      by_case (Some c) r = (omega arith, r)

  numbered-from : (k n : ℕ) (x : ℕ × Cell) → IsIn x (filter_map numbered (range_with_len k n)) → (f x.0 ≡ Some x.1) × (x.0 < k + n)
  numbered-from k zero x i = absurd i
  numbered-from k (suc n) x i = by_case (f k) refl (numbered-from (k + 1) n x) i
    where
      by_case : (o : Option Cell) → f k ≡ o
          → (IsIn x (filter_map numbered (range_with_len (k + 1) n)) → (f x.0 ≡ Some x.1) × (x.0 < k + 1 + n))
          → IsIn x (cons_option (option_map (λ c. (k, c)) o) (filter_map numbered (range_with_len (k + 1) n))) → (f x.0 ≡ Some x.1) × (x.0 < k + suc n)
      by_case None e more i = let h = more i in let l = h.1 in (h.0, omega arith)
      by_case (Some c) e more (inl g) = (subst (λ (y : ℕ × Cell). f y.0 ≡ Some y.1) (sym g) e, let l = ap (λ (y : ℕ × Cell). y.0) g in omega arith)
      by_case (Some c) e more (inr i) = let h = more i in let l = h.1 in (h.0, omega arith)

pub cells_rise : (v : View) → RiseFrom 0 (cells v)
unfolding cells
cells_rise v = numbers_rise (λ i. result_ok (cell v i)) 0 (count v)

pub cells-from : (v : View) (x : ℕ × Cell) → IsIn x (cells v) → (result_ok (cell v x.0) ≡ Some x.1) × (x.0 < count v)
unfolding cells
cells-from v x i = let h = numbered-from (λ i. result_ok (cell v i)) 0 (count v) x i in let l = h.1 in (h.0, omega arith)

-- two cells of one number are one
pub one_cell : (v : View) (x y : ℕ × Cell) → IsIn x (cells v) → IsIn y (cells v) → x.0 ≡ y.0 → x.1 ≡ y.1
one_cell v x y i j e = let h = (cells-from v x i).0 in let k = (cells-from v y j).0 in let g = ap (λ i. result_ok (cell v i)) e in cc

-- on pages with children each readable cell has a left one, and on others none
pub record IsOfKind (kind : PageKind) (c : Cell) : Type 0 where
  pub leaf : is_interior kind ≡ false → c.left ≡ None
  pub interior : is_interior kind ≡ true → (left : ℕ) × (c.left ≡ Some left)

of_fit : (kind : PageKind) (c : Cell) → Fits kind c → IsOfKind kind c
of_fit LeafTable c f = record { leaf = λ b. f.0; interior = λ b. cc }
of_fit InteriorTable c f = record { leaf = λ b. cc; interior = λ b. f.1 }
of_fit LeafIndex c f = record { leaf = λ b. f.0; interior = λ b. cc }
of_fit InteriorIndex c f = record { leaf = λ b. cc; interior = λ b. f.0 }

pub is_of_kind : (v : View) (x : ℕ × Cell) → IsIn x (cells v) → IsOfKind v.kind x.1
is_of_kind v x i = let h = at_offset v x.0 x.1 (from_ok v x.0 x.1 (cells-from v x i).0) in of_fit v.kind x.1 (cell_fits v.kind v h.0 x.1 h.1)
