-- The parts of a readable cell, by the kind of its page.
use Rattle.std.proofs.Common.{◌≡◌, ℕ, ◌+◌, ◌-◌, Bool, true, false, cond, ◌&&◌, List, map, Option, Some, None, Result, Ok, Err, ℤ, refl, subst, ap, ◌∙◌}
use Rattle.std.specs.Prelude.{filter_map, option_map, option_and_then, ok_or, nat_le}
use Rattle.std.specs.List.{range_with_len}
use Rattle.std.specs.Result.{result_ok}
use Rattle.dbformat.specs.Varint.{varint, signed}
use Rattle.dbformat.specs.Head.{View, content_start, is_same_tree}
use Rattle.dbformat.specs.Cell.{Cell, cell, cell_at, cell_pointer, payload_cell, bytes_from}
use Rattle.dbformat.specs.declared.CellFault.{CellFault}
use Rattle.dbformat.specs.declared.CellFault.TheVariants.{Offset, Unreadable}
use Rattle.dbformat.specs.declared.PageKind.{PageKind}
use Rattle.dbformat.specs.declared.PageKind.TheVariants.{InteriorIndex, InteriorTable, LeafIndex, LeafTable}
use Rattle.dbformat.specs.declared.PayloadKind.{PayloadKind}
use Rattle.dbformat.specs.declared.TreeKind.{TreeKind}
use Rattle.dbformat.specs.declared.TreeKind.TheVariants as tree

-- the parts of a cell, by the kind of its page
abbrev pub Fits : PageKind → Cell → Type 0
Fits LeafTable c = (c.left ≡ None) × ((k : ℤ) × (c.key ≡ Some k))
Fits InteriorTable c = (c.overflow ≡ None) × ((q : ℕ) × (c.left ≡ Some q)) × ((k : ℤ) × (c.key ≡ Some k))
Fits LeafIndex c = (c.left ≡ None) × (c.key ≡ None)
Fits InteriorIndex c = ((q : ℕ) × (c.left ≡ Some q)) × (c.key ≡ None)

pub then_some : {A B : Type 0} (o : Option A) (f : A → Option B) (b : B) → option_and_then f o ≡ Some b → (a : A) × (o ≡ Some a) × (f a ≡ Some b)
then_some None f b e = cc
then_some (Some a) f b e = (a, refl, e)

payload_parts : (v : View) (kind : PayloadKind) (offset before size : ℕ) (left : Option ℕ) (key : Option ℤ) (c : Cell)
    → payload_cell v kind offset before size left key ≡ Some c → (c.left ≡ left) × (c.key ≡ key)
payload_parts v kind offset before size left key c e = by_case _ _ e refl refl
  where
    by_case : (b : Bool) (d : Cell) → cond b (Some d) None ≡ Some c → d.left ≡ left → d.key ≡ key → (c.left ≡ left) × (c.key ≡ key)
    by_case true d e f g = let same : d ≡ c = cc in (subst (λ x. x.left ≡ left) same f, subst (λ x. x.key ≡ key) same g)
    by_case false d e f g = cc

pub cell_fits : (kind : PageKind) (v : View) (offset : ℕ) (c : Cell) → cell_at kind v offset ≡ Some c → Fits kind c
cell_fits LeafTable v offset c e =
    let a = then_some (varint (bytes_from v offset)) _ c e in
    let b = then_some (varint (bytes_from v (offset + a.0.1))) _ c a.2 in
    let h = payload_parts v _ offset _ _ None (Some (signed b.0.0)) c b.2 in
    (h.0, (signed b.0.0, h.1))
cell_fits InteriorTable v offset c e =
    let a = then_some (varint (bytes_from v (offset + 4))) _ c e in
    let f = a.2 in
    by_eq _ c f refl (_, refl) (_, refl)
  where
    by_eq : (d c : Cell) → Some d ≡ Some c → d.overflow ≡ None → ((q : ℕ) × (d.left ≡ Some q)) → ((k : ℤ) × (d.key ≡ Some k)) → (c.overflow ≡ None)
        × ((q : ℕ) × (c.left ≡ Some q)) × ((k : ℤ) × (c.key ≡ Some k))
    by_eq d c e x y z = let same : d ≡ c = cc in subst (λ c. (c.overflow ≡ None) × ((q : ℕ) × (c.left ≡ Some q)) × ((k : ℤ) × (c.key ≡ Some k))) same (x, y, z)
cell_fits LeafIndex v offset c e =
    let a = then_some (varint (bytes_from v offset)) _ c e in
    let h = payload_parts v _ offset _ _ None None c a.2 in
    (h.0, h.1)
cell_fits InteriorIndex v offset c e =
    let a = then_some (varint (bytes_from v (offset + 4))) _ c e in
    let h = payload_parts v _ offset _ _ _ None c a.2 in
    ((_, h.0), h.1)

-- a readable cell is one at some offset
pub at_offset : (v : View) (i : ℕ) (c : Cell) → cell v i ≡ Ok c → (offset : ℕ) × (cell_at v.kind v offset ≡ Some c)
unfolding cell
at_offset v i c e = by_case (nat_le (content_start v.number v.bytes) (cell_pointer v i) && nat_le (cell_pointer v i) (v.usable - 4)) e
  where
    by_option : (o : Option Cell) → cell_at v.kind v (cell_pointer v i) ≡ o → ok_or o Unreadable ≡ Ok c → (offset : ℕ) × (cell_at v.kind v offset ≡ Some c)
    by_option None f e = cc
    by_option (Some d) f e = let same : d ≡ c = cc in (cell_pointer v i, f ∙ ap (λ d. Some d) same)

    by_case : (b : Bool) → cond b (ok_or (cell_at v.kind v (cell_pointer v i)) Unreadable) (Err Offset) ≡ Ok c → (offset : ℕ)
        × (cell_at v.kind v offset ≡ Some c)
    by_case true e = by_option (cell_at v.kind v (cell_pointer v i)) refl e
    by_case false e = cc

pub from_ok : (v : View) (i : ℕ) (c : Cell) → result_ok (cell v i) ≡ Some c → cell v i ≡ Ok c
from_ok v i c e = by_result (cell v i) e
  where
    by_result : (r : Result Cell CellFault) → result_ok r ≡ Some c → r ≡ Ok c
    by_result (Ok d) e = let same : d ≡ c = cc in ap (λ d. Ok d) same
    by_result (Err f) e = cc

-- the cells without their numbers
abbrev pub second : List (ℕ × Cell) → List Cell
second xs = map (λ (i, c). c) xs

-- those of some numbers that are there
abbrev pub numbered : (ℕ → Option Cell) → ℕ → ℕ → List (ℕ × Cell)
numbered f k n = filter_map (λ i. option_map (λ c. (i, c)) (f i)) (range_with_len k n)

pub same_tree : (j k : TreeKind) → is_same_tree j k ≡ true → j ≡ k
same_tree tree.Table tree.Table e = refl
same_tree tree.Table tree.Index e = cc
same_tree tree.Index tree.Table e = cc
same_tree tree.Index tree.Index e = refl
