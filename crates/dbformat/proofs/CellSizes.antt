-- How much of a payload is in the cell of a table leaf.
use Rattle.std.proofs.Common.{arith, ◌≡◌, ℕ, ◌+◌, ◌-◌, ◌<◌, ◌≤◌, Bool, true, false, cond, ◌&&◌, Option, Some, None, Ok, Err, List, length, take, drop, refl}
use Rattle.std.proofs.Common.{sym, ap, subst, ◌∙◌, ℤ}
use Rattle.std.specs.Prelude.{nat_le, nat_lt}
use Rattle.std.proofs.lemmas.List.{length-take, length-drop}
use Rattle.std.proofs.lemmas.Bool.{and_parts}
use Rattle.std.proofs.lemmas.Bool.Decides.{nat_tests}
use Rattle.std.proofs.Math.Nat.{mod-le}
use Rattle.dbformat.specs.Numbers.{u32_at}
use Rattle.dbformat.specs.Header.{usable_size}
use Rattle.dbformat.specs.File.{page_bytes}
use Rattle.dbformat.specs.Varint.{varint, signed}
use Rattle.dbformat.specs.Payload.{most_payload, local_len, least_local, even_local}
use Rattle.dbformat.specs.Head.{View, view, view_of_kind, page_kind, type_byte, is_interior, tree_of, pointers_end, content_start}
use Rattle.dbformat.specs.Cell.{Cell, cell_at, payload_cell, bytes_from}
use Rattle.dbformat.specs.Terms.{cells_of}
use Rattle.dbformat.specs.Terms as Terms
use Rattle.dbformat.specs.declared.HeadFault.TheVariants.{ContentStart}
use Rattle.dbformat.specs.declared.PageKind.{PageKind}
use Rattle.dbformat.specs.declared.PageKind.TheVariants.{InteriorIndex, InteriorTable, LeafIndex, LeafTable}
use Rattle.dbformat.specs.declared.PayloadKind.TheVariants.{TableLeaf}
use Rattle.dbformat.specs.declared.TreeKind.{TreeKind}
use Rattle.dbformat.specs.declared.TreeKind.TheVariants as tree
use Rattle.dbsurvey.proofs.Each.{Each}
use Rattle.dbformat.proofs.PageCells.{has_all_cells}
use Rattle.dbformat.proofs.CellParts.{at_offset, then_some, same_tree}

-- a cell has as much of its payload as does not overflow
pub record IsSized (c : Cell) : Type 0 where
  pub within : length c.local ≤ c.size
  pub all_local : c.overflow ≡ None → length c.local ≡ c.size

-- no more than the payload
local_within : (usable size : ℕ) → 480 ≤ usable → local_len TableLeaf usable size ≤ size
unfolding local_len
local_within usable size wide = by_most (nat_le size (usable - 35)) refl
  where
    even_within : least_local usable ≤ size → even_local usable size ≤ size
    even_within h = let m = mod-le (size - least_local usable) (usable - 4) in omega arith

    least_small : least_local usable ≤ usable - 35
    least_small = omega arith

    by_even : (b : Bool) → least_local usable ≤ size → cond b (even_local usable size) (least_local usable) ≤ size
    by_even true h = even_within h
    by_even false h = h

    above : nat_le size (usable - 35) ≡ false → usable - 35 < size
    above e = grind (arith, nat_tests)

    by_most : (b : Bool) → nat_le size (usable - 35) ≡ b
        → cond b size (cond (nat_le (even_local usable size) (usable - 35)) (even_local usable size) (least_local usable)) ≤ size
    by_most true e = omega arith
    by_most false e = let a = above e in let s = least_small in by_even (nat_le (even_local usable size) (usable - 35)) (omega arith)

-- the local bytes are there, and the rest is on overflow pages
payload_sized : (v : View) (offset before size : ℕ) (left : Option ℕ) (key : Option ℤ) (c : Cell) → 480 ≤ v.usable → v.usable ≤ length v.bytes
    → payload_cell v TableLeaf offset before size left key ≡ Some c → IsSized c
payload_sized v offset before size left key c wide long e =
    by_case _ _ e refl refl refl refl
  where
    here : ℕ
    here = local_len TableLeaf v.usable size

    sized : (d : Cell) → d.size ≡ size → d.local ≡ take here (drop (offset + before) v.bytes)
        → (d.overflow ≡ cond (nat_lt here size) (Some (u32_at (offset + before + here) v.bytes)) None)
        → nat_le (offset + (before + here + cond (nat_lt here size) 4 0)) v.usable ≡ true → IsSized d
    sized d s l o fits =
        let w = local_within v.usable size wide in
        let n : length d.local ≡ here = length_is d l (fits_in (cond (nat_lt here size) 4 0) fits) in
        record {
          within = subst (λ x. x ≤ d.size) (sym n) (subst (λ x. here ≤ x) (sym s) w);
          all_local = λ f. n ∙ all (nat_lt here size) refl (sym o ∙ f) w ∙ sym s;
        }
      where
        fits_in : (x : ℕ) → nat_le (offset + (before + here + x)) v.usable ≡ true → offset + before + here ≤ length v.bytes
        fits_in x f = grind (arith, nat_tests)

        length_is : (d : Cell) → d.local ≡ take here (drop (offset + before) v.bytes) → offset + before + here ≤ length v.bytes → length d.local ≡ here
        length_is d l h = ap length l ∙ (let a = length-take here (drop (offset + before) v.bytes) in let b =
            length-drop (offset + before) v.bytes in omega arith)

        all : (b : Bool) → nat_lt here size ≡ b → cond b (Some (u32_at (offset + before + here) v.bytes)) None ≡ None → here ≤ size → here ≡ size
        all true f g h = cc
        all false f g h = grind (arith, nat_tests)

    by_case : (b : Bool) (d : Cell) → cond b (Some d) None ≡ Some c
        → (nat_le size most_payload && nat_le (offset + (before + here + cond (nat_lt here size) 4 0)) v.usable) ≡ b
        → d.size ≡ size → d.local ≡ take here (drop (offset + before) v.bytes)
        → (d.overflow ≡ cond (nat_lt here size) (Some (u32_at (offset + before + here) v.bytes)) None) → IsSized c
    by_case true d e f s l o = let same : d ≡ c = cc in subst IsSized same
        (sized d s l o (and_parts (nat_le size most_payload) (nat_le (offset + (before + here + cond (nat_lt here size) 4 0)) v.usable) f).1)
    by_case false d e f s l o = cc

cell_sized : (v : View) (offset : ℕ) (c : Cell) → 480 ≤ v.usable → v.usable ≤ length v.bytes → cell_at LeafTable v offset ≡ Some c → IsSized c
cell_sized v offset c wide long e =
    let a = then_some (varint (bytes_from v offset)) _ c e in
    let b = then_some (varint (bytes_from v (offset + a.0.1))) _ c a.2 in
    payload_sized v offset _ _ None (Some (signed b.0.0)) c wide long b.2

-- what a view is of
view_parts : (p usable : ℕ) (page : List ℕ) (o : Option PageKind) (v : View) → view_of_kind p usable page o ≡ Ok v → (v.usable ≡ usable) × (v.bytes ≡ page)
view_parts p usable page None v e = cc
view_parts p usable page (Some kind) v e = by_case (nat_le (pointers_end p kind page) (content_start p page) && nat_le (content_start p page) usable) e
  where
    by_case : (b : Bool) → cond b (Ok (record { number = p; kind = kind; usable = usable; bytes = page })) (Err ContentStart) ≡ Ok v → (v.usable ≡ usable)
        × (v.bytes ≡ page)
    by_case true e = let same : record { number = p; kind = kind; usable = usable; bytes = page } ≡ v =
        cc in (sym (ap (λ v. v.usable) same), sym (ap (λ v. v.bytes) same))
    by_case false e = cc

table_leaf : (k : PageKind) → is_interior k ≡ false → tree_of k ≡ tree.Table → k ≡ LeafTable
table_leaf InteriorIndex i e = cc
table_leaf InteriorTable i e = cc
table_leaf LeafIndex i e = cc
table_leaf LeafTable i e = refl

pub leaf_sized : {file : List ℕ} {kind : TreeKind} {is_child : Bool} {p : ℕ} {v : View} → Terms.IsFaultlessPage file kind is_child p v → kind ≡ tree.Table
    → is_interior v.kind ≡ false
    → 480 ≤ usable_size file → usable_size file ≤ length (page_bytes file p) → Each IsSized (cells_of v)
unfolding view
leaf_sized {file} {kind} {is_child} {p} {v} w table leaf wide long c i =
    let h = has_all_cells w in
    let parts = view_parts p (usable_size file) (page_bytes file p) (page_kind (type_byte p (page_bytes file p))) v h.view_is in
    let read = h.reads c i in
    let o = at_offset v read.0 c read.1 in
    let kind_is = table_leaf v.kind leaf (same_tree (tree_of v.kind) kind h.same_kind ∙ table) in
    cell_sized v o.0 c (subst (λ n. 480 ≤ n) (sym parts.0) wide)
    (subst (λ n. n ≤ length v.bytes) (sym parts.0) (subst (λ l. usable_size file ≤ length l) (sym parts.1) long))
    (subst (λ k. cell_at k v o.0 ≡ Some c) kind_is o.1)
