-- Where a cell may begin, and what a readable cell holds.
use Rattle.std.proofs.Common.{◌≡◌, ℕ, ◌+◌, ◌-◌, ◌<◌, ◌≤◌, ◌⊎◌, inl, inr, max, Bool, true, false, if◌then◌else◌, ◌&&◌, List, Option, Some, None, ℤ, Ok, Err}
use Rattle.std.proofs.Common.{length, length-drop, drop, get_or, ltb, refl, sym, subst, ap, ◌∙◌, arith}
use Rattle.std.specs.Prelude.{Result, ◌==◌, nat_le, nat_lt, ok_or, option_and_then, IfSome, slice_index}
use Rattle.std.proofs.lemmas.List.{length-take, get_or-take, get_or-drop}
use Rattle.dbbytes.proofs.VarintLemmas.{varint-within, varint_after_first}
use Rattle.dbformat.specs.Numbers.{u16_at, u32_at}
use Rattle.dbformat.specs.Payload.{most_payload, local_len}
use Rattle.dbformat.specs.declared.PayloadKind.TheVariants.{TableLeaf, Index}
use Rattle.std.proofs.lemmas.Bool.{cases_lt}
use Rattle.std.proofs.lemmas.Bool.Decides.{nat_tests}
use Rattle.dbformat.specs.Head.{View, content_start, header_start}
use Rattle.dbformat.specs.Cell.{Cell, bytes_from, cell, cell_at, cell_pointer, payload_cell}
use Rattle.dbformat.specs.Coverage.{held_by}
use Rattle.dbformat.specs.Varint.{varint, signed}
use Rattle.dbformat.specs.declared.PageKind.{PageKind}
use Rattle.dbformat.specs.declared.PageKind.TheVariants.{InteriorIndex, InteriorTable, LeafIndex, LeafTable}
use Rattle.dbformat.specs.declared.PayloadKind.{PayloadKind}
use Rattle.dbformat.specs.declared.CellFault.{CellFault}
use Rattle.dbformat.specs.declared.CellFault.TheVariants.{Offset, Unreadable}

pub cell_outside : (v : View) (i : ℕ) → (cell_pointer v i < content_start v.number v.bytes) ⊎ (v.usable - 4 < cell_pointer v i) → cell v i ≡ Err Offset
unfolding cell
cell_outside v i h =
    let out : (nat_le (content_start v.number v.bytes) (cell_pointer v i) && nat_le (cell_pointer v i) (v.usable - 4)) ≡ false = grind (arith, nat_tests) in
    rw out refl

pub cell_inside : (v : View) (i : ℕ) → content_start v.number v.bytes ≤ cell_pointer v i → cell_pointer v i ≤ v.usable - 4
    → cell v i ≡ ok_or (cell_at v.kind v (cell_pointer v i)) Unreadable
unfolding cell
cell_inside v i low high =
    let inside : (nat_le (content_start v.number v.bytes) (cell_pointer v i) && nat_le (cell_pointer v i) (v.usable - 4)) ≡ true = grind (arith, nat_tests) in
    rw inside refl

-- a cell that was found at its pointer is the cell of its page
pub cell_found : (found at : Option Cell) (read : Result Cell CellFault) (P : Cell → Type 0) → IfSome found (λ c. (at ≡ Some c) × P c)
    → read ≡ ok_or at Unreadable → IfSome found (λ c. (read ≡ Ok c) × P c)
cell_found None at read P h is = h
cell_found (Some c) at read P h is = (is ∙ ap (λ (o : Option Cell). ok_or o Unreadable) h.0, h.1)

pub cell_read : (found at : Option Cell) (read : Result Cell CellFault) → IfSome found (λ c. at ≡ Some c) → read ≡ ok_or at Unreadable
    → IfSome found (λ c. read ≡ Ok c)
cell_read None at read h is = h
cell_read (Some c) at read h is = is ∙ ap (λ (o : Option Cell). ok_or o Unreadable) h

then_some : {A B : Type 0} (f : A → Option B) (o : Option A) (b : B) → option_and_then f o ≡ Some b → (a : A) × (f a ≡ Some b) × (o ≡ Some a)
then_some f None b h = cc
then_some f (Some a) b h = (a, h, refl)

same_some : {B : Type 0} {x b : B} → Some x ≡ Some b → x ≡ b
same_some h = cc

if_some : {B : Type 0} (t : Bool) (x b : B) → (if t then Some x else None) ≡ Some b → (t ≡ true) × (x ≡ b)
if_some true x b h = (refl, cc)
if_some false x b h = cc

both_fit : (size end usable : ℕ) → (nat_le size most_payload && nat_le end usable) ≡ true → end ≤ usable
both_fit size end usable h = grind (arith, nat_tests)

-- the place of a cell
pub record IsInside (v : View) (offset : ℕ) (c : Cell) : Type 0 where
  pub place : c.offset ≡ offset
  pub ends : c.offset + c.len ≤ v.usable

payload_inside : (v : View) (kind : PayloadKind) (offset before size : ℕ) (left : Option ℕ) (key : Option ℤ) (c : Cell)
    → payload_cell v kind offset before size left key ≡ Some c → IsInside v offset c
payload_inside v kind offset before size left key c h =
    let here = local_len kind v.usable size in
    let len : ℕ = before + here + (if nat_lt here size then 4 else 0) in
    let p = if_some (nat_le size most_payload && nat_le (offset + len) v.usable) _ c h in
    let fits : offset + len ≤ v.usable = both_fit size (offset + len) v.usable p.0 in
    record { place = sym (ap (λ (d : Cell). d.offset) p.1); ends = omega (arith, fits, ap (λ (d : Cell). d.offset) p.1, ap (λ (d : Cell). d.len) p.1) }

varint_room : (v : View) (offset : ℕ) (r : ℕ × ℕ) → varint (bytes_from v offset) ≡ Some r → offset ≤ v.usable → offset + r.1 ≤ v.usable
varint_room v offset r h room =
    let w = subst (λ (o : Option (ℕ × ℕ)). IfSome o (λ q. (0 < q.1) × (q.1 ≤ 9) × (q.1 ≤ length (bytes_from v offset)))) h (varint-within (bytes_from v offset))
    in
    omega (arith, w.2, length-take (v.usable - offset) (drop offset v.bytes))

cell_at_inside : (kind : PageKind) (v : View) (offset : ℕ) (c : Cell) → offset + 4 ≤ v.usable → cell_at kind v offset ≡ Some c → IsInside v offset c
cell_at_inside LeafTable v offset c room h =
    let size = then_some _ (varint (bytes_from v offset)) c h in
    let rowid = then_some _ (varint (bytes_from v (offset + size.0.1))) c size.1 in
    payload_inside v TableLeaf offset (size.0.1 + rowid.0.1) size.0.0 None (Some (signed rowid.0.0)) c rowid.1
cell_at_inside InteriorTable v offset c room h =
    let key = then_some _ (varint (bytes_from v (offset + 4))) c h in
    let same = same_some key.1 in
    let fits = varint_room v (offset + 4) key.0 key.2 room in
    record { place = sym (ap (λ (d : Cell). d.offset) same); ends = omega (arith, fits, ap (λ (d : Cell). d.offset) same, ap (λ (d : Cell). d.len) same) }
cell_at_inside LeafIndex v offset c room h =
    let size = then_some _ (varint (bytes_from v offset)) c h in
    payload_inside v Index offset size.0.1 size.0.0 None None c size.1
cell_at_inside InteriorIndex v offset c room h =
    let size = then_some _ (varint (bytes_from v (offset + 4))) c h in
    payload_inside v Index offset (4 + size.0.1) size.0.0 (Some (u32_at offset v.bytes)) None c size.1

ok_some : (o : Option Cell) (c : Cell) → ok_or o Unreadable ≡ Ok c → o ≡ Some c
ok_some None c h = cc
ok_some (Some b) c h = cc

-- a readable cell holds bytes of the content area, four at least
pub record IsWithin (v : View) (i : ℕ) (c : Cell) : Type 0 where
  pub place : c.offset ≡ cell_pointer v i
  pub from_start : content_start v.number v.bytes ≤ c.offset
  pub ends : c.offset + max c.len 4 ≤ v.usable

-- the content area does not begin at 0
some_start : (n : ℕ) → 0 < (if n == 0 then 65536 else n)
some_start n = grind (arith, nat_tests)

content_positive : (p : ℕ) (page : List ℕ) → 0 < content_start p page
unfolding content_start
content_positive p page = some_start (u16_at (header_start p + 5) page)

pub cell_within : (v : View) (i : ℕ) (c : Cell) → cell v i ≡ Ok c → IsWithin v i c
cell_within v i c h =
    elim (cases_lt (cell_pointer v i) (content_start v.number v.bytes)) [
      | inl below ↦ absurd (not_err (sym (cell_outside v i (inl below)) ∙ h))
      | inr from ↦ elim (cases_lt (v.usable - 4) (cell_pointer v i)) [
        | inl past ↦ absurd (not_err (sym (cell_outside v i (inr past)) ∙ h))
        | inr room ↦
            let inside = cell_at_inside v.kind v (cell_pointer v i) c (omega (arith, content_positive v.number v.bytes))
            (ok_some (cell_at v.kind v (cell_pointer v i)) c (sym (cell_inside v i from room) ∙ h)) in
            record {
              place = inside.place;
              from_start = omega (arith, inside.place);
              ends =
                  omega (arith, inside.place, inside.ends, content_positive v.number v.bytes);
            }
      ]
    ]
  where
    not_err : {e : CellFault} {d : Cell} → Err e ≡ Ok d → ⊥
    not_err h = cc

-- a cell is at its pointer, whether it is readable or not
pub offset-held_by : (v : View) (i : ℕ) → (held_by v i (cell v i)).offset ≡ cell_pointer v i
offset-held_by v i = by_case (cell v i) refl
  where
    by_case : (r : Result Cell CellFault) → cell v i ≡ r → (held_by v i r).offset ≡ cell_pointer v i
    by_case (Ok c) h = (cell_within v i c h).place
    by_case (Err e) h = refl

payload_local : (v : View) (kind : PayloadKind) (offset before size : ℕ) (left : Option ℕ) (key : Option ℤ) (c : Cell)
    → payload_cell v kind offset before size left key ≡ Some c → length c.local ≤ v.usable
payload_local v kind offset before size left key c h =
    let here = local_len kind v.usable size in
    let len : ℕ = before + here + (if nat_lt here size then 4 else 0) in
    let p = if_some (nat_le size most_payload && nat_le (offset + len) v.usable) _ c h in
    let fits : offset + len ≤ v.usable = both_fit size (offset + len) v.usable p.0 in
    omega (arith, fits, ap (λ (d : Cell). length d.local) p.1, length-take here (drop (offset + before) v.bytes))

cell_at_local : (kind : PageKind) (v : View) (offset : ℕ) (c : Cell) → cell_at kind v offset ≡ Some c → length c.local ≤ v.usable
cell_at_local LeafTable v offset c h =
    let size = then_some _ (varint (bytes_from v offset)) c h in
    let rowid = then_some _ (varint (bytes_from v (offset + size.0.1))) c size.1 in
    payload_local v TableLeaf offset (size.0.1 + rowid.0.1) size.0.0 None (Some (signed rowid.0.0)) c rowid.1
cell_at_local InteriorTable v offset c h =
    let key = then_some _ (varint (bytes_from v (offset + 4))) c h in
    omega (arith, ap (λ (d : Cell). length d.local) (same_some key.1))
cell_at_local LeafIndex v offset c h =
    let size = then_some _ (varint (bytes_from v offset)) c h in
    payload_local v Index offset size.0.1 size.0.0 None None c size.1
cell_at_local InteriorIndex v offset c h =
    let size = then_some _ (varint (bytes_from v (offset + 4))) c h in
    payload_local v Index offset (4 + size.0.1) size.0.0 (Some (u32_at offset v.bytes)) None c size.1

if_ok : (t : Bool) (o : Option Cell) (c : Cell) → (if t then ok_or o Unreadable else Err Offset) ≡ Ok c → o ≡ Some c
if_ok true o c h = ok_some o c h
if_ok false o c h = cc

-- the local bytes of a payload are no more than those of its page
pub cell_local : (v : View) (i : ℕ) (c : Cell) → cell v i ≡ Ok c → length c.local ≤ v.usable
unfolding cell
cell_local v i c h =
    let at = cell_pointer v i in
    cell_at_local v.kind v at c (if_ok (nat_le (content_start v.number v.bytes) at && nat_le at (v.usable - 4)) (cell_at v.kind v at) c h)

leaf_key : (v : View) (offset : ℕ) (c : Cell) → cell_at LeafIndex v offset ≡ Some c → c.key ≡ None
leaf_key v offset c h =
    let size = then_some _ (varint (bytes_from v offset)) c h in
    let here = local_len Index v.usable size.0.0 in
    let len : ℕ = size.0.1 + here + (if nat_lt here size.0.0 then 4 else 0) in
    let p = if_some (nat_le size.0.0 most_payload && nat_le (offset + len) v.usable) _ c size.1 in
    sym (ap (λ (d : Cell). d.key) p.1)

-- a cell of a leaf of an index has no key
pub cell_keyless : (v : View) (i : ℕ) (c : Cell) → v.kind ≡ LeafIndex → cell v i ≡ Ok c → c.key ≡ None
unfolding cell
cell_keyless v i c kind h =
    let at = cell_pointer v i in
    let found = if_ok (nat_le (content_start v.number v.bytes) at && nat_le at (v.usable - 4)) (cell_at v.kind v at) c h in
    leaf_key v at c (subst (λ (k : PageKind). cell_at k v at ≡ Some c) kind found)

-- a size below 128 has one byte
pub small_size : (v : View) (offset : ℕ) → offset < v.usable → v.usable ≤ length v.bytes → slice_index v.bytes offset < 128
    → varint (bytes_from v offset) ≡ Some (slice_index v.bytes offset, 1)
small_size v offset within whole small =
    let first : get_or (bytes_from v offset) 0 0 ≡ slice_index v.bytes offset =
    get_or-take (v.usable - offset) (drop offset v.bytes) 0 0 (omega (arith, within)) ∙ get_or-drop offset v.bytes 0 0
    ∙ ap (λ (i : ℕ). get_or v.bytes i 0) (omega arith) in
    let some : 0 < length (bytes_from v offset) =
    omega (arith, within, whole, length-take (v.usable - offset) (drop offset v.bytes), length-drop offset v.bytes) in
    let below : ltb (get_or (bytes_from v offset) 0 0) 128 ≡ true = grind (arith, nat_tests) in
    varint_after_first (bytes_from v offset) some ∙ rw below (ap (λ (b : ℕ). Some (b, 1)) first)
