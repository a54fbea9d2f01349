-- What is read of the cells of a page.
use Rattle.std.proofs.Common.{◌≡◌, ℕ, ◌+◌, ◌<◌, ◌≤◌, Bool, true, cond, ◌&&◌, List, [], Option, Some, None, Ok, Err, ℤ, refl, sym, ap, arith, ◌∙◌, subst}
use Rattle.std.proofs.Common.{◌*◌, option_map, nat_le, nat_lt, slice_get, slice_index_or, IfSome}
use Rattle.dbwalk.proofs.Common.{most_payload, View, undamaged, Cell, cell, count, overflow_size, InteriorIndex, InteriorTable, LeafIndex, LeafTable, CellFault}
use Rattle.dbwalk.proofs.Common.{TreeKind, Pages, bytes_at, HasCell, IsNextStep, HasNext, Next, nat_tests, PageKind, at_offset}
use Rattle.std.proofs.lemmas.Option.{get_or_from_slice_get}
use Rattle.dbformat.specs.Varint.{varint}
use Rattle.dbformat.specs.Cell.{bytes_from, payload_cell, cell_at}
use Rattle.dbformat.specs.declared.PayloadKind.{PayloadKind}
use Rattle.dbformat.specs.declared.PayloadKind.TheVariants.{TableLeaf, Index}
use Rattle.dbformat.proofs.CellParts.{then_some}

-- a payload is at most 2147483647 bytes long

payload_size : (v : View) (kind : PayloadKind) (offset before size : ℕ) (left : Option ℕ) (key : Option ℤ) (x : Cell)
    → payload_cell v kind offset before size left key ≡ Some x → x.size ≤ most_payload
payload_size v kind offset before size left key x e = by_test _ _ e (λ f. fits _ f)
  where
    fits : (end : ℕ) → (nat_le size most_payload && nat_le end v.usable) ≡ true → size ≤ most_payload
    fits end f = grind (arith, nat_tests)

    by_test : (b : Bool) (y : Cell) → cond b (Some y) None ≡ Some x → (b ≡ true → y.size ≤ most_payload) → x.size ≤ most_payload
    by_test b y e l = grind arith

cell_at_size : (kind : PageKind) (v : View) (offset : ℕ) (x : Cell) → cell_at kind v offset ≡ Some x → x.size ≤ most_payload
cell_at_size LeafTable v offset x e =
    let size = then_some (varint (bytes_from v offset)) _ x e in
    let rowid = then_some (varint (bytes_from v (offset + size.0.1))) _ x size.2 in
    payload_size v TableLeaf offset _ _ None _ x rowid.2
cell_at_size InteriorTable v offset x e = none (then_some (varint (bytes_from v (offset + 4))) _ x e).2 (omega arith)
  where
    none : {y : Cell} → Some y ≡ Some x → y.size ≤ most_payload → x.size ≤ most_payload
    none {y} e l = let same : y ≡ x = cc in subst (λ x. x.size ≤ most_payload) same l
cell_at_size LeafIndex v offset x e = payload_size v Index offset _ _ None None x (then_some (varint (bytes_from v offset)) _ x e).2
cell_at_size InteriorIndex v offset x e = payload_size v Index offset _ _ _ None x (then_some (varint (bytes_from v (offset + 4))) _ x e).2

pub cell_size : (v : View) (i : ℕ) (x : Cell) → cell v i ≡ Ok x → x.size ≤ most_payload
cell_size v i x e = let at = at_offset v i x e in cell_at_size v.kind v at.0 x at.1

-- the bytes at a level

lt_yes : (n : ℕ) → n < 20 → nat_lt n 20 ≡ true
lt_yes n l = grind (arith, nat_tests)

pub at_level : (b : Pages) (level : ℕ) (bytes : List ℕ) → level < 20 → slice_get b.levels level ≡ Some bytes → bytes_at b level ≡ bytes
at_level b level bytes l e = ap (λ t. cond t (slice_index_or b.levels level []) b.chain) (lt_yes level l) ∙ get_or_from_slice_get b.levels level bytes [] e

module _ (b : Pages) (kind : TreeKind) (level page : ℕ) (low : level < 20) (usable : ℕ) (usable_is : usable ≡ b.geometry.usable) (bytes : List ℕ)
    (bytes_are : bytes ≡ bytes_at b level) (o : Option View) (viewed : undamaged kind page usable bytes ≡ o) where
  pub seen : (y : List ℕ) (v : View) → slice_get b.levels level ≡ Some y → undamaged kind page b.geometry.usable y ≡ Some v → o ≡ Some v
  seen y v e f = sym viewed ∙ ap (λ u. undamaged kind page u bytes) usable_is
      ∙ ap (λ z. undamaged kind page b.geometry.usable z) (bytes_are ∙ at_level b level y low e) ∙ f

  pub has_next : (s : ℕ) (next : Next) → ((v : View) → o ≡ Some v → (count v ≤ 32768) × IsNextStep v s next)
      → HasNext b.geometry.usable kind b.levels level page s next
  has_next s next h = record { few = λ y v e f. (h v (seen y v e f)).0; stands = λ y v e f. (h v (seen y v e f)).1 }

-- what is read of a readable cell, and of one that is not
module _ (v : View) (i : ℕ) where
  pub readable : (x : Cell) (overflow : Option (ℕ × ℕ)) (key : Option ℤ) → IfSome overflow (λ o. o.1 ≤ most_payload) → cell v i ≡ Ok x
      → overflow ≡ option_map (λ p. (p, overflow_size x)) x.overflow → key ≡ x.key → HasCell v i overflow key
  readable x overflow key most e f g = record { most = most; chain = rw e f; key_is = rw e g }

  pub unreadable : (e : CellFault) → cell v i ≡ Err e → HasCell v i None None
  unreadable e f = record { most = tt; chain = rw f refl; key_is = rw f refl }

pub none_seen : {X : Type 0} (v : View) → ◌≡◌ {A = Option View} None (Some v) → X
none_seen v e = cc

pub same_view : (w v : View) → Some w ≡ Some v → w ≡ v
same_view w v e = cc

-- What is read of an interior page at a step.

pub no_overflow : (v : View) (n : ℕ) (x : Cell) → cell v n ≡ Ok x → x.overflow ≡ None → (y : Cell) → n < count v → cell v n ≡ Ok y → y.overflow ≡ None
no_overflow v n x e f y l g = let h : Ok x ≡ Ok y = sym e ∙ g in let i : x ≡ y = cc in ap (λ z. z.overflow) (sym i) ∙ f

pub bad_cell : (v : View) (n : ℕ) (f : CellFault) → cell v n ≡ Err f → (y : Cell) → n < count v → cell v n ≡ Ok y → y.overflow ≡ None
bad_cell v n f e y l g = let h : Err f ≡ Ok y = sym e ∙ g in cc

-- a view of a page that is read, at one of its steps
pub at_step : (w v : View) → Some w ≡ Some v → (usable : ℕ) → usable ≤ 65536 → w.usable ≡ usable → (cells : ℕ) → cells ≡ count w → 2 * cells ≤ w.usable
    → (s t : ℕ) → t ≡ s → (next : Next) → IsNextStep w t next → (count v ≤ 32768) × IsNextStep v s next
at_step w v e usable most is cells number few s t same next h =
    let f : w ≡ v = cc in
    (subst (λ v. count v ≤ 32768) f (omega arith), subst (λ v. IsNextStep v s next) f (subst (λ s. IsNextStep w s next) same h))
