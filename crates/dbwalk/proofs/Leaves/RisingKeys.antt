-- The keys of a leaf whose cells are readable, without overflow pages and in the order of their keys, from the first to the last.
use Rattle.std.proofs.Common.{◌≡◌, ℕ, zero, suc, ◌+◌, ◌-◌, ◌<◌, ◌≤◌, Bool, true, false, Option, Some, None, Ok, ℤ, ◌<ℤ◌, refl, sym, ap, subst, arith, ◌∙◌}
use Rattle.std.proofs.Common.{is_some, option_and_then}
use Rattle.dbwalk.proofs.Common.{View, Cell, cell, count, InteriorIndex, InteriorTable, LeafIndex, LeafTable, IsAboveLast, IsAllLocal, key_at, key_value}
use Rattle.dbwalk.proofs.Common.{CellKey, HasSpan, AreRisingFrom, placed, option_or, result_ok, PageKind, Fits, at_offset, cell_fits}
use Rattle.dbwalk.specs.declared.state.KeySpan.{KeySpan}

-- the cells of a table have keys, and those of an index have none

abbrev has_keys : PageKind → Bool
has_keys LeafTable = true
has_keys InteriorTable = true
has_keys LeafIndex = false
has_keys InteriorIndex = false

of_kind : (kind : PageKind) (x : Cell) → Fits kind x → is_some x.key ≡ has_keys kind
of_kind LeafTable x f = ap is_some f.1.1
of_kind InteriorTable x f = ap is_some f.2.1
of_kind LeafIndex x f = ap is_some f.1
of_kind InteriorIndex x f = ap is_some f.1

cell_has_key : (v : View) (i : ℕ) (x : Cell) → cell v i ≡ Ok x → is_some x.key ≡ has_keys v.kind
cell_has_key v i x e = let at = at_offset v i x e in of_kind v.kind x (cell_fits v.kind v at.0 x at.1)

whole_key : (v : View) (i : ℕ) → IsAllLocal v i → is_some (key_at v i) ≡ has_keys v.kind
whole_key v i w = ap (λ r. is_some (option_and_then (λ c. c.key) (result_ok r))) w.readable ∙ cell_has_key v i w.whole w.readable

-- the keys of two cells are there both, or not
keys_alike : (v : View) (i j : ℕ) → IsAllLocal v i → IsAllLocal v j → is_some (key_at v i) ≡ is_some (key_at v j)
keys_alike v i j a b = whole_key v i a ∙ sym (whole_key v j b)

module _ (page : ℕ) (v : View) (keys : KeySpan) (span : HasSpan v keys) (greatest : Option CellKey) (above : IsAboveLast (key_value greatest) keys.first) where
  -- the greatest key before cell n
  top_at : ℕ → Option CellKey
  top_at zero = greatest
  top_at (suc n) = option_or (placed page n (key_at v n)) greatest

  -- a cell's key is above it
  above_at : (n : ℕ) → n < count v → IsAboveLast (key_value (top_at n)) (key_at v n)
  unfolding top_at
  above_at zero low = λ a b e f. above a b e (sym (span.first_is low) ∙ f)
  above_at (suc n) low = λ a b e f. by_key a b f (key_at v n) refl e
    where
      by_key : (a b : ℤ) → key_at v (suc n) ≡ Some b → (o : Option ℤ) → key_at v n ≡ o → key_value (option_or (placed page n o) greatest) ≡ Some a → a <ℤ b
      by_key a b f None g e =
          let same = keys_alike v n (suc n) (span.whole n (omega arith)) (span.whole (suc n) low) in
          let h : false ≡ true = sym (ap is_some g) ∙ same ∙ ap is_some f in cc
      by_key a b f (Some d) g e =
          let h : d ≡ a = cc in
          let i : n + 1 ≡ suc n = omega arith in
          subst (λ a. a <ℤ b) h (span.rising n d b (omega arith) g (ap (key_at v) i ∙ f))

  -- the greatest so far, where the cell has no key
  top_without : (n : ℕ) → n < count v → key_at v n ≡ None → top_at n ≡ greatest
  unfolding top_at
  top_without zero low e = refl
  top_without (suc n) low e = by_key (key_at v n) refl
    where
      by_key : (o : Option ℤ) → key_at v n ≡ o → option_or (placed page n o) greatest ≡ greatest
      by_key None g = refl
      by_key (Some d) g =
          let same = keys_alike v n (suc n) (span.whole n (omega arith)) (span.whole (suc n) low) in
          let h : true ≡ false = sym (ap is_some g) ∙ same ∙ ap is_some e in cc

  top_step : (n : ℕ) → n < count v → option_or (placed page n (key_at v n)) (top_at n) ≡ top_at (suc n)
  unfolding top_at
  top_step n low = by_key (key_at v n) refl
    where
      by_key : (o : Option ℤ) → key_at v n ≡ o → option_or (placed page n o) (top_at n) ≡ option_or (placed page n o) greatest
      by_key None e = top_without n low e
      by_key (Some b) e = refl

  top_end : top_at (count v) ≡ option_or (placed page (keys.cells - 1) keys.last) greatest
  unfolding top_at
  top_end = by_count (count v) refl
    where
      by_count : (n : ℕ) → count v ≡ n → top_at n ≡ option_or (placed page (keys.cells - 1) keys.last) greatest
      by_count zero e = ap (λ o. option_or (placed page (keys.cells - 1) o) greatest) (sym (span.none e))
      by_count (suc n) e =
          let i : n + 1 ≡ count v = omega arith in
          let cells = span.cells_are in
          let last : n ≡ keys.cells - 1 = omega arith in
          ap (λ o. option_or (placed page n o) greatest) (span.last_is n i) ∙ ap (λ m. option_or (placed page m keys.last) greatest) last

  -- the first n cells
  rising_to : (n : ℕ) → n ≤ count v → AreRisingFrom page v 0 n greatest (top_at n)
  unfolding top_at
  rising_to zero low = refl
  rising_to (suc n) low =
      let e : n ≡ 0 + n = omega arith in (
        top_at n,
        rising_to n (omega arith),
        subst (IsAllLocal v) e (span.whole n (omega arith)),
        subst (λ i. IsAboveLast (key_value (top_at n)) (key_at v i)) e (above_at n (omega arith)),
        sym (top_step n (omega arith)) ∙ ap (λ i. option_or (placed page i (key_at v i)) (top_at n)) e,
      )

  -- and all of them: the last key is the greatest
  pub rising_all : AreRisingFrom page v 0 (count v) greatest (option_or (placed page (keys.cells - 1) keys.last) greatest)
  rising_all = subst (AreRisingFrom page v 0 (count v) greatest) top_end (rising_to (count v) (omega arith))
