-- The items of a leaf of a table that are noted one after another.
use Rattle.std.proofs.Common.{◌≡◌, ℕ, zero, suc, ◌+◌, ◌-◌, ◌<◌, ◌≤◌, Bool, true, false, List, [], ◌∷◌, ◌++◌, length, Option, Some, None, Result, Ok, Err}
use Rattle.std.proofs.Common.{refl, sym, subst, ap, ◌∙◌, arith, append_assoc}
use Rattle.std.specs.Prelude.{IsOk}
use Rattle.dbformat.specs.Head.{View, content_start}
use Rattle.dbformat.specs.Cell.{Cell, cell, count}
use Rattle.dbformat.specs.Coverage.{Span, coverage, coverage_of, first_overlap, freeblocks, held_by, is_overlapping, items}
use Rattle.dbformat.specs.declared.CellFault.{CellFault}
use Rattle.dbformat.specs.declared.Coverage.TheVariants.{Overlap, Unheld}
use Rattle.dbpage.specs.Marking.{Holds, ShareNoByte, cells_upto, cell_spans}
use Rattle.dbpage.specs.Notes.{bytes_below, Notes, HasNear, AreApart, AreNotedIn, Walked, end_at}
use Rattle.dbpage.specs.Packed.{IsUnpacked}
use Rattle.dbpage.proofs.Items.{cells_upto_more, freeblock_inside, items_at}
use Rattle.dbpage.proofs.Noted.{AreNoted_push, apart_before, not_apart_near}
use Rattle.dbpage.proofs.Ranges.{find_any}
use Rattle.dbpage.proofs.Unheld.{none_held}

none_below : (ends : ℕ → ℕ) → ((a : ℕ) → ends a ≡ 0) → (n : ℕ) → bytes_below ends n ≡ 0
none_below ends free zero = refl
none_below ends free (suc n) = omega (arith, none_below ends free n, free n)

-- nothing is noted
pub AreNoted_none : (v : View) (table : List ℕ) → ((a : ℕ) → end_at table (content_start v.number v.bytes) v.usable a ≡ 0) → AreNotedIn v [] table 0
AreNoted_none v table free =
    let start = content_start v.number v.bytes in
    let ends = end_at table start v.usable in
    record {
      inside = λ a some. absurd (omega (arith, some, free a));
      covers = λ byte from under h. absurd (not_true h);
      held_by = λ a byte on under. absurd (omega (arith, under, free a));
      rising = λ h a b less under na nb. absurd (omega (arith, na, free a));
      apart = λ rise. record { apart = λ k h. absurd (omega (arith, h)); counted = omega (arith, none_held start (v.usable - start)) };
      counted = none_below ends free v.usable;
    }
  where
    not_true : false ≡ true → ⊥
    not_true h = cc

-- a page two of whose items share a byte
pub unpacked_unless_apart : (v : View) → (AreApart (items v) → ⊥) → IsUnpacked v
unfolding coverage
unpacked_unless_apart v h page all = by_case (first_overlap (items v)) refl
  where
    not_both : (k unheld : ℕ) → Overlap k ≡ Unheld unheld → ⊥
    not_both k unheld e = cc

    by_case : (o : Option ℕ) → first_overlap (items v) ≡ o → ⊥
    by_case (Some k) e = not_both k page.unheld (sym (ap (coverage_of v) e) ∙ all.coverage_is)
    by_case None e = h (λ k l. apart_at k l (is_overlapping (items v) k) refl)
      where
        apart_at : (k : ℕ) → k < length (items v) → (b : Bool) → is_overlapping (items v) k ≡ b → is_overlapping (items v) k ≡ false
        apart_at k l false f = f
        apart_at k l true f = absurd (find_any (is_overlapping (items v)) 0 (length (items v)) k (omega arith) (omega (arith, l)) f e)

-- a readable cell holds four bytes at least
pub Holds-four : (v : View) (i offset len : ℕ) → Holds v i offset len → IsOk (cell v i) → 4 ≤ len
Holds-four v i offset len has ok = by_case (cell v i) refl ok
  where
    by_case : (r : Result Cell CellFault) → cell v i ≡ r → IsOk r → 4 ≤ len
    by_case (Ok c) e h = omega (arith, ap (λ (s : Span). s.len) (sym (ap (held_by v i) e) ∙ has.held))
    by_case (Err x) e h = absurd (no_ok x h)
      where
        no_ok : (x : CellFault) → IsOk {T = Cell} (Err x) → ⊥
        no_ok x h = cc

module _ (v : View) (i : ℕ) (table : List ℕ) (held : ℕ) (was : AreNotedIn v (cells_upto v i) table held) (offset len : ℕ) (has : Holds v i offset len)
    (four : 4 ≤ len) where
  abbrev start : ℕ
  start = content_start v.number v.bytes

  abbrev s : Span
  s = record { offset = offset; len = len }

  -- one more cell is noted
  pub cell_noted : (new : List ℕ) → Notes (end_at table start v.usable) (end_at new start v.usable) offset (offset + len)
      → AreNotedIn v (cells_upto v (i + 1)) new (held + len)
  cell_noted new notes =
      let all : cells_upto v (i + 1) ≡ cells_upto v i ++ s ∷ [] = cells_upto_more v i ∙ ap (λ (t : Span). cells_upto v i ++ t ∷ []) has.held in
      subst (λ (spans : List Span). AreNotedIn v spans new (held + len)) (sym all)
      (AreNoted_push (cells_upto v i) s start v.usable (end_at table start v.usable) held was has.from_start has.ends four (end_at new start v.usable) notes)

  -- or it is near another
  pub cell_near : i < count v → HasNear (end_at table start v.usable) offset → IsUnpacked v
  cell_near within near =
      let whole = items_at v i within in
      let all : items v ≡ cells_upto v i ++ s ∷ whole.0 = whole.1 ∙ ap (λ (t : Span). cells_upto v i ++ t ∷ whole.0) has.held in
      let split : cells_upto v i ++ s ∷ whole.0 ≡ (cells_upto v i ++ s ∷ []) ++ whole.0 = sym (append_assoc (cells_upto v i) (s ∷ []) whole.0) in
      unpacked_unless_apart v (λ apart. not_apart_near (cells_upto v i) s start v.usable (end_at table start v.usable) held was has.from_start has.ends four
      near (apart_before (cells_upto v i ++ s ∷ []) whole.0 (subst AreApart (all ∙ split) apart)))

-- the same of freeblocks, after the cells
module _ (v : View) (done rest : List Span) (f : Span) (table : List ℕ) (held : ℕ) (was : AreNotedIn v (cell_spans v ++ done) table held)
    (whole : done ++ f ∷ rest ≡ freeblocks v) where
  abbrev begin : ℕ
  begin = content_start v.number v.bytes

  pub freeblock_noted : (new : List ℕ) → Notes (end_at table begin v.usable) (end_at new begin v.usable) f.offset (f.offset + f.len)
      → AreNotedIn v (cell_spans v ++ (done ++ f ∷ [])) new (held + f.len)
  freeblock_noted new notes =
      let inside = freeblock_inside v done rest f whole in
      subst (λ (spans : List Span). AreNotedIn v spans new (held + f.len)) (append_assoc (cell_spans v) done (f ∷ []))
      (AreNoted_push (cell_spans v ++ done) f begin v.usable (end_at table begin v.usable) held was inside.0 inside.1 inside.2 (end_at new begin v.usable)
      notes)

  pub freeblock_near : HasNear (end_at table begin v.usable) f.offset → IsUnpacked v
  unfolding items
  freeblock_near near =
      let inside = freeblock_inside v done rest f whole in
      let all : items v ≡ ((cell_spans v ++ done) ++ f ∷ []) ++ rest = ap (λ (fs : List Span). cell_spans v ++ fs) (sym whole)
      ∙ sym (append_assoc (cell_spans v) done (f ∷ rest)) ∙ sym (append_assoc (cell_spans v ++ done) (f ∷ []) rest) in
      unpacked_unless_apart v (λ apart. not_apart_near (cell_spans v ++ done) f begin v.usable (end_at table begin v.usable) held was inside.0 inside.1 inside.2
      near (apart_before ((cell_spans v ++ done) ++ f ∷ []) rest (subst AreApart all apart)))

pub all_noted : (v : View) (done : List Span) (table : List ℕ) (held : ℕ) → AreNotedIn v (cell_spans v ++ done) table held → done ≡ freeblocks v
    → AreNotedIn v (items v) table held
unfolding items
all_noted v done table held was whole = subst (λ (fs : List Span). AreNotedIn v (cell_spans v ++ fs) table held) whole was

-- the walk met all items, or not
module _ (v : View) (table : List ℕ) (held seen : ℕ) (noted : AreNotedIn v (items v) table held)
    (walked : Walked (end_at table (content_start v.number v.bytes) v.usable) v.usable v.usable seen) where
  pub all_met : seen ≡ held → ShareNoByte (items v) (content_start v.number v.bytes) v.usable held
  all_met same = noted.apart (walked.rising (same ∙ sym noted.counted))

  pub not_all_met : (seen ≡ held → ⊥) → IsUnpacked v
  not_all_met other = unpacked_unless_apart v (λ apart. other (walked.all (noted.rising apart) ∙ noted.counted))
