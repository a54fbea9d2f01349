-- The items of a page, one after another.
use Rattle.std.proofs.Common.{◌≡◌, ℕ, suc, ◌+◌, ◌-◌, ◌<◌, ◌≤◌, max, zero, true, false, Bool, List, [], ◌∷◌, ◌++◌, length, take, drop, get_or, Ok, Some, refl}
use Rattle.std.proofs.Common.{sym, subst, ap, ◌∙◌, arith, append_assoc, length-append}
use Rattle.std.proofs.lemmas.List.{take-append-drop, drop_more, get_or_append_left, get_or-append_right}
use Rattle.std.proofs.lemmas.List.FromFn.{length-map-range_with_len, take-map-range_with_len, get_or-map-range_with_len, map-range_with_len_more}
use Rattle.dbformat.specs.Head.{View, content_start, first_freeblock}
use Rattle.dbformat.specs.Cell.{Cell, cell, cell_pointer, count}
use Rattle.dbformat.specs.Coverage.{Span, held_by, items, freeblocks, freeblocks_from, freeblock_at, next_freeblock, is_good_freeblock, first_overlap}
use Rattle.dbpage.specs.Marking.{is_claimed, AreMarked, HasMarked, Holds, HoldsNothing, Marks, cells_upto, cell_spans}
use Rattle.dbformat.proofs.Freeblocks.{good_parts, from_good, from_bad}
use Rattle.dbpage.proofs.FreeblockLemmas.{length-freeblocks}
use Rattle.dbpage.proofs.CellLemmas.{cell_within, offset-held_by}
use Rattle.dbpage.proofs.Unheld.{none_held}
use Rattle.dbpage.proofs.Overlaps.{no_span, AreMarked_push, AreMarked_push_empty, first_overlap_at}

abbrev item : View → ℕ → Span
item v i = held_by v i (cell v i)

abbrev start_of : View → ℕ
start_of v = content_start v.number v.bytes

pub cells_upto_more : (v : View) (n : ℕ) → cells_upto v (n + 1) ≡ cells_upto v n ++ item v n ∷ []
cells_upto_more v n = map-range_with_len_more (item v) 0 n n (omega arith)

pub length-cells_upto : (v : View) (n : ℕ) → length (cells_upto v n) ≡ n
length-cells_upto v n = length-map-range_with_len (item v) 0 n

-- the items are those of the cells before one, its own, and others
pub items_at : (v : View) (i : ℕ) → i < count v → (rest : List Span) × (items v ≡ cells_upto v i ++ item v i ∷ rest)
unfolding items
items_at v i h =
    let all = cell_spans v in
    let rest = drop (i + 1) all in
    let front : take i all ≡ cells_upto v i = take-map-range_with_len (item v) 0 (count v) i (omega arith) in
    let back : drop i all ≡ item v i ∷ rest =
    drop_more all i no_span (omega (arith, length-cells_upto v (count v)))
    ∙ ap (λ (s : Span). s ∷ rest) (get_or-map-range_with_len (item v) 0 (count v) i i no_span h (omega arith)) in
    let whole : all ≡ cells_upto v i ++ item v i ∷ rest = sym (take-append-drop i all) ∙ ap (λ (xs : List Span). xs ++ drop i all) front
    ∙ ap (λ (xs : List Span). cells_upto v i ++ xs) back in
    (rest ++ freeblocks v, ap (λ (xs : List Span). xs ++ freeblocks v) whole ∙ append_assoc (cells_upto v i) (item v i ∷ rest) (freeblocks v))

pub Holds-from_read : (v : View) (i : ℕ) (c : Cell) (offset len : ℕ) → cell v i ≡ Ok c → c.offset ≡ offset → max c.len 4 ≡ len → Holds v i offset len
Holds-from_read v i c offset len readable place size =
    let inside = cell_within v i c readable in
    record {
      held = ap (held_by v i) readable ∙ ap (λ (o : ℕ). span o (max c.len 4)) place ∙ ap (span offset) size;
      from_start = omega (arith, inside.from_start);
      ends = omega (arith, inside.ends);
    }
  where
    span : ℕ → ℕ → Span
    span o l = record { offset = o; len = l }

pub AreMarked_none : (v : View) (table : List ℕ) → ((byte : ℕ) → byte < v.usable → is_claimed table byte ≡ false)
    → AreMarked [] (start_of v) v.usable table 0
AreMarked_none v table free = record {
  marked = λ byte from below. free byte below;
  apart = λ k none. absurd (omega arith);
  counted =
      omega (arith, none_held (start_of v) (v.usable - start_of v));
}

module _ (v : View) (i : ℕ) (table : List ℕ) (held : ℕ) (was : AreMarked (cells_upto v i) (start_of v) v.usable table held) where
  -- one more cell is marked
  pub cell_marked : (offset len : ℕ) (new : List ℕ) → Holds v i offset len → Marks table offset (offset + len) new
      → AreMarked (cells_upto v (i + 1)) (start_of v) v.usable new (held + len)
  cell_marked offset len new has marks =
      let s : Span = record { offset = offset; len = len } in
      let all : cells_upto v (i + 1) ≡ cells_upto v i ++ s ∷ [] = cells_upto_more v i ∙ ap (λ (t : Span). cells_upto v i ++ t ∷ []) has.held in
      subst (λ (spans : List Span). AreMarked spans (start_of v) v.usable new (held + len)) (sym all)
      (AreMarked_push (cells_upto v i) s (start_of v) v.usable table held was new has.from_start has.ends marks)

  -- or it holds nothing
  pub cell_passed : HoldsNothing v i → AreMarked (cells_upto v (i + 1)) (start_of v) v.usable table held
  cell_passed none =
      subst (λ (spans : List Span). AreMarked spans (start_of v) v.usable table held) (sym (cells_upto_more v i))
      (AreMarked_push_empty (cells_upto v i) (item v i) (start_of v) v.usable table held was none)

  -- or it overlaps
  pub cell_overlaps : (offset len : ℕ) → i < count v → Holds v i offset len → HasMarked table offset (offset + len) → first_overlap (items v) ≡ Some i
  cell_overlaps offset len within has hit =
      let s : Span = record { offset = offset; len = len } in
      let whole = items_at v i within in
      let all : items v ≡ cells_upto v i ++ s ∷ whole.0 = whole.1 ∙ ap (λ (t : Span). cells_upto v i ++ t ∷ whole.0) has.held in
      ap first_overlap all
      ∙ first_overlap_at (cells_upto v i) s (start_of v) v.usable table held was whole.0 has.from_start has.ends hit
      ∙ ap (λ (n : ℕ). Some n) (length-cells_upto v i)

abbrev IsInContent : View → Span → Type 0
IsInContent v f = (start_of v ≤ f.offset) × (f.offset + f.len ≤ v.usable) × (4 ≤ f.len)

same_head : (f g : Span) (fs gs : List Span) → f ∷ fs ≡ g ∷ gs → (g ≡ f) × (fs ≡ gs)
same_head f g fs gs h = (cc, cc)

not_nil : (done rest : List Span) (f : Span) → done ++ f ∷ rest ≡ [] → ⊥
not_nil done rest f h = omega (arith, ap length h, length-append done (f ∷ rest))

-- each good freeblock lies in the content area
inside_from : (n : ℕ) (v : View) (end offset : ℕ) (done rest : List Span) (f : Span) → done ++ f ∷ rest ≡ freeblocks_from n v end offset → IsInContent v f
inside_from zero v end offset done rest f h = absurd (not_nil done rest f h)
inside_from (suc n) v end offset done rest f h =
    by_case done h (is_good_freeblock v end offset) refl (λ ds. inside_from n v (offset + (freeblock_at v offset).len) (next_freeblock v offset) ds rest f)
  where
    by_case : (done : List Span) → done ++ f ∷ rest ≡ freeblocks_from (suc n) v end offset → (b : Bool) → is_good_freeblock v end offset ≡ b
        → ((ds : List Span) → ds ++ f ∷ rest ≡ freeblocks_from n v (offset + (freeblock_at v offset).len) (next_freeblock v offset) → IsInContent v f)
        → IsInContent v f
    by_case done h false bad more = absurd (not_nil done rest f (h ∙ from_bad (suc n) v end offset bad))
    by_case [] h true good more =
        let parts = good_parts v end offset good in
        let same = same_head f (freeblock_at v offset) rest _ (h ∙ from_good n v end offset good) in
        subst (IsInContent v) same.0 (parts.from_start, parts.inside, parts.least)
    by_case (d ∷ ds) h true good more = more ds (same_head d (freeblock_at v offset) (ds ++ f ∷ rest) _ (h ∙ from_good n v end offset good)).1

pub freeblock_inside : (v : View) (done rest : List Span) (f : Span) → done ++ f ∷ rest ≡ freeblocks v → IsInContent v f
unfolding freeblocks
freeblock_inside v done rest f h = inside_from v.usable v 0 (first_freeblock v.number v.bytes) done rest f h

-- after the marked cells, some freeblocks are marked, and others follow
module _ (v : View) (done rest : List Span) (f : Span) (table : List ℕ) (held : ℕ) (was : AreMarked (cell_spans v ++ done) (start_of v) v.usable table held)
    (whole : done ++ f ∷ rest ≡ freeblocks v) where
  pub freeblock_marked : (new : List ℕ) → Marks table f.offset (f.offset + f.len) new
      → AreMarked (cell_spans v ++ (done ++ f ∷ [])) (start_of v) v.usable new (held + f.len)
  freeblock_marked new marks =
      let inside = freeblock_inside v done rest f whole in
      subst (λ (spans : List Span). AreMarked spans (start_of v) v.usable new (held + f.len)) (append_assoc (cell_spans v) done (f ∷ []))
      (AreMarked_push (cell_spans v ++ done) f (start_of v) v.usable table held was new inside.0 inside.1 marks)

  pub freeblock_overlaps : HasMarked table f.offset (f.offset + f.len) → first_overlap (items v) ≡ Some (count v + length done)
  unfolding items
  freeblock_overlaps hit =
      let inside = freeblock_inside v done rest f whole in
      let all : items v ≡ (cell_spans v ++ done) ++ f ∷ rest = ap (λ (fs : List Span). cell_spans v ++ fs) (sym whole)
      ∙ sym (append_assoc (cell_spans v) done (f ∷ rest)) in
      let len : length (cell_spans v ++ done) ≡ count v + length done = omega (arith, length-append (cell_spans v) done, length-cells_upto v (count v)) in
      ap first_overlap all
      ∙ first_overlap_at (cell_spans v ++ done) f (start_of v) v.usable table held was rest inside.0 inside.1 hit
      ∙ ap (λ (n : ℕ). Some n) len

pub all_marked : (v : View) (done : List Span) (table : List ℕ) (held : ℕ) → AreMarked (cell_spans v ++ done) (start_of v) v.usable table held → done
    ≡ freeblocks v
    → AreMarked (items v) (start_of v) v.usable table held
unfolding items
all_marked v done table held was whole = subst (λ (fs : List Span). AreMarked (cell_spans v ++ fs) (start_of v) v.usable table held) whole was

-- the next freeblock of a walk comes after those before it
pub next_whole : (v : View) (done left rest : List Span) (f g : Span) → done ++ left ≡ freeblocks v → left ≡ f ∷ rest → g ≡ f → done ++ g ∷ rest ≡ freeblocks v
next_whole v done left rest f g whole taken same =
    ap (λ (h : Span). done ++ h ∷ rest) same ∙ ap (λ (fs : List Span). done ++ fs) (sym taken) ∙ whole

pub count_done : (v : View) (done rest : List Span) (f : Span) → done ++ f ∷ rest ≡ freeblocks v → length done < v.usable
count_done v done rest f whole = omega (arith, ap length whole, length-append done (f ∷ rest), length-freeblocks v)

-- where an item begins: a cell at its pointer, and a freeblock at its offset
pub offset_of_cell : (v : View) (k : ℕ) → k < count v → (get_or (items v) k no_span).offset ≡ cell_pointer v k
unfolding items
offset_of_cell v k h =
    let front = get_or_append_left (cell_spans v) (freeblocks v) no_span k (omega (arith, length-cells_upto v (count v))) in
    let at = get_or-map-range_with_len (item v) 0 (count v) k k no_span h (omega arith) in
    ap (λ (s : Span). s.offset) (front ∙ at) ∙ offset-held_by v k

pub offset_of_freeblock : (v : View) (k : ℕ) → count v ≤ k → get_or (items v) k no_span ≡ get_or (freeblocks v) (k - count v) no_span
unfolding items
offset_of_freeblock v k h = get_or-append_right (cell_spans v) (freeblocks v) (count v) k no_span (length-cells_upto v (count v)) h
