-- The freeblocks of a page, one after another.
use Rattle.std.proofs.Common.{◌≡◌, ℕ, zero, suc, ◌+◌, ◌*◌, ◌<◌, ◌≤◌, Bool, true, false, List, [], ◌∷◌, ◌++◌, length, take, refl, sym, subst, ap, ◌∙◌, arith}
use Rattle.std.proofs.Common.{length-append}
use Rattle.std.specs.Prelude.{sum_by}
use Rattle.std.proofs.lemmas.List.{append_assoc, take_at, length_push, length-take-le}
use Rattle.std.proofs.lemmas.List.Sums.{sum_by-cons}
use Rattle.dbformat.specs.Head.{View, content_start, first_freeblock, fragmented_bytes}
use Rattle.dbformat.specs.Coverage.{Span, freeblocks, freeblocks_from, freeblock_at, next_freeblock, is_good_freeblock, offset_after, unused}
use Rattle.dbpage.specs.Freeblocks.{HasPassed}
use Rattle.dbformat.proofs.Freeblocks.{good_parts, good_ends, none_past_end, from_good, from_bad}

-- any number that is enough gives the same freeblocks
enough_is_enough : (n m : ℕ) (v : View) (end offset : ℕ) → v.usable ≤ end + 4 * n + 3 → v.usable ≤ end + 4 * m + 3
    → freeblocks_from n v end offset ≡ freeblocks_from m v end offset
enough_is_enough zero m v end offset p q =
    sym (from_bad m v end offset (none_past_end v end offset (is_good_freeblock v end offset) refl (omega arith)))
enough_is_enough (suc n) zero v end offset p q =
    from_bad (suc n) v end offset (none_past_end v end offset (is_good_freeblock v end offset) refl (omega arith))
enough_is_enough (suc n) (suc m) v end offset p q =
    by_case (is_good_freeblock v end offset) refl (enough_is_enough n m v (offset + (freeblock_at v offset).len) (next_freeblock v offset))
  where
    by_case : (b : Bool) → is_good_freeblock v end offset ≡ b
        → (v.usable ≤ (offset + (freeblock_at v offset).len) + 4 * n + 3 → v.usable ≤ (offset + (freeblock_at v offset).len) + 4 * m + 3
        → freeblocks_from n v (offset + (freeblock_at v offset).len) (next_freeblock v offset)
        ≡ freeblocks_from m v (offset + (freeblock_at v offset).len) (next_freeblock v offset))
        → freeblocks_from (suc n) v end offset ≡ freeblocks_from (suc m) v end offset
    by_case true h rest =
        let ends = good_ends v end offset h in
        from_good n v end offset h
        ∙ ap (λ (fs : List Span). freeblock_at v offset ∷ fs) (rest (omega arith) (omega arith))
        ∙ sym (from_good m v end offset h)
    by_case false h rest = from_bad (suc n) v end offset h ∙ sym (from_bad (suc m) v end offset h)

-- the usable bytes are enough at each place
pub next_good : (v : View) (end offset : ℕ) → is_good_freeblock v end offset ≡ true
    → freeblocks_from v.usable v end offset ≡ freeblock_at v offset
    ∷ freeblocks_from v.usable v (offset + (freeblock_at v offset).len) (next_freeblock v offset)
next_good v end offset h =
    enough_is_enough v.usable (suc v.usable) v end offset (omega arith) (omega arith) ∙ from_good v.usable v end offset h

pub offset_after_push : (v : View) (fs : List Span) (f : Span) → offset_after v (fs ++ f ∷ []) ≡ next_freeblock v f.offset
offset_after_push v [] f = refl
offset_after_push v (g ∷ []) f = refl
offset_after_push v (g ∷ h ∷ fs) f = offset_after_push v (h ∷ fs) f

-- freeblocks are apart, so that all their sizes fit in what is left of the page
pub sum-freeblocks_from : (n : ℕ) (v : View) (end offset : ℕ) → end ≤ v.usable → end + sum_by (λ f. f.len) (freeblocks_from n v end offset) ≤ v.usable
sum-freeblocks_from zero v end offset h = omega arith
sum-freeblocks_from (suc n) v end offset h =
    by_case (is_good_freeblock v end offset) refl (sum-freeblocks_from n v (offset + (freeblock_at v offset).len) (next_freeblock v offset))
  where
    by_case : (b : Bool) → is_good_freeblock v end offset ≡ b
        → (offset + (freeblock_at v offset).len ≤ v.usable
        → (offset + (freeblock_at v offset).len) + sum_by (λ f. f.len) (freeblocks_from n v (offset + (freeblock_at v offset).len) (next_freeblock v offset))
        ≤ v.usable)
        → end + sum_by (λ f. f.len) (freeblocks_from (suc n) v end offset) ≤ v.usable
    by_case true good fits =
        let parts = good_parts v end offset good in
        let rest = fits parts.inside in
        let whole = sum_by-cons (λ (f : Span). f.len) (freeblock_at v offset)
        (freeblocks_from n v (offset + (freeblock_at v offset).len) (next_freeblock v offset)) in
        rw (from_good n v end offset good) (omega (arith, rest, whole, parts.behind))
    by_case false bad fits = rw (from_bad (suc n) v end offset bad) (omega arith)

pub sum-freeblocks : (v : View) → sum_by (λ f. f.len) (freeblocks v) ≤ v.usable
unfolding freeblocks
sum-freeblocks v = omega (arith, sum-freeblocks_from v.usable v 0 (first_freeblock v.number v.bytes) (omega arith))

-- so what is free is bounded
pub unused_most : (v : View) → unused v ≤ content_start v.number v.bytes + fragmented_bytes v.number v.bytes + v.usable
unfolding unused
unused_most v = omega (arith, sum-freeblocks v)

length-freeblocks_from : (n : ℕ) (v : View) (end offset : ℕ) → length (freeblocks_from n v end offset) ≤ n
length-freeblocks_from zero v end offset = omega arith
length-freeblocks_from (suc n) v end offset =
    by_case (is_good_freeblock v end offset) refl (length-freeblocks_from n v (offset + (freeblock_at v offset).len) (next_freeblock v offset))
  where
    by_case : (b : Bool) → is_good_freeblock v end offset ≡ b
        → length (freeblocks_from n v (offset + (freeblock_at v offset).len) (next_freeblock v offset)) ≤ n
        → length (freeblocks_from (suc n) v end offset) ≤ suc n
    by_case true good rest = rw (from_good n v end offset good) (omega (arith, rest))
    by_case false bad rest = rw (from_bad (suc n) v end offset bad) (omega arith)

pub length-freeblocks : (v : View) → length (freeblocks v) ≤ v.usable
unfolding freeblocks
length-freeblocks v = length-freeblocks_from v.usable v 0 (first_freeblock v.number v.bytes)

-- a walk begins with all freeblocks to come
pub place_start : (v : View) → HasPassed v 0 0 (first_freeblock v.number v.bytes)
unfolding freeblocks
place_start v = record { whole = refl; behind = refl; few = omega arith }

-- and goes on after a good one
taken_more : (fs done rest : List Span) (f : Span) (n : ℕ) → done ++ f ∷ rest ≡ fs → length done ≡ n → take (n + 1) fs ≡ done ++ f ∷ []
taken_more fs done rest f n whole len =
    ap (take (n + 1)) (sym whole ∙ sym (append_assoc done (f ∷ []) rest)) ∙ take_at (done ++ f ∷ []) rest (n + 1) (omega (arith, length_push done f))

module _ (v : View) (number end offset : ℕ) (place : HasPassed v number end offset) where
  count_taken : length (take number (freeblocks v)) ≡ number
  count_taken = length-take-le number (freeblocks v) place.few

  abbrev done : List Span
  done = take number (freeblocks v)

  abbrev rest : List Span
  rest = freeblocks_from v.usable v (offset + (freeblock_at v offset).len) (next_freeblock v offset)

  whole_at : is_good_freeblock v end offset ≡ true → done ++ freeblock_at v offset ∷ rest ≡ freeblocks v
  whole_at good = ap (λ (fs : List Span). done ++ fs) (sym (next_good v end offset good)) ∙ place.whole

  pub one_more : is_good_freeblock v end offset ≡ true → number < length (freeblocks v)
  one_more good = omega (arith, ap length (whole_at good), length-append done (freeblock_at v offset ∷ rest), count_taken)

  pub place_more : is_good_freeblock v end offset ≡ true → HasPassed v (number + 1) (offset + (freeblock_at v offset).len) (next_freeblock v offset)
  place_more good =
      let taken = taken_more (freeblocks v) done rest (freeblock_at v offset) number (whole_at good) count_taken in
      record {
        whole = ap (λ (fs : List Span). fs ++ rest) taken ∙ append_assoc done (freeblock_at v offset ∷ []) rest ∙ whole_at good;
        behind = ap (offset_after v) taken ∙ offset_after_push v done (freeblock_at v offset);
        few = omega (arith, one_more good);
      }

pub place_at : (v : View) (n e o e' o' : ℕ) → HasPassed v n e o → e ≡ e' → o ≡ o' → HasPassed v n e' o'
place_at v n e o e' o' place p q = subst (λ (b : ℕ). HasPassed v n e' b) q (subst (λ (a : ℕ). HasPassed v n a o) p place)

-- what is left at a good freeblock is that freeblock and what is left after it
pub left_more : (v : View) (end offset : ℕ) (f : Span) (e' o' : ℕ) → is_good_freeblock v end offset ≡ true → freeblock_at v offset ≡ f
    → offset + (freeblock_at v offset).len ≡ e' → next_freeblock v offset ≡ o' → freeblocks_from v.usable v end offset ≡ f ∷ freeblocks_from v.usable v e' o'
left_more v end offset f e' o' good same p q =
    next_good v end offset good
    ∙ ap (λ (g : Span). g ∷ freeblocks_from v.usable v (offset + (freeblock_at v offset).len) (next_freeblock v offset)) same
    ∙ ap (λ (a : ℕ). f ∷ freeblocks_from v.usable v a (next_freeblock v offset)) p
    ∙ ap (λ (b : ℕ). f ∷ freeblocks_from v.usable v e' b) q
