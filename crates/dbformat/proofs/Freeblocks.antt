-- The list of good freeblocks ends before one that is not good, and not for want of the number that bounds it.
use Rattle.std.proofs.Common.{◌≡◌, ℕ, zero, suc, ◌+◌, ◌-◌, ◌*◌, ◌≤◌, Bool, true, false, ◌&&◌, List, [], ◌∷◌, refl, arith}
use Rattle.std.specs.Prelude.{nat_le}
use Rattle.std.proofs.lemmas.Bool.Decides.{nat_tests}
use Rattle.dbformat.specs.Head.{View, first_freeblock, content_start}
use Rattle.dbformat.specs.Coverage.{Span, AreFreeblocksAll, freeblocks, freeblocks_from, freeblock_at, next_freeblock, is_good_freeblock, offset_after}
use Rattle.dbformat.specs.Coverage.{end_after}

-- what a good freeblock is
pub record IsGood (v : View) (end offset : ℕ) : Type 0 where
  pub from_start : content_start v.number v.bytes ≤ offset
  pub has_four : offset ≤ v.usable - 4
  pub least : 4 ≤ (freeblock_at v offset).len
  pub inside : offset + (freeblock_at v offset).len ≤ v.usable
  pub behind : end ≤ offset

five : (a b c d e : Bool) → (a && b && c && d && e) ≡ true → (a ≡ true) × (b ≡ true) × (c ≡ true) × (d ≡ true) × (e ≡ true)
five true true true true true h = (refl, refl, refl, refl, refl)
five true true true true false h = cc
five true true true false e h = cc
five true true false d e h = cc
five true false c d e h = cc
five false b c d e h = cc

pub good_parts : (v : View) (end offset : ℕ) → is_good_freeblock v end offset ≡ true → IsGood v end offset
good_parts v end offset h =
    let parts = five (nat_le (content_start v.number v.bytes) offset) (nat_le offset (v.usable - 4)) (nat_le 4 (freeblock_at v offset).len)
    (nat_le (offset + (freeblock_at v offset).len) v.usable) (nat_le end offset) h in
    record {
      from_start = grind (arith, nat_tests);
      has_four = grind (arith, nat_tests);
      least = grind (arith, nat_tests);
      inside = grind (arith, nat_tests);
      behind = grind (arith, nat_tests);
    }

-- a good freeblock ends four bytes further on at least, and by the usable end
pub good_ends : (v : View) (end offset : ℕ) → is_good_freeblock v end offset ≡ true
    → (end + 4 ≤ offset + (freeblock_at v offset).len) × (offset + (freeblock_at v offset).len ≤ v.usable)
good_ends v end offset h = let g = good_parts v end offset h in (let least = g.least in let behind = g.behind in omega arith, g.inside)

pub none_past_end : (v : View) (end offset : ℕ) (b : Bool) → is_good_freeblock v end offset ≡ b → v.usable ≤ end + 3 → b ≡ false
none_past_end v end offset true h past = let g = good_ends v end offset h in absurd (omega arith)
none_past_end v end offset false h past = refl

-- one good freeblock and those after it
pub from_good : (n : ℕ) (v : View) (end offset : ℕ) → is_good_freeblock v end offset ≡ true
    → freeblocks_from (suc n) v end offset ≡ freeblock_at v offset ∷ freeblocks_from n v (offset + (freeblock_at v offset).len) (next_freeblock v offset)
from_good n v end offset h = rw h refl

pub from_bad : (n : ℕ) (v : View) (end offset : ℕ) → is_good_freeblock v end offset ≡ false → freeblocks_from n v end offset ≡ []
from_bad zero v end offset h = refl
from_bad (suc n) v end offset h = rw h refl

-- where some freeblocks after this end themselves end, and where the list goes on after them
abbrev end_from : ℕ → List Span → ℕ
end_from end [] = end
end_from end (f ∷ fs) = end_from (f.offset + f.len) fs

abbrev next_from : View → ℕ → List Span → ℕ
next_from v offset [] = offset
next_from v offset (f ∷ fs) = next_from v (next_freeblock v f.offset) fs

end_from_first : (fs : List Span) → end_from 0 fs ≡ end_after fs
end_from_first [] = refl
end_from_first (f ∷ []) = refl
end_from_first (f ∷ g ∷ fs) = end_from_first (g ∷ fs)

next_from_first : (v : View) (fs : List Span) → next_from v (first_freeblock v.number v.bytes) fs ≡ offset_after v fs
next_from_first v [] = refl
next_from_first v (f ∷ []) = refl
next_from_first v (f ∷ g ∷ fs) = next_from_first v (g ∷ fs)

-- after a list no good one follows
abbrev IsOver : View → ℕ → ℕ → List Span → Type 0
IsOver v end offset fs = is_good_freeblock v (end_from end fs) (next_from v offset fs) ≡ false

enough : (n : ℕ) (v : View) (end offset : ℕ) → v.usable ≤ end + 4 * n + 3 → IsOver v end offset (freeblocks_from n v end offset)
enough zero v end offset past = none_past_end v end offset (is_good_freeblock v end offset) refl (omega arith)
enough (suc n) v end offset past = by_case (is_good_freeblock v end offset) refl (enough n v (offset + (freeblock_at v offset).len) (next_freeblock v offset))
  where
    by_case : (b : Bool) → is_good_freeblock v end offset ≡ b
        → (v.usable ≤ (offset + (freeblock_at v offset).len) + 4 * n + 3
        → IsOver v (offset + (freeblock_at v offset).len) (next_freeblock v offset)
        (freeblocks_from n v (offset + (freeblock_at v offset).len) (next_freeblock v offset)))
        → IsOver v end offset (freeblocks_from (suc n) v end offset)
    by_case true h rest = let g = good_ends v end offset h in rw (from_good n v end offset h) (rest (omega arith))
    by_case false h rest = rw (from_bad (suc n) v end offset h) h

pub freeblocks_end : (v : View) → AreFreeblocksAll v
unfolding freeblocks
freeblocks_end v =
    let fs = freeblocks_from v.usable v 0 (first_freeblock v.number v.bytes) in
    let over : IsOver v 0 (first_freeblock v.number v.bytes) fs = enough v.usable v 0 (first_freeblock v.number v.bytes) (omega arith) in
    rw (end_from_first fs, next_from_first v fs) at over
