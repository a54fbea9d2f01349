-- From one place of a journal to the next.
use Rattle.std.proofs.Common.{◌≡◌, ℕ, ◌<◌, ◌+◌, Bool, true, false, List, [], length, take, drop, refl, sym, ap, subst, ◌∙◌, arith, cond, ◌-◌, ◌*◌, ◌/◌}
use Rattle.std.specs.Prelude.{◌%◌, ◌==◌, ◌&&◌, nat_le, nat_lt, Some, None, Result, Ok, Err}
use Rattle.std.proofs.Math.Nat.{div-add-mod, mod-eq_of_lt, mod-lt}
use Rattle.std.proofs.lemmas.Bool.Decides.{nat_tests}
use Rattle.dbformat.specs.Numbers.{u32_at}
use Rattle.dbsource.specs.Answers.{IsRangeOf, Step}
use Rattle.dbsource.specs.Sources.{SourceState}
use Rattle.dbsource.specs.declared.memory.NoMemory.{NoMemory}
use Rattle.dblog.specs.Journal.{IsSized, after_gap, after_head, after_record, behind_record, gap, has_magic, in_sector, is_record, next_place, place_after}
use Rattle.dblog.specs.JournalReading.{FindsPlace, ReadsWithin}
use Rattle.dblog.specs.declared.journal_error.JournalError.{JournalError}
use Rattle.dblog.specs.declared.journal_error.JournalError.TheVariants.{OutOfMemory}
use Rattle.dblog.specs.declared.journal.Place.{Place}
use Rattle.dblog.specs.declared.journal.Shape.{Shape}

-- ---- what a read makes of it

moved : {step : Step} (len at m n : ℕ) (r : Result Bool JournalError) (piece : List ℕ) (old new : SourceState) → len ≡ m → at ≡ n
    → ReadsWithin step len at r piece old new → ReadsWithin step m n r piece old new
moved {step = step} len at m n r piece old new l a k =
    subst (λ x. ReadsWithin step x n r piece old new) l (subst (λ y. ReadsWithin step len y r piece old new) a k)

pub found_failed : {step : Step} (s : Shape) (p : Place) (len at : ℕ) (e : JournalError) (piece : List ℕ) (old new : SourceState) → len ≡ s.len → at ≡ p.at
    → ReadsWithin step len at (Err e) piece old new → FindsPlace step s (Err e) old new p p
found_failed s p len at e piece old new l a k =
    let w = moved len at s.len p.at (Err e) piece old new l a k in
    record { seen = w.seen; reads = w.reads; within = w.within; short = w.short; found = tt; unmeasured = w.unmeasured }

pub found_none : {step : Step} (s : Shape) (p : Place) (len at : ℕ) (b : Bool) (piece : List ℕ) (old new : SourceState) → len ≡ s.len → at ≡ p.at
    → ReadsWithin step len at (Ok b) piece old new
    → ((file : List ℕ) → length file ≡ s.len → (nat_le (p.at + length piece) s.len ≡ b)
    → (b ≡ true → piece ≡ take (length piece) (drop p.at file)) → next_place s file p ≡ None)
    → FindsPlace step s (Ok false) old new p p
found_none s p len at b piece old new l a k f =
    let w = moved len at s.len p.at (Ok b) piece old new l a k in
    record {
      seen = w.seen;
      reads = w.reads;
      within = w.within;
      short = w.short;
      found = record {
        next = λ file n r. f file n (sym w.whole.0) (λ t. (subst (IsRangeOf file p.at) (w.whole.1 ∙ ap (λ x. cond x piece []) t) r).1);
        further = λ e. absurd cc;
        moves = λ e. absurd cc;
        eighth = λ e. absurd cc;
      };
      unmeasured = tt;
    }

pub found_seen : {step : Step} (s : Shape) (p q : Place) (len at : ℕ) (b : Bool) (piece : List ℕ) (old new : SourceState) → len ≡ s.len → at ≡ p.at
    → b ≡ true → q.at ≡ p.at + length piece → 0 < length piece → (p.at % 8 ≡ 0 → q.at % 8 ≡ 0)
    → ReadsWithin step len at (Ok b) piece old new
    → ((file : List ℕ) → length file ≡ s.len → (nat_le (p.at + length piece) s.len ≡ true)
    → piece ≡ take (length piece) (drop p.at file) → next_place s file p ≡ Some q)
    → (f : FindsPlace step s (Ok true) old new p q) × (f.seen ≡ piece)
found_seen s p q len at b piece old new l a t z m u k f =
    let w = moved len at s.len p.at (Ok b) piece old new l a k in
    let seen = w.whole.1 ∙ ap (λ x. cond x piece []) t in (
      record {
        seen = w.seen;
        reads = w.reads;
        within = w.within;
        short = w.short;
        found = record {
          next = λ file n r. f file n (sym w.whole.0 ∙ t) (subst (IsRangeOf file p.at) seen r).1;
          further = λ e. z ∙ ap (λ x. p.at + length x) (sym seen);
          moves = λ e. subst (λ x. 0 < length x) (sym seen) m;
          eighth = λ e. u;
        };
        unmeasured = tt;
      },
      seen,
    )

pub found_some : {step : Step} (s : Shape) (p q : Place) (len at : ℕ) (b : Bool) (piece : List ℕ) (old new : SourceState) → len ≡ s.len → at ≡ p.at
    → b ≡ true → q.at ≡ p.at + length piece → 0 < length piece → (p.at % 8 ≡ 0 → q.at % 8 ≡ 0)
    → ReadsWithin step len at (Ok b) piece old new
    → ((file : List ℕ) → length file ≡ s.len → (nat_le (p.at + length piece) s.len ≡ true)
    → piece ≡ take (length piece) (drop p.at file) → next_place s file p ≡ Some q)
    → FindsPlace step s (Ok true) old new p q
found_some s p q len at b piece old new l a t z m u k f = (found_seen s p q len at b piece old new l a t z m u k f).0

-- memory was refused after that
pub found_refused : {step : Step} (s : Shape) (p : Place) (len at : ℕ) (b : Bool) (refused : NoMemory) (piece : List ℕ) (old new : SourceState)
    → len ≡ s.len → at ≡ p.at → ReadsWithin step len at (Ok b) piece old new → FindsPlace step s (Err (OutOfMemory refused)) old new p p
found_refused s p len at b refused piece old new l a k =
    let w = moved len at s.len p.at (Ok b) piece old new l a k in
    record { seen = w.seen; reads = w.reads; within = w.within; short = w.short; found = tt; unmeasured = λ e. absurd cc }

-- a sum of multiples of 8 is one
pub eight_more : (a b c : ℕ) → c ≡ a + b → b % 8 ≡ 0 → a % 8 ≡ 0 → c % 8 ≡ 0
eight_more a b c e x y = omega (arith, e, x, y)

-- ---- which place is the next

at_gap : (s : Shape) (file : List ℕ) (p : Place) → p.left ≡ 0 → 0 < p.at % s.sector → next_place s file p ≡ after_gap s p
at_gap s file p z m = let e : (p.at % s.sector == 0) ≡ false = grind (arith, nat_tests) in rw z (rw e refl)

pub gap_moves : (s : Shape) (at : ℕ) → IsSized s → 0 < at % s.sector → 0 < gap s at
gap_moves s at sized m =
    let l : at % s.sector < s.sector = mod-lt at (omega (arith, sized.sector)) in
    let e : gap s at ≡ s.sector - at % s.sector = mod-eq_of_lt (omega (arith, m, l)) in
    omega (arith, e, l)

-- the next sector begins at a multiple of 8
pub gap_eighth : (s : Shape) (at n : ℕ) → IsSized s → 0 < at % s.sector → n ≡ at + gap s at → n % 8 ≡ 0
gap_eighth s at n sized m z =
    let l : at % s.sector < s.sector = mod-lt at (omega (arith, sized.sector)) in
    let e : gap s at ≡ s.sector - at % s.sector = mod-eq_of_lt (omega (arith, m, l)) in
    let d : at ≡ s.sector * (at / s.sector) + at % s.sector = omega (arith, div-add-mod at s.sector) in
    let k = s.sector / 8 in
    let w : s.sector ≡ 8 * k = omega (arith, sized.sector_by_8) in
    let t : n ≡ s.sector * (at / s.sector) + s.sector = omega (arith, z, e, d, l) in
    let p : s.sector * (at / s.sector) ≡ 8 * (k * (at / s.sector)) = ap (λ x. x * (at / s.sector)) w ∙ omega arith in
    omega (arith, t, p, w)

pub gap_none : (s : Shape) (file : List ℕ) (p : Place) (n : ℕ) → p.left ≡ 0 → 0 < p.at % s.sector → n ≡ gap s p.at
    → nat_le (p.at + n) s.len ≡ false → next_place s file p ≡ None
gap_none s file p n z m e h =
    let h' : nat_le (p.at + gap s p.at) s.len ≡ false = ap (λ x. nat_le (p.at + x) s.len) (sym e) ∙ h in at_gap s file p z m ∙ rw h' refl

pub gap_some : (s : Shape) (file : List ℕ) (p q : Place) (n m : ℕ) → p.left ≡ 0 → 0 < p.at % s.sector → n ≡ gap s p.at → n ≡ m
    → q ≡ (record { at = p.at + m; left = 0; nonce = p.nonce }) → nat_le (p.at + n) s.len ≡ true → next_place s file p ≡ Some q
gap_some s file p q n m z k e w y h =
    let h' : nat_le (p.at + gap s p.at) s.len ≡ true = ap (λ x. nat_le (p.at + x) s.len) (sym e) ∙ h in
    at_gap s file p z k ∙ rw h' (rw (← e) (rw w (rw y refl)))

at_head : (s : Shape) (file : List ℕ) (p : Place) → p.left ≡ 0 → p.at % s.sector ≡ 0 → next_place s file p ≡ after_head s file p.at
at_head s file p z m = let e : (p.at % s.sector == 0) ≡ true = grind (arith, nat_tests) in rw z (rw e refl)

pub head_short : (s : Shape) (file : List ℕ) (p : Place) (n : ℕ) → p.left ≡ 0 → p.at % s.sector ≡ 0 → n ≡ s.sector
    → nat_le (p.at + n) s.len ≡ false → next_place s file p ≡ None
head_short s file p n z m e h =
    let h' : nat_le (p.at + s.sector) s.len ≡ false = ap (λ k. nat_le (p.at + k) s.len) (sym e) ∙ h in at_head s file p z m ∙ rw h' refl

pub head_read : (s : Shape) (file : List ℕ) (p : Place) (h : List ℕ) → p.left ≡ 0 → p.at % s.sector ≡ 0 → length h ≡ s.sector
    → nat_le (p.at + length h) s.len ≡ true → h ≡ take (length h) (drop p.at file) → next_place s file p ≡ in_sector s h p.at
head_read s file p h z m e w t =
    let w' : nat_le (p.at + s.sector) s.len ≡ true = ap (λ k. nat_le (p.at + k) s.len) (sym e) ∙ w in
    at_head s file p z m ∙ rw w' (ap (λ x. in_sector s x p.at) (sym (t ∙ ap (λ n. take n (drop p.at file)) e)))

pub head_other : (s : Shape) (h : List ℕ) (at : ℕ) → has_magic h ≡ false → in_sector s h at ≡ None
head_other s h at e = rw e refl

pub head_is : (s : Shape) (h : List ℕ) (at : ℕ) → has_magic h ≡ true → in_sector s h at ≡ Some (place_after s h at)
head_is s h at e = rw e refl

at_record : (s : Shape) (file : List ℕ) (p : Place) → 0 < p.left → next_place s file p ≡ after_record s file p
at_record s file p l = let e : (p.left == 0) ≡ false = grind (arith, nat_tests) in rw e refl

pub record_short : (s : Shape) (file : List ℕ) (p : Place) (n : ℕ) → 0 < p.left → n ≡ s.page_size + 8
    → nat_le (p.at + n) s.len ≡ false → next_place s file p ≡ None
record_short s file p n l e h =
    let h' : nat_le (p.at + (s.page_size + 8)) s.len ≡ false = ap (λ k. nat_le (p.at + k) s.len) (sym e) ∙ h in at_record s file p l ∙ rw h' refl

pub record_read : (s : Shape) (file : List ℕ) (p : Place) (r : List ℕ) → 0 < p.left → length r ≡ s.page_size + 8
    → nat_le (p.at + length r) s.len ≡ true → r ≡ take (length r) (drop p.at file) → next_place s file p ≡ behind_record s r p
record_read s file p r l e w t =
    let w' : nat_le (p.at + (s.page_size + 8)) s.len ≡ true = ap (λ k. nat_le (p.at + k) s.len) (sym e) ∙ w in
    at_record s file p l ∙ rw w' (ap (λ x. behind_record s x p) (sym (t ∙ ap (λ n. take n (drop p.at file)) e)))

pub record_other : (s : Shape) (r : List ℕ) (p : Place) → is_record s p.nonce r ≡ false → behind_record s r p ≡ None
record_other s r p e = rw e refl

pub record_is : (s : Shape) (r : List ℕ) (p : Place) → is_record s p.nonce r ≡ true
    → behind_record s r p ≡ Some (record { at = p.at + (s.page_size + 8); left = p.left - 1; nonce = p.nonce })
record_is s r p e = rw e refl

-- it is of a page
pub record_some : (s : Shape) (start : ℕ) (r : List ℕ) → is_record s start r ≡ true → 0 < u32_at 0 r
record_some s start r e = by_test (nat_lt 0 (u32_at 0 r)) _ refl e
  where
    by_test : (b c : Bool) → b ≡ nat_lt 0 (u32_at 0 r) → (b && c) ≡ true → 0 < u32_at 0 r
    by_test true c t h = grind (arith, nat_tests)
    by_test false c t h = absurd cc
