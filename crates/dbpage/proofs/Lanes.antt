-- 32 bytes of a table at once.
use Rattle.std.proofs.Common.{◌≡◌, ℕ, suc, ◌+◌, ◌-◌, ◌*◌, ◌/◌, ◌%◌, ◌<◌, ◌≤◌, ◌⊎◌, inl, inr, Bool, true, false, not, List, [], ◌∷◌, length, map, get_or}
use Rattle.std.proofs.Common.{replicate, w8, refl, sym, ap, ◌∙◌, arith}
use Rattle.std.specs.Prelude.{◌==◌, MatchBool, nat_eq}
use Rattle.std.specs.Int.{bit_at, trailing_zeros}
use Rattle.std.proofs.lemmas.Bool.Decides.{nat_tests}
use Rattle.std.proofs.lemmas.Nat.Bits.{bit_at-zero, bit_at-trailing_zeros, bit_at_mask_inside}
use Rattle.std.proofs.lemmas.Simd.{get_or-put_chunk_below, get_or-put_chunk_at, get_or-put_chunk_above, get_or-replicate, length-chunk, get_or-chunk}
use Rattle.std.proofs.lemmas.Simd.{none_from_empty_mask}
use lib.Lanes.{chunk, mask_l, put_chunk}
use Rattle.dbpage.specs.Marking.{HasOther, HasMarked, Marks, mark_bit}
use Rattle.dbpage.proofs.Tables.{set_is, unset_is, other_side}

-- whether a lane differs from a byte
abbrev pub differs : ℕ → ℕ → Bool
differs one x = not (nat_eq x one)

same_lane : (one x : ℕ) → differs one x ≡ false → x ≡ one
same_lane one x h = grind (arith, nat_tests)

other_lane : (one x : ℕ) → differs one x ≡ true → (x == one) ≡ false
other_lane one x h = grind (arith, nat_tests)

some_bits : (m : ℕ) → differs 0 m ≡ true → 0 < m
some_bits m h = grind (arith, nat_tests)

-- a lane of a mask that is not empty
some_lane : (one : ℕ) (xs : List ℕ) → 0 < mask_l (map (differs one) xs) → (i : ℕ) × (i < length xs) × ((get_or xs i 0 == one) ≡ false)
some_lane one [] h = absurd (omega arith)
some_lane one (x ∷ xs) h = by_case (differs one x) refl (λ some. some_lane one xs some)
  where
    by_case : (b : Bool) → differs one x ≡ b → (0 < mask_l (map (differs one) xs) → (i : ℕ) × (i < length xs) × ((get_or xs i 0 == one) ≡ false))
        → (i : ℕ) × (i < length (x ∷ xs)) × ((get_or (x ∷ xs) i 0 == one) ≡ false)
    by_case true e rest = (0, omega arith, other_lane one x e)
    by_case false e rest =
        let next = rest (omega (arith, rw e at h)) in
        (suc next.0, omega (arith, next.1), next.2)

pub other_or_none : (table : List ℕ) (one start m : ℕ) → start + 32 ≤ length table → ((j : ℕ) → get_or table j 0 < 256) → m
    ≡ mask_l (map (differs one) (chunk start 32 table))
    → MatchBool (not (nat_eq m 0)) (HasOther table one start (start + 32)) ((k : ℕ) → start ≤ k → k < start + 32 → get_or table k 0 ≡ one)
other_or_none table one start m room small is = by_case (not (nat_eq m 0)) refl
  where
    by_case : (b : Bool) → differs 0 m ≡ b → MatchBool b (HasOther table one start (start + 32)) ((k : ℕ) → start ≤ k → k < start + 32 → get_or table k 0 ≡ one)
    by_case true e =
        let lane = some_lane one (chunk start 32 table) (omega (arith, is, some_bits m e)) in
        let long = length-chunk start 32 table room in
        record {
          place = start + lane.0;
          from_on = omega arith;
          below = omega (arith, lane.1, long);
          other = ap (λ x. x == one) (sym (get_or-chunk start 32 table lane.0 0 (omega (arith, lane.1, long)))) ∙ lane.2;
          fits = small (start + lane.0);
        }
    by_case false e = λ k low high. same_lane one (get_or table k 0)
        (none_from_empty_mask (differs one) table start 32 0 room (sym is ∙ same_lane 0 m e) k low high)

-- the marks of whole bytes
module _ (table : List ℕ) (from : ℕ) (room : from + 256 ≤ length table) (whole : from % 8 ≡ 0) where
  pub marked_of_byte : HasOther table 0 (from / 8) (from / 8 + 32) → HasMarked table from (from + 256)
  marked_of_byte has =
      let x : ℕ = get_or table has.place 0 in
      let t : ℕ = trailing_zeros w8 x in
      let some : 0 < x = grind (arith, nat_tests, has.other) in
      let lowest = bit_at-trailing_zeros w8 x some has.fits in
      let byte : ℕ = 8 * has.place + t in
      let at : byte / 8 ≡ has.place = omega (arith, lowest.0) in
      let bit : byte % 8 ≡ t = omega (arith, lowest.0) in
      let one : mark_bit table byte ≡ 1 = ap (λ (k : ℕ). bit_at (get_or table k 0) (byte % 8)) at ∙ ap (bit_at x) bit ∙ lowest.1 in
      record {
        byte = byte;
        from_on = omega (arith, has.from_on);
        below = omega (arith, has.below, lowest.0);
        marked =
            set_is (mark_bit table byte) (omega (arith, one));
      }

  abbrev full : List ℕ
  full = replicate 32 255

  pub all_set : ((k : ℕ) → from / 8 ≤ k → k < from / 8 + 32 → get_or table k 0 ≡ 0) → Marks table from (from + 256) (put_chunk (from / 8) table full)
  all_set none = record {
    were_free = λ byte low high. unset_is (mark_bit table byte)
        (ap (λ (x : ℕ). bit_at x (byte % 8)) (none (byte / 8) (omega arith) (omega arith)) ∙ bit_at-zero (byte % 8));
    are_marked = λ byte low high. set_is (mark_bit (put_chunk (from / 8) table full) byte) (omega (arith, now byte low high));
    others = λ byte h. ap (λ (x : ℕ). not (bit_at x (byte % 8) == 0)) (other byte (other_side from (from + 256) byte h));
  }
    where
      now : (byte : ℕ) → from ≤ byte → byte < from + 256 → mark_bit (put_chunk (from / 8) table full) byte ≡ 1
      now byte low high =
          let j : ℕ = byte / 8 - from / 8 in
          let inside : j < 32 = omega arith in
          let place : byte / 8 ≡ from / 8 + j = omega arith in
          ap (λ (k : ℕ). bit_at (get_or (put_chunk (from / 8) table full) k 0) (byte % 8)) place
          ∙ ap (λ (x : ℕ). bit_at x (byte % 8)) (get_or-put_chunk_at (from / 8) table full j 0 inside (omega arith) ∙ get_or-replicate 32 j 255 0 inside)
          ∙ bit_at_mask_inside 0 8 (byte % 8) (omega arith) (omega arith)

      other : (byte : ℕ) → (byte < from) ⊎ (from + 256 ≤ byte) → get_or (put_chunk (from / 8) table full) (byte / 8) 0 ≡ get_or table (byte / 8) 0
      other byte h = elim h [
        | inl below ↦ get_or-put_chunk_below (from / 8) table full (byte / 8) 0 (omega arith)
        | inr above ↦ get_or-put_chunk_above (from / 8) table full (byte / 8) 0 (omega arith)
      ]
