-- A table some of whose bits are set.
use Rattle.std.proofs.Common.{◌≡◌, ℕ, zero, suc, ◌+◌, ◌-◌, ◌*◌, ◌/◌, ◌%◌, ◌^◌, ◌<◌, ◌≤◌, min, max, ◌⊎◌, inl, inr, Bool, true, false, not, List, ◌++◌, length}
use Rattle.std.proofs.Common.{length-append, length-drop, take, drop, get_or, w64, sym, ap, ◌∙◌, arith}
use Rattle.std.specs.Prelude.{◌==◌, MatchBool}
use Rattle.std.specs.Int.{bit_at, trailing_zeros}
use Rattle.std.specs.Int.Bits.{bit_and, bit_or}
use Rattle.std.specs.List.{between}
use borrow.Rule.Slice.PartMut.{put_mid}
use Rattle.std.proofs.lemmas.Bool.{cases_lt}
use Rattle.std.proofs.lemmas.Bool.Decides.{nat_tests}
use Rattle.std.proofs.lemmas.Nat.{and_le_l}
use Rattle.std.proofs.lemmas.Nat.Bits.{bit_at-zero, bit_at_and, bit_at_or, bit_at_cat_low, bit_at_cat_high, bit_at-trailing_zeros, bit_at_mask_inside}
use Rattle.std.proofs.lemmas.Nat.Bits.{bit_at_mask_below, bit_at_mask_above}
use Rattle.std.proofs.lemmas.List.{length-take-le, get_or_append_left, get_or-append_right, get_or-take, get_or-drop, get_or_past}
use Rattle.std.proofs.lemmas.List.Edits.{length-between, get_or-between}
use Rattle.byteorder.specs.Endian.{little_from, little_number, little_bytes}
use Rattle.byteorder.specs.Numbers.{little_number-reads_back, length-bytes_low_first}
use Rattle.std.specs.Int.{byte_at, bytes_low_first}
use Rattle.dbpage.specs.Marking.{mark_bit, is_within, Marks, HasMarked}

-- the bits of a number are those of its bytes
pub bit_at-little : (i n : ℕ) (xs : List ℕ) → ((j : ℕ) → get_or xs j 0 < 256) → (k t : ℕ) → k < n → t < 8
    → bit_at (little_from i n xs) (8 * k + t) ≡ bit_at (get_or xs (i + k) 0) t
bit_at-little i zero xs small k t within in_byte = absurd (omega arith)
bit_at-little i (suc n) xs small zero t within in_byte =
    let x : ℕ = get_or xs i 0 in
    let rest : ℕ = little_from (suc i) n xs in
    let whole : x + 256 * rest ≡ rest * 256 + x = omega arith in
    let place : 8 * 0 + t ≡ t = omega arith in
    let same : i ≡ i + 0 = omega arith in
    ap (λ (m : ℕ). bit_at m (8 * 0 + t)) whole ∙ ap (bit_at (rest * 256 + x)) place ∙ bit_at_cat_low rest 8 x t in_byte
    ∙ ap (λ (j : ℕ). bit_at (get_or xs j 0) t) same
bit_at-little i (suc n) xs small (suc k) t within in_byte =
    let x : ℕ = get_or xs i 0 in
    let rest : ℕ = little_from (suc i) n xs in
    let whole : x + 256 * rest ≡ rest * 256 + x = omega arith in
    let place : 8 * suc k + t - 8 ≡ 8 * k + t = omega arith in
    let same : suc i + k ≡ i + suc k = omega arith in
    ap (λ (m : ℕ). bit_at m (8 * suc k + t)) whole ∙ bit_at_cat_high rest 8 x (8 * suc k + t) (small i) (omega arith) ∙ ap (bit_at rest) place
    ∙ bit_at-little (suc i) n xs small k t (omega arith) in_byte ∙ ap (λ (j : ℕ). bit_at (get_or xs j 0) t) same

pub unset_is : (n : ℕ) → n ≡ 0 → not (n == 0) ≡ false
unset_is n h = grind (arith, nat_tests)

pub set_is : (n : ℕ) → 0 < n → not (n == 0) ≡ true
set_is n h = grind (arith, nat_tests)

pub outside : (from to byte : ℕ) → (byte < from) ⊎ (to ≤ byte) → is_within from to byte ≡ false
outside from to byte h = grind (arith, nat_tests)

-- a byte that is not within a range is below or above it
pub other_side : (from to byte : ℕ) → is_within from to byte ≡ false → (byte < from) ⊎ (to ≤ byte)
other_side from to byte h =
    elim (cases_lt byte from) [
      | inl below ↦ inl below
      | inr on ↦ elim (cases_lt byte to) [ inl within ↦ absurd (not_both on within h) | inr above ↦ inr above ]
    ]
  where
    not_both : from ≤ byte → byte < to → is_within from to byte ≡ false → ⊥
    not_both on within h = grind (arith, nat_tests)

-- a range is marked in two parts
module _ (old mid : List ℕ) (from at to : ℕ) (start : from ≤ at) (more : at ≤ to) (first : Marks old from at mid) where
  pub Marks_more : (new : List ℕ) → Marks mid at to new → Marks old from to new
  Marks_more new second = record {
    were_free = λ byte low high. elim (cases_lt byte at) [
      | inl below ↦ first.were_free byte low below
      | inr on ↦ sym (first.others byte (outside from at byte (inr on))) ∙ second.were_free byte on high
    ];
    are_marked = λ byte low high. elim (cases_lt byte at) [
      | inl below ↦ second.others byte (outside at to byte (inl below)) ∙ first.are_marked byte low below
      | inr on ↦ second.are_marked byte on high
    ];
    others = λ byte h. elim (other_side from to byte h) [
      | inl below ↦ second.others byte (outside at to byte (inl (omega arith))) ∙ first.others byte (outside from at byte (inl below))
      | inr above ↦ second.others byte (outside at to byte (inr above)) ∙ first.others byte (outside from at byte (inr (omega arith)))
    ];
  }

  -- a marked byte of the second part, or of its beginning, is one of the range
  pub HasMarked_more : (end : ℕ) → end ≤ to → HasMarked mid at end → HasMarked old from to
  HasMarked_more end within has = record {
    byte = has.byte;
    from_on = omega (arith, has.from_on);
    below = omega (arith, has.below);
    marked = sym (first.others has.byte (outside from at has.byte (inr has.from_on))) ∙ has.marked;
  }

  pub either_more : (b : Bool) (new : List ℕ) → MatchBool b (Marks mid at to new) (HasMarked mid at to)
      → MatchBool b (Marks old from to new) (HasMarked old from to)
  either_more true new h = Marks_more new h
  either_more false new h = HasMarked_more to (omega arith) h

-- the table after a part of it is changed
module _ (table part : List ℕ) (from len : ℕ) (fits : from + len ≤ length table) (whole : length part ≡ len) where
  at_below : (byte : ℕ) → byte < from → get_or (put_mid from len table part) byte 0 ≡ get_or table byte 0
  at_below byte h =
      get_or_append_left (take from table) (part ++ drop len (drop from table)) 0 byte (omega (arith, length-take-le from table (omega arith)))
      ∙ get_or-take from table byte 0 h

  past_front : (byte : ℕ) → from ≤ byte → get_or (put_mid from len table part) byte 0 ≡ get_or (part ++ drop len (drop from table)) (byte - from) 0
  past_front byte h = get_or-append_right (take from table) (part ++ drop len (drop from table)) from byte 0 (length-take-le from table (omega arith)) h

  pub at_inside : (byte : ℕ) → from ≤ byte → byte < from + len → get_or (put_mid from len table part) byte 0 ≡ get_or part (byte - from) 0
  at_inside byte low high = past_front byte low ∙ get_or_append_left part (drop len (drop from table)) 0 (byte - from) (omega arith)

  at_above : (byte : ℕ) → from + len ≤ byte → get_or (put_mid from len table part) byte 0 ≡ get_or table byte 0
  at_above byte h =
      past_front byte (omega arith)
      ∙ get_or-append_right part (drop len (drop from table)) len (byte - from) 0 whole (omega arith)
      ∙ get_or-drop len (drop from table) (byte - from - len) 0
      ∙ get_or-drop from table (len + (byte - from - len)) 0
      ∙ ap (λ (b : ℕ). get_or table b 0) (omega arith)

-- the bytes of a number are bytes
byte_below : (i x : ℕ) → byte_at i x < 256
byte_below zero x = omega arith
byte_below (suc i) x = omega arith

small_bytes : (i k x j : ℕ) → get_or (bytes_low_first i k x) j 0 < 256
small_bytes i zero x j = omega arith
small_bytes i (suc k) x zero = byte_below i x
small_bytes i (suc k) x (suc j) = small_bytes (suc i) k x j

-- eight bytes of a table, from one of them on, as a number
module _ (table : List ℕ) (start : ℕ) (room : start + 8 ≤ length table) where
  abbrev eight : List ℕ
  eight = between start (start + 8) table

  eight_small : ((j : ℕ) → get_or table j 0 < 256) → (j : ℕ) → get_or eight j 0 < 256
  eight_small small j =
      elim (cases_lt j 8) [
        | inl inside ↦ omega (arith, get_or-between table start (start + 8) j 0 (omega arith), small (start + j))
        | inr past ↦ omega (arith, get_or_past eight j 0 (omega (arith, length-between table start (start + 8) room)))
      ]

  -- a bit of the number is a mark
  pub bit_is_mark : ((j : ℕ) → get_or table j 0 < 256) → (byte : ℕ) → 8 * start ≤ byte → byte < 8 * start + 64
      → bit_at (little_number 8 eight) (byte - 8 * start) ≡ mark_bit table byte
  bit_is_mark small byte low high =
      let k : ℕ = byte / 8 - start in
      let t : ℕ = byte % 8 in
      let place : byte - 8 * start ≡ 8 * k + t = omega arith in
      let same : start + (0 + k) ≡ byte / 8 = omega arith in
      ap (bit_at (little_number 8 eight)) place
      ∙ bit_at-little 0 8 eight (eight_small small) k t (omega arith) (omega arith)
      ∙ ap (λ (x : ℕ). bit_at x t) (get_or-between table start (start + 8) (0 + k) 0 (omega arith) ∙ ap (λ (j : ℕ). get_or table j 0) same)

  -- the table after another number is written there
  module _ (x : ℕ) (fits : x < 18446744073709551616) (part : List ℕ) (written : part ≡ little_bytes 8 x ++ drop 8 eight) where
    abbrev new : List ℕ
    new = put_mid start 8 table part

    length_part : length part ≡ 8
    length_part = omega (
      arith,
      ap length written,
      length-append (little_bytes 8 x) (drop 8 eight),
      length-bytes_low_first 0 8 x,
      length-drop 8 eight,
      length-between table start (start + 8) room,
    )

    part_small : (j : ℕ) → get_or part j 0 < 256
    part_small j =
        elim (cases_lt j 8) [
          | inl inside ↦
              let here = ap (λ (xs : List ℕ). get_or xs j 0) written
              ∙ get_or_append_left (little_bytes 8 x) (drop 8 eight) 0 j (omega (arith, length-bytes_low_first 0 8 x)) in
              omega (arith, here, small_bytes 0 8 x j)
          | inr past ↦ omega (arith, get_or_past part j 0 (omega (arith, length_part)))
        ]

    pub new_bit : (byte : ℕ) → 8 * start ≤ byte → byte < 8 * start + 64 → mark_bit new byte ≡ bit_at x (byte - 8 * start)
    new_bit byte low high =
        let k : ℕ = byte / 8 - start in
        let t : ℕ = byte % 8 in
        let place : byte - 8 * start ≡ 8 * k + t = omega arith in
        let same : byte / 8 - start ≡ 0 + k = omega arith in
        let back : little_number 8 part ≡ x = ap (little_number 8) written ∙ little_number-reads_back 8 x (drop 8 eight) fits in
        ap (λ (b : ℕ). bit_at b t) (at_inside table part start 8 room length_part (byte / 8) (omega arith) (omega arith) ∙ ap (λ (j : ℕ). get_or part j 0) same)
        ∙ sym (bit_at-little 0 8 part part_small k t (omega arith) (omega arith))
        ∙ ap (λ (n : ℕ). bit_at n (8 * k + t)) back ∙ ap (bit_at x) (sym place)

    pub same_bit : (byte : ℕ) → (byte < 8 * start) ⊎ (8 * start + 64 ≤ byte) → mark_bit new byte ≡ mark_bit table byte
    same_bit byte h =
        ap (λ (b : ℕ). bit_at b (byte % 8)) (elim h [
          | inl below ↦ at_below table part start 8 room length_part (byte / 8) (omega arith)
          | inr above ↦ at_above table part start 8 room length_part (byte / 8) (omega arith)
        ])

-- `len` bits from that of a byte on, beside a number whose bits are marks
module _ (table : List ℕ) (from len : ℕ) (few : from % 8 + len ≤ 64) (bits : ℕ) (bits_is : bits ≡ 2 ^ (from % 8 + len) - 2 ^ (from % 8)) (old : ℕ)
    (old_bit : (byte : ℕ) → 8 * (from / 8) ≤ byte → byte < 8 * (from / 8) + 64 → bit_at old (byte - 8 * (from / 8)) ≡ mark_bit table byte) where
  in_bits : (i : ℕ) → from % 8 ≤ i → i < from % 8 + len → bit_at bits i ≡ 1
  in_bits i low high = ap (λ (n : ℕ). bit_at n i) bits_is ∙ bit_at_mask_inside (from % 8) (from % 8 + len) i low high

  out_of_bits : (i : ℕ) → (i < from % 8) ⊎ (from % 8 + len ≤ i) → bit_at bits i ≡ 0
  out_of_bits i h = ap (λ (n : ℕ). bit_at n i) bits_is ∙ elim h [
    | inl below ↦ bit_at_mask_below (from % 8) (from % 8 + len) i below
    | inr above ↦ bit_at_mask_above (from % 8) (from % 8 + len) i above
  ]

  -- where they have no bit in common, none of the bytes is marked
  free_of_none_common : bit_and old bits ≡ 0 → (byte : ℕ) → from ≤ byte → byte < from + len → mark_bit table byte ≡ 0
  free_of_none_common none byte low high =
      let i : ℕ = byte - 8 * (from / 8) in
      let both : min (bit_at old i) (bit_at bits i) ≡ 0 = sym (bit_at_and old bits i) ∙ ap (λ (n : ℕ). bit_at n i) none ∙ bit_at-zero i in
      omega (arith, both, in_bits i (omega arith) (omega arith), old_bit byte (omega arith) (omega arith))

  -- and else one is
  pub marked_of_common : 0 < bit_and old bits → old < 18446744073709551616 → HasMarked table from (from + len)
  marked_of_common some fits =
      let i : ℕ = trailing_zeros w64 (bit_and old bits) in
      let lowest = bit_at-trailing_zeros w64 (bit_and old bits) some (omega (arith, and_le_l old bits)) in
      let both : min (bit_at old i) (bit_at bits i) ≡ 1 = sym (bit_at_and old bits i) ∙ lowest.1 in
      let low : from % 8 ≤ i = elim (cases_lt i (from % 8)) [ inl below ↦ absurd (omega (arith, both, out_of_bits i (inl below))) | inr on ↦ on ] in
      let high : i < from % 8 + len = elim (cases_lt i (from % 8 + len))
      [ inl inside ↦ inside | inr above ↦ absurd (omega (arith, both, out_of_bits i (inr above))) ] in
      let byte : ℕ = 8 * (from / 8) + i in
      let place : byte - 8 * (from / 8) ≡ i = omega arith in
      let one : bit_at old i ≡ mark_bit table byte = ap (bit_at old) (sym place) ∙ old_bit byte (omega arith) (omega (arith, lowest.0)) in
      record { byte = byte; from_on = omega arith; below = omega arith; marked = set_is (mark_bit table byte) (omega (arith, one, both)) }

  -- the table where they are set beside the others
  module _ (new : List ℕ)
      (inside : (byte : ℕ) → 8 * (from / 8) ≤ byte → byte < 8 * (from / 8) + 64 → mark_bit new byte ≡ bit_at (bit_or old bits) (byte - 8 * (from / 8)))
      (outside : (byte : ℕ) → (byte < 8 * (from / 8)) ⊎ (8 * (from / 8) + 64 ≤ byte) → mark_bit new byte ≡ mark_bit table byte) where
    bit_of : (byte : ℕ) → 8 * (from / 8) ≤ byte → byte < 8 * (from / 8) + 64
        → mark_bit new byte ≡ max (bit_at old (byte - 8 * (from / 8))) (bit_at bits (byte - 8 * (from / 8)))
    bit_of byte low high = inside byte low high ∙ bit_at_or old bits (byte - 8 * (from / 8))

    other : (byte : ℕ) → (byte < from) ⊎ (from + len ≤ byte) → mark_bit new byte ≡ mark_bit table byte
    other byte h =
        elim (cases_lt byte (8 * (from / 8))) [
          | inl below ↦ outside byte (inl below)
          | inr on ↦ elim (cases_lt byte (8 * (from / 8) + 64)) [
            | inr above ↦ outside byte (inr above)
            | inl within ↦
                let i : ℕ = byte - 8 * (from / 8) in
                let unset : bit_at bits i ≡ 0 = out_of_bits i (elim h [ inl below ↦ inl (omega arith) | inr above ↦ inr (omega arith) ]) in
                omega (arith, bit_of byte on within, unset, old_bit byte on within)
          ]
        ]

    pub Marks-set : bit_and old bits ≡ 0 → Marks table from (from + len) new
    Marks-set none = record {
      were_free = λ byte low high. unset_is (mark_bit table byte) (free_of_none_common none byte low high);
      are_marked = λ byte low high. set_is (mark_bit new byte)
          (omega (arith, bit_of byte (omega arith) (omega arith), in_bits (byte - 8 * (from / 8)) (omega arith) (omega arith)));
      others = λ byte h. ap (λ (b : ℕ). not (b == 0)) (other byte (other_side from (from + len) byte h));
    }
