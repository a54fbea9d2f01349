-- A number in hexadecimal, digit by digit from its end.
use Rattle.dbreport.proofs.Common.{◌≡◌, ℕ, zero, suc, ◌+◌, ◌-◌, ◌*◌, ◌/◌, ◌%◌, ◌^◌, ◌<◌, ◌≤◌, true, false, List, ◌∷◌, ◌++◌, length, length-drop, min, take}
use Rattle.dbreport.proofs.Common.{drop, eqb, refl, sym, ap, ◌∙◌, arith, replicate, slice_set, nat_tests, hex_text}
use Rattle.std.specs.Fmt.{digits, digits_onto, digit_glyph}
use Rattle.std.proofs.Math.Nat.{pow-suc}
use Rattle.std.proofs.lemmas.List.{drop_all, length-set, length-replicate, take-append-drop, take-replicate, take-set, take-take, drop-replicate, drop-set}
use Rattle.dbbytes.proofs.ListLemmas.{drop-append}

-- one digit more
hex_step : (fuel k rest : ℕ) (acc : List ℕ) → fuel ≡ suc k → 16 ≤ rest
    → digits_onto fuel 16 false rest acc ≡ digits_onto k 16 false (rest / 16) (digit_glyph false (rest % 16) ∷ acc)
hex_step fuel k rest acc e h = let some : eqb (rest / 16) 0 ≡ false = grind (arith, nat_tests) in rw (e, some) refl

-- the last one
hex_last : (fuel k rest : ℕ) (acc : List ℕ) → fuel ≡ suc k → rest < 16 → digits_onto fuel 16 false rest acc ≡ digit_glyph false rest ∷ acc
hex_last fuel k rest acc e h =
    let none : eqb (rest / 16) 0 ≡ true = grind (arith, nat_tests) in
    let same : rest % 16 ≡ rest = omega arith in
    rw (e, none, same) refl

-- where there is one digit more, there is a place for it
hex_room : (places rest : ℕ) → 16 ≤ rest → rest < 16 ^ places → (2 ≤ places) × (rest / 16 < 16 ^ (places - 1))
hex_room zero rest h k = absurd (omega arith)
hex_room (suc zero) rest h k = absurd (omega arith)
hex_room (suc (suc places)) rest h k =
    let e : suc (suc places) - 1 ≡ suc places = omega arith in
    let all : rest < 16 ^ suc places * 16 = rw pow-suc at k in
    (omega arith, rw e (omega arith))

-- The contents of a text of eight digits after some were written, and the free places before them.
pub record HasDigits (number rest at : ℕ) (old text : List ℕ) : Type 0 where
  pub within : at < 8
  pub len : length text ≡ 8
  pub room : rest < 16 ^ (at + 1)
  pub written : digits_onto (at + 57) 16 false rest (drop (at + 1) text) ≡ digits 16 false number
  pub before : take (at + 1) text ≡ take (at + 1) old

kept : (old text : List ℕ) (at v : ℕ) → take (at + 1) text ≡ take (at + 1) old → take at (slice_set text at v) ≡ take at old
kept old text at v e =
    let less : at ≤ at + 1 = omega arith in
    take-set text at v ∙ sym (take-take at (at + 1) text less) ∙ ap (take at) e ∙ take-take at (at + 1) old less

-- at the start
pub digits_start : (number : ℕ) (old : List ℕ) → number < 2 ^ 32 → length old ≡ 8 → HasDigits number number 7 old old
unfolding digits
digits_start number old h e = record {
  within = omega arith;
  len = e;
  room = h;
  written = rw (drop_all 8 old (omega arith)) refl;
  before = refl;
}

-- and by one digit more
pub digits_more : (number rest at : ℕ) (old text : List ℕ) → HasDigits number rest at old text → 16 ≤ rest
    → HasDigits number (rest / 16) (at - 1) old (slice_set text at (digit_glyph false (rest % 16)))
digits_more number rest at old text k h =
    let more = hex_room (at + 1) rest h k.room in
    let two : 2 ≤ at + 1 = more.0 in
    let here : at - 1 + 1 ≡ at = omega arith in
    let last : at + 1 - 1 ≡ at = omega arith in
    let glyph = digit_glyph false (rest % 16) in
    let within : at < length text = omega (arith, k.within, k.len) in
    record {
      within = omega (arith, k.within);
      len = length-set text at glyph ∙ k.len;
      room = rw here (rw last at more.1);
      written = rw (here, drop-set text at glyph within)
          (sym (hex_step (at + 57) (at - 1 + 57) rest (drop (at + 1) text) (omega arith) h) ∙ k.written);
      before = rw here (kept old text at glyph k.before);
    }

-- where the last digit is written
pub digits_written : (number rest at : ℕ) (old text : List ℕ) → HasDigits number rest at old text → rest < 16
    → drop at (slice_set text at (digit_glyph false rest)) ≡ digits 16 false number
digits_written number rest at old text k h =
    let within : at < length text = omega (arith, k.within, k.len) in
    drop-set text at (digit_glyph false rest) within
    ∙ sym (hex_last (at + 57) (at + 56) rest (drop (at + 1) text) (omega arith) h) ∙ k.written

pub digits_before : (number rest at v : ℕ) (old text : List ℕ) → HasDigits number rest at old text
    → take at (slice_set text at v) ≡ take at old
digits_before number rest at v old text k = kept old text at v k.before

-- the digits of a text of eight, from where there are zeros enough
pub hex_cut : (width number start : ℕ) (text : List ℕ) → width ≤ 8 → start < 8 → length text ≡ 8
    → take start text ≡ take start (replicate 8 48) → drop start text ≡ digits 16 false number
    → drop (min start (8 - width)) text ≡ hex_text width number
hex_cut width number start text h k len before written =
    let zeros : take start text ≡ replicate start 48 = before ∙ take-replicate start 8 48 (omega arith) in
    let whole : text ≡ replicate start 48 ++ digits 16 false number =
    sym (take-append-drop start text) ∙ ap (λ w. w ++ drop start text) zeros ∙ ap (λ w. replicate start 48 ++ w) written in
    let long : length (digits 16 false number) ≡ 8 - start = ap length (sym written) ∙ length-drop start text ∙ ap (λ n. n - start) len in
    let front : List ℕ = replicate start 48 in
    let cut : ℕ = min start (8 - width) in
    let size : length front ≡ start = length-replicate start 48 in
    let none : min start (8 - width) - length front ≡ 0 = omega (arith, size) in
    let more : start - min start (8 - width) ≡ width - length (digits 16 false number) = omega (arith, long) in
    ap (drop cut) whole ∙ drop-append cut front (digits 16 false number)
    ∙ rw (none, drop-replicate {X = ℕ} cut start 48, more) refl
