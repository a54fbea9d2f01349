-- UTF-16, unit by unit.
use Rattle.std.proofs.Common.{◌≡◌, ℕ, ◌+◌, ◌%◌, ◌<◌, ◌≤◌, Bool, true, false, not, ◌&&◌, List, [], ◌∷◌, length, drop, get_or, Some, None, Result, Ok, Err}
use Rattle.std.proofs.Common.{MatchResult, is_ok, eqb, ltb, leb, refl, sym, ap, ◌∙◌, ◌⊎◌, inl, inr, arith}
use Rattle.std.specs.Char.Utf16.{utf16_chars, utf16_lossy_chars, lone_unit_char, is_high_surrogate, is_low_surrogate, surrogate_pair_char}
use Rattle.std.specs.Char.Utf16.{has_unpaired_surrogate}
use Rattle.std.specs.Str.{IsUtf8, is_utf8}
use Rattle.std.proofs.lemmas.Str.{IsUtf8-from_is_utf8, is_utf8-from_IsUtf8}
use Rattle.std.proofs.lemmas.Bool.Decides.{nat_tests}
use Rattle.std.proofs.lemmas.List.{drop-drop, length-drop}
use Rattle.dbbytes.specs.Units.{BeginsUnpaired, BeginsWith, text_of, unit_of, units}
use Rattle.dbbytes.specs.declared.text.Order.{Order}
use Rattle.dbbytes.specs.declared.text.Order.TheVariants.{LowFirst, HighFirst}

-- the first unit
units_first : (order : Order) (bytes : List ℕ) → 2 ≤ length bytes
    → units order bytes ≡ unit_of order (get_or bytes 0 0) (get_or bytes 1 0) ∷ units order (drop 2 bytes)
units_first order [] h = absurd (omega arith)
units_first order (a ∷ []) h = absurd (omega arith)
units_first LowFirst (a ∷ b ∷ bytes) h = refl
units_first HighFirst (a ∷ b ∷ bytes) h = refl

-- no unit is left
units_short : (order : Order) (bytes : List ℕ) → length bytes < 2 → units order bytes ≡ []
units_short LowFirst [] h = refl
units_short HighFirst [] h = refl
units_short LowFirst (a ∷ []) h = refl
units_short HighFirst (a ∷ []) h = refl
units_short order (a ∷ b ∷ bytes) h = absurd (omega arith)

abbrev paired : ℕ → ℕ → Bool
paired u v = is_high_surrogate u && is_low_surrogate v

chars_lone : (u : ℕ) (us : List ℕ) → paired u (get_or us 0 0) ≡ false → utf16_chars (u ∷ us) ≡ lone_unit_char u ∷ utf16_chars us
unfolding utf16_chars
chars_lone u [] e = refl
chars_lone u (v ∷ us) e = rw e refl

chars_pair : (u v : ℕ) (us : List ℕ) → paired u v ≡ true → utf16_chars (u ∷ v ∷ us) ≡ Some (surrogate_pair_char u v) ∷ utf16_chars us
unfolding utf16_chars
chars_pair u v us e = rw e refl

not_first : (u v : ℕ) → (u < 0xD800) ⊎ (0xDC00 ≤ u) → paired u v ≡ false
not_first u v h = grind (arith, nat_tests)

not_second : (u v : ℕ) → (v < 0xDC00) ⊎ (0xE000 ≤ v) → paired u v ≡ false
not_second u v h = grind (arith, nat_tests)

both : (u v : ℕ) → 0xD800 ≤ u → u < 0xDC00 → 0xDC00 ≤ v → v < 0xE000 → paired u v ≡ true
both u v a b c d = grind (arith, nat_tests)

no_surrogate : (u : ℕ) → (u < 0xD800) ⊎ (0xE000 ≤ u) → lone_unit_char u ≡ Some u
no_surrogate u h = let no : (leb 0xD800 u && ltb u 0xE000) ≡ false = grind (arith, nat_tests) in rw no refl

surrogate : (u : ℕ) → 0xD800 ≤ u → u < 0xE000 → lone_unit_char u ≡ None
surrogate u a b = let yes : (leb 0xD800 u && ltb u 0xE000) ≡ true = grind (arith, nat_tests) in rw yes refl

abbrev unit_at : Order → List ℕ → ℕ
unit_at order bytes = unit_of order (get_or bytes 0 0) (get_or bytes 1 0)

pub begins_plain : (order : Order) (bytes : List ℕ) (c : ℕ) → 2 ≤ length bytes → c ≡ unit_at order bytes
    → (c < 0xD800) ⊎ (0xE000 ≤ c) → BeginsWith order bytes c 2
begins_plain order bytes c h e plain = record {
  begins = rw (units_first order bytes h, ← e) (chars_lone c (units order (drop 2 bytes))
      (not_first c (get_or (units order (drop 2 bytes)) 0 0) (elim plain [ inl a ↦ inl a | inr a ↦ inr (omega arith) ]))
      ∙ ap (λ w. w ∷ utf16_chars (units order (drop 2 bytes))) (no_surrogate c plain));
  some = omega arith;
  even = refl;
  within = h;
}

pub begins_low : (order : Order) (bytes : List ℕ) (u : ℕ) → 2 ≤ length bytes → u ≡ unit_at order bytes
    → 0xDC00 ≤ u → u < 0xE000 → BeginsUnpaired order bytes
begins_low order bytes u h e low high = record {
  begins = rw (units_first order bytes h, ← e) (chars_lone u (units order (drop 2 bytes)) (not_first u (get_or (units order (drop 2 bytes)) 0 0) (inr low))
      ∙ ap (λ w. w ∷ utf16_chars (units order (drop 2 bytes))) (surrogate u (omega arith) high));
}

alone : (order : Order) (bytes : List ℕ) (u : ℕ) → 2 ≤ length bytes → u ≡ unit_at order bytes → 0xD800 ≤ u → u < 0xE000
    → (v : ℕ) → get_or (units order (drop 2 bytes)) 0 0 ≡ v → (v < 0xDC00) ⊎ (0xE000 ≤ v) → BeginsUnpaired order bytes
alone order bytes u h e low high v f other = record {
  begins = rw (units_first order bytes h, ← e) (chars_lone u (units order (drop 2 bytes)) (rw f (not_second u v other))
      ∙ ap (λ w. w ∷ utf16_chars (units order (drop 2 bytes))) (surrogate u low high));
}

pub begins_last : (order : Order) (bytes : List ℕ) (u : ℕ) → 2 ≤ length bytes → u ≡ unit_at order bytes
    → 0xD800 ≤ u → u < 0xE000 → length bytes < 4 → BeginsUnpaired order bytes
begins_last order bytes u h e low high short =
    let none : get_or (units order (drop 2 bytes)) 0 0 ≡ 0 = rw (units_short order (drop 2 bytes) (omega (arith, length-drop 2 bytes))) refl in
    alone order bytes u h e low high 0 none (inl (omega arith))

second_at : (order : Order) (bytes : List ℕ) → 4 ≤ length bytes
    → units order (drop 2 bytes) ≡ unit_of order (get_or bytes 2 0) (get_or bytes 3 0) ∷ units order (drop 4 bytes)
second_at LowFirst (a ∷ b ∷ c ∷ d ∷ bytes) h = refl
second_at HighFirst (a ∷ b ∷ c ∷ d ∷ bytes) h = refl
second_at order bytes h = absurd (omega arith)

pub begins_alone : (order : Order) (bytes : List ℕ) (u v : ℕ) → 4 ≤ length bytes → u ≡ unit_at order bytes → v
    ≡ unit_of order (get_or bytes 2 0) (get_or bytes 3 0)
    → 0xD800 ≤ u → u < 0xE000 → (v < 0xDC00) ⊎ (0xE000 ≤ v) → BeginsUnpaired order bytes
begins_alone order bytes u v h e f low high other =
    let next : get_or (units order (drop 2 bytes)) 0 0 ≡ v = rw (second_at order bytes h) (sym f) in
    alone order bytes u (omega arith) e low high v next other

pub begins_pair : (order : Order) (bytes : List ℕ) (u v c : ℕ) → 4 ≤ length bytes → u ≡ unit_at order bytes → v
    ≡ unit_of order (get_or bytes 2 0) (get_or bytes 3 0)
    → 0xD800 ≤ u → u < 0xDC00 → 0xDC00 ≤ v → v < 0xE000 → c ≡ surrogate_pair_char u v → BeginsWith order bytes c 4
begins_pair order bytes u v c h e f p q r s g = record {
  begins = rw (units_first order bytes (omega arith), second_at order bytes h, ← e, ← f, g) (chars_pair u v (units order (drop 4 bytes)) (both u v p q r s));
  some = omega arith;
  even = refl;
  within = h;
}

-- what a text begins with shows whether some surrogate of it has no partner
pub unpaired_first : (order : Order) (bytes : List ℕ) → BeginsUnpaired order bytes → has_unpaired_surrogate (units order bytes) ≡ true
unpaired_first order bytes h = rw h.begins refl

pub unpaired_next : (order : Order) (bytes : List ℕ) (at char len : ℕ) → BeginsWith order (drop at bytes) char len
    → has_unpaired_surrogate (units order (drop (at + len) bytes)) ≡ has_unpaired_surrogate (units order (drop at bytes))
unpaired_next order bytes at char len h = rw (h.begins, drop-drop len at bytes) refl

unpaired_none : (text : List ℕ) → text ≡ [] → has_unpaired_surrogate text ≡ false
unfolding utf16_chars
unpaired_none text e = rw e refl

-- the end of a text of whole units
pub unpaired_end : (order : Order) (bytes : List ℕ) (at : ℕ) → length bytes ≤ at
    → has_unpaired_surrogate (units order (drop at bytes)) ≡ has_unpaired_surrogate (units order bytes) → has_unpaired_surrogate (units order bytes) ≡ false
unpaired_end order bytes at h e = sym e ∙ unpaired_none (units order (drop at bytes)) (units_short order (drop at bytes) (omega (arith, length-drop at bytes)))

pub paired_test : (n : ℕ) (b : Bool) → n % 2 ≡ 0 → ((eqb (n % 2) 0) && not b) ≡ not b
paired_test n b h = rw h refl

no_utf8 : (bytes : List ℕ) (b : Bool) → is_utf8 bytes ≡ b → ¬ (IsUtf8 bytes) → b ≡ false
no_utf8 bytes true e h = absurd (h (IsUtf8-from_is_utf8 bytes e))
no_utf8 bytes false e h = refl

-- a test of UTF-8
pub utf8_test : {A E : Type 0} (P : A → Type 0) (Q : E → Type 0) (r : Result A E) (bytes : List ℕ)
    → MatchResult r (λ x. P x × IsUtf8 bytes) (λ e. (¬ (IsUtf8 bytes)) × Q e) → is_ok r ≡ is_utf8 bytes
utf8_test P Q (Ok x) bytes h = sym (is_utf8-from_IsUtf8 bytes h.1)
utf8_test P Q (Err e) bytes h = sym (no_utf8 bytes (is_utf8 bytes) refl h.0)

-- there is none of less than a unit
pub chars_none : (order : Order) (bytes : List ℕ) → length bytes < 2 → utf16_lossy_chars (units order bytes) ≡ []
unfolding utf16_chars
chars_none order bytes h = rw (units_short order bytes h) refl

pub text_none : (order : Order) (bytes : List ℕ) → length bytes < 2 → text_of order bytes ≡ []
text_none order bytes h = rw (chars_none order bytes h) refl
