-- Items that are marked one after another.
use Rattle.std.proofs.Common.{◌≡◌, ℕ, ◌+◌, ◌-◌, ◌<◌, ◌≤◌, inl, inr, Bool, true, false, ◌||◌, List, [], ◌∷◌, ◌++◌, length, Some, None, refl, sym, subst, ap, ◌∙◌}
use Rattle.std.proofs.Common.{arith, length-append}
use Rattle.std.specs.List.{range_with_len, list_any}
use Rattle.std.proofs.lemmas.Bool.{cases_lt}
use Rattle.std.proofs.lemmas.Bool.Decides.{nat_tests}
use Rattle.std.proofs.lemmas.List.{get_or_append_left, take-append-le, get_or_at, take_at, length_push}
use Rattle.std.proofs.lemmas.List.Folds.{list_any-append}
use Rattle.dbformat.specs.Head.{View, content_start}
use Rattle.dbformat.specs.Coverage.{Span, coverage, coverage_of, first_overlap, is_held, is_overlapping, items, unheld}
use Rattle.dbformat.specs.declared.Coverage.TheVariants.{Unheld}
use Rattle.dbpage.specs.Marking.{is_claimed, is_within, Marks, HasMarked, ShareNoByte, AreMarked}
use Rattle.dbpage.proofs.Ranges.{find_first, find_none, any_at, any_none}
use Rattle.dbpage.proofs.Tables.{outside}
use Rattle.dbpage.proofs.Unheld.{PassMore, fewer_fail}

abbrev pub no_span : Span
no_span = record { offset = 0; len = 0 }

-- an item before others stays apart or overlapping
pub is_overlapping-append : (spans rest : List Span) (k : ℕ) → k < length spans → is_overlapping (spans ++ rest) k ≡ is_overlapping spans k
is_overlapping-append spans rest k h = rw (get_or_append_left spans rest no_span k h, take-append-le k spans rest (omega arith)) refl

pub is_overlapping_at : (spans : List Span) (s : Span) (rest : List Span)
    → is_overlapping (spans ++ s ∷ rest) (length spans) ≡ list_any (is_held spans) (range_with_len s.offset s.len)
is_overlapping_at spans s rest = rw (get_or_at spans s rest no_span (length spans) refl, take_at spans (s ∷ rest) (length spans) refl) refl

abbrev pub holds : Span → ℕ → Bool
holds s byte = is_within s.offset (s.offset + s.len) byte

or_false : (a : Bool) → (a || false) ≡ a
or_false true = refl
or_false false = refl

or_true : (a : Bool) → (a || true) ≡ true
or_true true = refl
or_true false = refl

pub is_held_push : (spans : List Span) (s : Span) (byte : ℕ) → is_held (spans ++ s ∷ []) byte ≡ (is_held spans byte || holds s byte)
is_held_push spans s byte = list_any-append (λ t. holds t byte) spans (s ∷ []) ∙ ap (λ b. is_held spans byte || b) (or_false (holds s byte))

pub is_held_inside : (spans : List Span) (s : Span) (byte : ℕ) → holds s byte ≡ true → is_held (spans ++ s ∷ []) byte ≡ true
is_held_inside spans s byte h = is_held_push spans s byte ∙ ap (λ b. is_held spans byte || b) h ∙ or_true (is_held spans byte)

is_held_outside : (spans : List Span) (s : Span) (byte : ℕ) → holds s byte ≡ false → is_held (spans ++ s ∷ []) byte ≡ is_held spans byte
is_held_outside spans s byte h = is_held_push spans s byte ∙ ap (λ b. is_held spans byte || b) h ∙ or_false (is_held spans byte)

pub within : (from to byte : ℕ) → from ≤ byte → byte < to → is_within from to byte ≡ true
within from to byte low high = grind (arith, nat_tests)

pub from_within : (from to byte : ℕ) → is_within from to byte ≡ true → (from ≤ byte) × (byte < to)
from_within from to byte h = (grind (arith, nat_tests), grind (arith, nat_tests))

-- no byte of a span is in others
abbrev pub IsBeside : List Span → Span → Type 0
IsBeside spans s = (byte : ℕ) → s.offset ≤ byte → byte < s.offset + s.len → is_held spans byte ≡ false

-- an item apart from those before it
module _ (spans : List Span) (s : Span) (free : IsBeside spans s) where
  pass_more : PassMore (is_held spans) (is_held (spans ++ s ∷ [])) s.offset (s.offset + s.len)
  pass_more = (
    free,
    (λ byte from below. is_held_inside spans s byte (within s.offset (s.offset + s.len) byte from below)),
    (λ byte h. is_held_outside spans s byte (outside s.offset (s.offset + s.len) byte h)),
  )

  stay_apart : ((k : ℕ) → k < length spans → is_overlapping spans k ≡ false) → (k : ℕ) → k < length (spans ++ s ∷ []) → is_overlapping (spans ++ s ∷ []) k
      ≡ false
  stay_apart apart k h =
      elim (cases_lt k (length spans)) [
        | inl earlier ↦ is_overlapping-append spans (s ∷ []) k earlier ∙ apart k earlier
        | inr last ↦
            let same : length spans ≡ k = omega (arith, length_push spans s) in
            subst (λ (j : ℕ). is_overlapping (spans ++ s ∷ []) j ≡ false) same
            (is_overlapping_at spans s [] ∙ any_none (is_held spans) s.offset s.len free)
      ]

  pub ShareNoByte_push : (start end held : ℕ) → ShareNoByte spans start end held → start ≤ s.offset → s.offset + s.len ≤ end
      → ShareNoByte (spans ++ s ∷ []) start end (held + s.len)
  ShareNoByte_push start end held was low high =
      let fewer = fewer_fail (is_held spans) (is_held (spans ++ s ∷ [])) s.offset (s.offset + s.len) start (end - start) pass_more in
      record { apart = stay_apart was.apart; counted = omega (arith, fewer, was.counted) }

module _ (spans : List Span) (s : Span) (start end : ℕ) (table : List ℕ) (held : ℕ) (was : AreMarked spans start end table held) where
  -- an item whose bytes are free is apart from those before it
  pub apart_from : start ≤ s.offset → s.offset + s.len ≤ end → ((byte : ℕ) → s.offset ≤ byte → byte < s.offset + s.len → is_claimed table byte ≡ false)
      → IsBeside spans s
  apart_from low high free byte from below = sym (was.marked byte (omega arith) (omega arith)) ∙ free byte from below

  -- one more item is marked
  pub AreMarked_push : (new : List ℕ) → start ≤ s.offset → s.offset + s.len ≤ end → Marks table s.offset (s.offset + s.len) new
      → AreMarked (spans ++ s ∷ []) start end new (held + s.len)
  AreMarked_push new low high marks =
      let free = apart_from low high marks.were_free in
      let fewer = fewer_fail (is_held spans) (is_held (spans ++ s ∷ [])) s.offset (s.offset + s.len) start (end - start) (pass_more spans s free) in
      record {
        marked = λ byte from below. by_case byte from below (holds s byte) refl;
        apart = stay_apart spans s free was.apart;
        counted = omega (arith, fewer, was.counted);
      }
    where
      by_case : (byte : ℕ) → start ≤ byte → byte < end → (b : Bool) → holds s byte ≡ b → is_claimed new byte ≡ is_held (spans ++ s ∷ []) byte
      by_case byte from below true h =
          let in_s = from_within s.offset (s.offset + s.len) byte h in
          marks.are_marked byte in_s.0 in_s.1 ∙ sym (is_held_inside spans s byte h)
      by_case byte from below false h = marks.others byte h ∙ was.marked byte from below ∙ sym (is_held_outside spans s byte h)

  -- an item that holds nothing leaves all as it was
  pub AreMarked_push_empty : s.len ≡ 0 → AreMarked (spans ++ s ∷ []) start end table held
  AreMarked_push_empty none =
      let free = λ (byte : ℕ) (from : s.offset ≤ byte) (below : byte < s.offset + s.len). absurd {A = is_held spans byte ≡ false} (omega arith) in
      let fewer = fewer_fail (is_held spans) (is_held (spans ++ s ∷ [])) s.offset (s.offset + s.len) start (end - start) (pass_more spans s free) in
      record {
        marked = λ byte from below. was.marked byte from below
            ∙ sym (is_held_outside spans s byte (outside s.offset (s.offset + s.len) byte
            (elim (cases_lt byte s.offset) [ inl below ↦ inl below | inr from ↦ inr (omega arith) ])));
        apart = stay_apart spans s free was.apart;
        counted = omega (arith, fewer, was.counted);
      }

  -- an item one of whose bytes is marked is the first that overlaps
  pub first_overlap_at : (rest : List Span) → start ≤ s.offset → s.offset + s.len ≤ end → HasMarked table s.offset (s.offset + s.len)
      → first_overlap (spans ++ s ∷ rest) ≡ Some (length spans)
  first_overlap_at rest low high hit =
      find_first (is_overlapping (spans ++ s ∷ rest)) 0 (length (spans ++ s ∷ rest)) (length spans) (omega arith)
      (omega (arith, length-append spans (s ∷ rest)))
      (λ k l h. is_overlapping-append spans (s ∷ rest) k h ∙ was.apart k h)
      (is_overlapping_at spans s rest ∙ any_at (is_held spans) s.offset s.len hit.byte hit.from_on hit.below
      (sym (was.marked hit.byte (omega (arith, hit.from_on)) (omega (arith, hit.below))) ∙ hit.marked))

pub no_overlap : (spans : List Span) (start end held : ℕ) → ShareNoByte spans start end held → first_overlap spans ≡ None
no_overlap spans start end held are = find_none (is_overlapping spans) 0 (length spans) (λ k l h. are.apart k (omega arith))

pub ShareNoByte-from_marked : (spans : List Span) (start end : ℕ) (table : List ℕ) (held : ℕ) → AreMarked spans start end table held
    → ShareNoByte spans start end held
ShareNoByte-from_marked spans start end table held are = record { apart = are.apart; counted = are.counted }

pub first_overlap_none : (spans : List Span) (start end : ℕ) (table : List ℕ) (held : ℕ) → AreMarked spans start end table held → first_overlap spans ≡ None
first_overlap_none spans start end table held are = no_overlap spans start end held (ShareNoByte-from_marked spans start end table held are)

-- the coverage of a page whose items are apart
pub coverage-from_apart : (v : View) (held : ℕ) → ShareNoByte (items v) (content_start v.number v.bytes) v.usable held
    → coverage v ≡ Unheld (v.usable - content_start v.number v.bytes - held)
unfolding coverage
coverage-from_apart v held are =
    let none = no_overlap (items v) (content_start v.number v.bytes) v.usable held are in
    let left : unheld v ≡ v.usable - content_start v.number v.bytes - held = omega (arith, are.counted) in
    ap (coverage_of v) none ∙ ap (λ (n : ℕ). Unheld n) left
