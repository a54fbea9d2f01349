-- A table of notes that is written.
use Rattle.std.proofs.Common.{◌≡◌, ℕ, ◌+◌, ◌-◌, ◌*◌, ◌/◌, ◌%◌, ◌<◌, ◌≤◌, inl, inr, ◌&&◌, List, length, get_or, set, sym, ap, ◌∙◌, arith}
use Rattle.std.specs.Prelude.{◌==◌, nat_le, if◌then◌else◌}
use Rattle.std.proofs.lemmas.Bool.{cases_lt, cases_eq}
use Rattle.std.proofs.lemmas.Bool.Decides.{nat_tests}
use Rattle.std.proofs.lemmas.Grind.{get_or-set_at}
use Rattle.std.proofs.lemmas.List.{get_or-set_other, length-set}
use Rattle.dbpage.specs.Notes.{HasNear, Notes, end_at, note_of}

-- the same by what is noted
abbrev end_by : ℕ → ℕ → ℕ → ℕ → ℕ
end_by note start end at =
    if nat_le start at && nat_le ((at - start) / 4) ((end - start) / 4) && nat_le 4 note && (note % 4 == (at - start) % 4) then at + note / 4 else 0

by_note : (note start end at : ℕ) → start ≤ at → (at - start) / 4 ≤ (end - start) / 4 → 4 ≤ note → note % 4 ≡ (at - start) % 4
    → end_by note start end at ≡ at + note / 4
by_note note start end at from room some same = grind (arith, nat_tests)

by_none : (note start end at : ℕ) → note < 4 → end_by note start end at ≡ 0
by_none note start end at none = grind (arith, nat_tests)

by_another : (note start end at : ℕ) → (note % 4 ≡ (at - start) % 4 → ⊥) → end_by note start end at ≡ 0
by_another note start end at other = grind (arith, nat_tests)

by_no_content : (note start end at : ℕ) → at < start → end_by note start end at ≡ 0
by_no_content note start end at below = grind (arith, nat_tests)

pub near_of_noted : (table : List ℕ) (start end offset : ℕ) → start ≤ offset → offset ≤ end → 4 ≤ note_of table ((offset - start) / 4)
    → HasNear (end_at table start end) offset
near_of_noted table start end offset from before some =
    let group : ℕ = (offset - start) / 4 in
    let note : ℕ = note_of table group in
    let place : ℕ = start + (4 * group + note % 4) in
    let there : (place - start) / 4 ≡ group = omega arith in
    let until : end_at table start end place ≡ place + note / 4 =
    ap (λ (g : ℕ). end_by (note_of table g) start end place) there ∙ by_note note start end place (omega arith) (omega (arith, before)) some (omega arith) in
    record { place = place; from_on = omega arith; below = omega arith; some = omega (arith, until, some) }

-- an item is noted where none is
module _ (table : List ℕ) (start end offset len : ℕ) (from : start ≤ offset) (before : offset ≤ end)
    (room : (offset - start) / 2 + 2 ≤ length table) (some : 1 ≤ len)
    (free : note_of table ((offset - start) / 4) < 4) where
  abbrev group : ℕ
  group = (offset - start) / 4

  abbrev written : ℕ
  written = len * 4 + (offset - start) % 4

  abbrev first : List ℕ
  first = set table (group * 2) (written % 256)

  abbrev new : List ℕ
  new = set first (group * 2 + 1) (written / 256)

  low_byte : get_or new (2 * group) 0 ≡ written % 256
  low_byte = get_or-set_other first (group * 2 + 1) (2 * group) (written / 256) 0 (λ e. omega (arith, e))
      ∙ get_or-set_at table (group * 2) (2 * group) (written % 256) 0 (omega arith) (omega (arith, room))

  high_byte : get_or new (2 * group + 1) 0 ≡ written / 256
  high_byte = get_or-set_at first (group * 2 + 1) (2 * group + 1) (written / 256) 0 (omega arith)
      (omega (arith, room, length-set table (group * 2) (written % 256)))

  note_here : note_of new group ≡ written
  note_here = omega (arith, low_byte, high_byte)

  byte_there : (k : ℕ) → (k ≡ group * 2 → ⊥) → (k ≡ group * 2 + 1 → ⊥) → get_or new k 0 ≡ get_or table k 0
  byte_there k not_low not_high = get_or-set_other first (group * 2 + 1) k (written / 256) 0 not_high
      ∙ get_or-set_other table (group * 2) k (written % 256) 0 not_low

  note_there : (h : ℕ) → (h ≡ group → ⊥) → note_of new h ≡ note_of table h
  note_there h other = omega (
    arith,
    byte_there (2 * h) (λ e. other (omega (arith, e))) (λ e. omega (arith, e)),
    byte_there (2 * h + 1) (λ e. omega (arith, e)) (λ e. other (omega (arith, e))),
  )

  other_end : (a : ℕ) → (a ≡ offset → ⊥) → start ≤ a → (a - start) / 4 ≡ group → end_at new start end a ≡ end_at table start end a
  other_end a other on same =
      let now : note_of new ((a - start) / 4) ≡ written = ap (note_of new) same ∙ note_here in
      let was : note_of table ((a - start) / 4) ≡ note_of table group = ap (note_of table) same in
      by_another (note_of new ((a - start) / 4)) start end a (λ e. other (omega (arith, e, now, same, on, from)))
      ∙ sym (by_none (note_of table ((a - start) / 4)) start end a (omega (arith, was, free)))

  pub Notes_set : Notes (end_at table start end) (end_at new start end) offset (offset + len)
  Notes_set = record {
    was_free = by_none (note_of table group) start end offset free;
    is_noted = by_note (note_of new group) start end offset from (omega (arith, before)) (omega (arith, note_here, some)) (omega (arith, note_here))
        ∙ length_is;
    others = λ a other. elim (cases_lt a start) [
      | inl below ↦ by_no_content (note_of new ((a - start) / 4)) start end a below ∙ sym (by_no_content (note_of table ((a - start) / 4)) start end a below)
      | inr on ↦ elim (cases_eq ((a - start) / 4) group) [
        | inl same ↦ other_end a other on same
        | inr another ↦ ap (λ (n : ℕ). end_by n start end a) (note_there ((a - start) / 4) another)
      ]
    ];
  }
    where
      length_is : offset + note_of new group / 4 ≡ offset + len
      length_is = omega (arith, note_here)
