-- Items that are noted one after another, and a walk from each to the next.
use Rattle.std.proofs.Common.{◌≡◌, ℕ, zero, suc, ◌+◌, ◌-◌, ◌<◌, ◌≤◌, ◌⊎◌, inl, inr, Bool, true, false, ◌||◌, List, [], ◌∷◌, ◌++◌, length, refl, sym, ap, ◌∙◌}
use Rattle.std.proofs.Common.{arith, length-append}
use Rattle.std.specs.List.{range_with_len, list_any}
use Rattle.std.proofs.lemmas.Bool.{cases_lt, cases_eq, false_from_ne_true}
use Rattle.std.proofs.lemmas.List.{length_push}
use Rattle.dbformat.specs.Coverage.{Span, is_held}
use Rattle.dbpage.specs.Marking.{ShareNoByte}
use Rattle.dbpage.specs.Notes.{bytes_below, Rise, Notes, HasNear, Covers, AreApart, AreInside, AreNoted, Walked}
use Rattle.dbpage.proofs.Ranges.{any_at}
use Rattle.dbpage.proofs.Overlaps.{IsBeside, holds, is_held_push, is_held_inside, within}
use Rattle.dbpage.proofs.Overlaps.{from_within, is_overlapping-append, is_overlapping_at, ShareNoByte_push}

not_both : {b : Bool} → b ≡ false → b ≡ true → ⊥
not_both e h = cc

or_first : (a b : Bool) → a ≡ true → (a || b) ≡ true
or_first true b h = refl
or_first false b h = absurd (not_both refl h)

neither : {a b c : Bool} → a ≡ (b || c) → b ≡ false → c ≡ false → a ≡ true → ⊥
neither e f g h = not_both (e ∙ rw (f, g) refl) h

-- the spans before others are apart too
pub apart_before : (spans rest : List Span) → AreApart (spans ++ rest) → AreApart spans
apart_before spans rest h k l = sym (is_overlapping-append spans rest k l) ∙ h k (omega (arith, l, length-append spans rest))

-- the last span shares no byte with those before it
module _ (spans : List Span) (s : Span) (h : AreApart (spans ++ s ∷ [])) where
  none_held : list_any (is_held spans) (range_with_len s.offset s.len) ≡ false
  none_held = sym (is_overlapping_at spans s []) ∙ h (length spans) (omega (arith, length_push spans s))

  pub last_apart : IsBeside spans s
  last_apart byte from under = false_from_ne_true (is_held spans byte)
      (λ e. not_both none_held (any_at (is_held spans) s.offset s.len byte from under e))

module _ (spans : List Span) (s : Span) (start end : ℕ) (ends : ℕ → ℕ) (held : ℕ) (was : AreNoted spans start end ends held)
    (low : start ≤ s.offset) (high : s.offset + s.len ≤ end) (four : 4 ≤ s.len) where
  -- an item that begins near another shares a byte with it
  pub not_apart_near : HasNear ends s.offset → AreApart (spans ++ s ∷ []) → ⊥
  not_apart_near near h =
      let in_it = was.inside near.place near.some in
      elim (cases_lt near.place s.offset) [
        | inl before ↦ not_both (last_apart spans s h s.offset (omega arith) (omega (arith, four)))
            (was.held_by near.place s.offset (omega (arith, before)) (omega (arith, in_it, near.below)))
        | inr on ↦ not_both (last_apart spans s h near.place on (omega (arith, four, near.from_on)))
            (was.held_by near.place near.place (omega arith) (omega (arith, in_it)))
      ]

  module _ (new : ℕ → ℕ) (notes : Notes ends new s.offset (s.offset + s.len)) where
    -- what is noted now
    noted : (a : ℕ) → 0 < new a → ((a ≡ s.offset) × (new a ≡ s.offset + s.len)) ⊎ ((new a ≡ ends a) × (0 < ends a))
    noted a h = elim (cases_eq a s.offset) [
      | inl same ↦ inl (same, ap new same ∙ notes.is_noted)
      | inr other ↦ inr (notes.others a other, omega (arith, h, notes.others a other))
    ]

    -- what was noted still is
    kept : (a : ℕ) → 0 < ends a → new a ≡ ends a
    kept a h = elim (cases_eq a s.offset) [
      | inl same ↦ absurd (omega (arith, h, ap ends same, notes.was_free))
      | inr other ↦ notes.others a other
    ]

    inside_more : AreInside new start end
    inside_more a h = elim (noted a h) [
      | inl now ↦ (omega (arith, now, low), omega (arith, now, four), omega (arith, now, high))
      | inr old ↦ (omega (arith, was.inside a old.1), omega (arith, was.inside a old.1, old), omega (arith, was.inside a old.1, old))
    ]

    covers_more : (byte : ℕ) → start ≤ byte → byte < end → is_held (spans ++ s ∷ []) byte ≡ true → Covers new byte
    covers_more byte from under h = by_case (is_held spans byte) refl (holds s byte) refl
      where
        by_case : (b : Bool) → is_held spans byte ≡ b → (c : Bool) → holds s byte ≡ c → Covers new byte
        by_case true e c f =
            let old = was.covers byte from under e in
            record { place = old.place; from_on = old.from_on; below = omega (arith, old.below, kept old.place (omega (arith, old.below))) }
        by_case false e true f =
            let in_s = from_within s.offset (s.offset + s.len) byte f in
            record { place = s.offset; from_on = in_s.0; below = omega (arith, notes.is_noted, in_s.1) }
        by_case false e false f = absurd (neither (is_held_push spans s byte) e f h)

    held_more : (a byte : ℕ) → a ≤ byte → byte < new a → is_held (spans ++ s ∷ []) byte ≡ true
    held_more a byte on under = elim (noted a (omega (arith, under))) [
      | inl now ↦ is_held_inside spans s byte (within s.offset (s.offset + s.len) byte (omega (arith, now, on)) (omega (arith, now, under)))
      | inr old ↦ is_held_push spans s byte ∙ or_first (is_held spans byte) (holds s byte) (was.held_by a byte on (omega (arith, old, under)))
    ]

    rising_more : AreApart (spans ++ s ∷ []) → Rise new end
    rising_more h a b less under na nb = elim (noted a na) [
      | inl now_a ↦ elim (noted b nb) [
        | inl now_b ↦ absurd (omega (arith, less, now_a, now_b))
        | inr old_b ↦ elim (cases_lt b (s.offset + s.len)) [
          | inl over ↦ absurd (not_both (last_apart spans s h b (omega (arith, less, now_a)) over)
              (was.held_by b b (omega arith) (omega (arith, was.inside b old_b.1))))
          | inr fine ↦ omega (arith, now_a, fine)
        ]
      ]
      | inr old_a ↦ elim (noted b nb) [
        | inl now_b ↦ elim (cases_lt s.offset (ends a)) [
          | inl over ↦ absurd (not_both (last_apart spans s h s.offset (omega arith) (omega (arith, four)))
              (was.held_by a s.offset (omega (arith, less, now_b)) over))
          | inr fine ↦ omega (arith, old_a, now_b, fine)
        ]
        | inr old_b ↦ omega (arith, old_a, was.rising (apart_before spans (s ∷ []) h) a b less under old_a.1 old_b.1)
      ]
    ]

    module _ (rise : Rise new end) where
      rise_before : Rise ends end
      rise_before a b less under na nb =
          omega (arith, rise a b less under (omega (arith, na, kept a na)) (omega (arith, nb, kept b nb)), kept a na)

      clash : (byte : ℕ) → s.offset ≤ byte → byte < s.offset + s.len → Covers ends byte → ⊥
      clash byte from under old =
          let p = old.place in
          let some : 0 < ends p = omega (arith, old.below) in
          let there = kept p some in
          elim (cases_lt p s.offset) [
            | inl before ↦ omega (
              arith,
              old.below,
              from,
              there,
              rise p s.offset before (omega (arith, high, four)) (omega (arith, some, there)) (omega (arith, notes.is_noted, four)),
            )
            | inr on ↦ elim (cases_eq p s.offset) [
              | inl same ↦ omega (arith, some, ap ends same, notes.was_free)
              | inr other ↦ omega (
                arith,
                old.from_on,
                under,
                notes.is_noted,
                rise s.offset p (after p on other) (omega (arith, was.inside p some)) (omega (arith, notes.is_noted, four)) (omega (arith, some, there)),
              )
            ]
          ]
        where
          after : (p : ℕ) → s.offset ≤ p → (p ≡ s.offset → ⊥) → s.offset < p
          after p on other = elim (cases_lt s.offset p) [ inl less ↦ less | inr over ↦ absurd (other (omega (arith, on, over))) ]

      beside : IsBeside spans s
      beside byte from under = false_from_ne_true (is_held spans byte)
          (λ e. clash byte from under (was.covers byte (omega (arith, low, from)) (omega (arith, high, under)) e))

      apart_more : ShareNoByte (spans ++ s ∷ []) start end (held + s.len)
      apart_more = ShareNoByte_push spans s beside start end held (was.apart rise_before) low high

    below_same : (n : ℕ) → n ≤ s.offset → bytes_below new n ≡ bytes_below ends n
    below_same zero h = refl
    below_same (suc n) h =
        let here = notes.others n (λ e. omega (arith, e, h)) in
        omega (arith, below_same n (omega (arith, h)), here)

    below_more : (n : ℕ) → s.offset < n → bytes_below new n ≡ bytes_below ends n + s.len
    below_more zero h = absurd (omega (arith, h))
    below_more (suc n) h = elim (cases_eq n s.offset) [
      | inl same ↦ omega (arith, below_same n (omega (arith, same)), ap new same, notes.is_noted, ap ends same, notes.was_free, same)
      | inr other ↦ omega (arith, below_more n (earlier n h other), notes.others n other)
    ]
      where
        earlier : (n : ℕ) → s.offset < suc n → (n ≡ s.offset → ⊥) → s.offset < n
        earlier n h other = elim (cases_lt s.offset n) [ inl less ↦ less | inr over ↦ absurd (other (omega (arith, h, over))) ]

    pub AreNoted_push : AreNoted (spans ++ s ∷ []) start end new (held + s.len)
    AreNoted_push = record {
      inside = inside_more;
      covers = covers_more;
      held_by = held_more;
      rising = rising_more;
      apart = apart_more;
      counted = omega (arith, below_more end (omega (arith, high, four)), was.counted);
    }

-- the walk
module _ (ends : ℕ → ℕ) (start end : ℕ) (inside : AreInside ends start end) where
  more_below : (m k : ℕ) → bytes_below ends m ≤ bytes_below ends (m + k)
  more_below m zero = let e : m + 0 ≡ m = omega arith in omega (arith, ap (bytes_below ends) e)
  more_below m (suc k) =
      let e : m + suc k ≡ suc (m + k) = omega arith in
      omega (arith, more_below m k, ap (bytes_below ends) e)

  -- where no bytes are added, no item begins
  none_between : (m k : ℕ) → bytes_below ends (m + k) ≡ bytes_below ends m → (a : ℕ) → m ≤ a → a < m + k → ends a ≡ 0
  none_between m zero h a low high = absurd (omega (arith, low, high))
  none_between m (suc k) h a low high =
      let e : m + suc k ≡ suc (m + k) = omega arith in
      let whole = ap (bytes_below ends) e in
      elim (cases_lt a (m + k)) [
        | inl before ↦ none_between m k (omega (arith, h, whole, more_below m k)) a low before
        | inr last ↦
            let same : a ≡ m + k = omega (arith, last, high) in
            elim (cases_lt 0 (ends a)) [
              | inl some ↦ absurd (omega (arith, inside a some, h, whole, more_below m k, ap ends same, same))
              | inr none ↦ omega (arith, none)
            ]
      ]

  -- and the other way round
  same_between : (m k : ℕ) → ((a : ℕ) → m ≤ a → a < m + k → ends a ≡ 0) → bytes_below ends (m + k) ≡ bytes_below ends m
  same_between m zero h = let e : m + 0 ≡ m = omega arith in ap (bytes_below ends) e
  same_between m (suc k) h =
      let e : m + suc k ≡ suc (m + k) = omega arith in
      omega (arith, ap (bytes_below ends) e, same_between m k (λ a low high. h a low (omega (arith, high))), h (m + k) (omega arith) (omega arith))

  pub walk_begins : bytes_below ends start ≡ 0 → Walked ends end start 0
  walk_begins none = record {
    few = omega arith;
    past = λ e a under some. absurd (omega (arith, inside a some, under));
    rising = λ e a b less under na nb. absurd (omega (arith, inside b nb, under));
    all = λ rise. sym none;
  }

  pub none_before : bytes_below ends start ≡ 0
  none_before = let e : 0 + start ≡ start = omega arith in
      sym (ap (bytes_below ends) e) ∙ same_between 0 start (λ a low high. elim (cases_lt 0 (ends a)) [
        | inl some ↦ absurd (omega (arith, inside a some, high))
        | inr none ↦ omega (arith, none)
      ])

  module _ (at seen : ℕ) (was : Walked ends end at seen) where
    -- no item begins here
    pub walk_on : ends at ≡ 0 → Walked ends end (at + 1) seen
    walk_on none =
        let e : at + 1 ≡ suc at = omega arith in
        let same : bytes_below ends (at + 1) ≡ bytes_below ends at = omega (arith, ap (bytes_below ends) e, none) in
        record {
          few = omega (arith, was.few, same);
          past = λ h a under some. omega (arith, was.past (omega (arith, h, same)) a (not_here none a under some) some);
          rising = λ h a b less under na nb. was.rising (omega (arith, h, same)) a b less (not_here none b under nb) na nb;
          all = λ rise. omega (arith, was.all rise, same);
        }
      where
        not_here : ends at ≡ 0 → (a : ℕ) → a < at + 1 → 0 < ends a → a < at
        not_here none a under some = elim (cases_lt a at) [
          | inl before ↦ before
          | inr on ↦ absurd (omega (arith, ap ends (same on), none, some))
        ]
          where
            same : at ≤ a → a ≡ at
            same on = omega (arith, on, under)

    -- an item begins here: on to its end
    module _ (some : 0 < ends at) where
      next : at + 1 + (ends at - (at + 1)) ≡ ends at
      next = omega (arith, inside at some)

      to_next : bytes_below ends (at + 1) ≡ bytes_below ends at + (ends at - at)
      to_next = let e : at + 1 ≡ suc at = omega arith in ap (bytes_below ends) e

      more : bytes_below ends (at + 1) ≤ bytes_below ends (ends at)
      more = omega (arith, more_below (at + 1) (ends at - (at + 1)), ap (bytes_below ends) next)

      -- an item that begins before the end, where none is passed
      which : seen + (ends at - at) ≡ bytes_below ends (ends at) → (a : ℕ) → a < ends at → 0 < ends a → (a < at) ⊎ (a ≡ at)
      which h a under there = elim (cases_lt a at) [
        | inl before ↦ inl before
        | inr on ↦ elim (cases_eq a at) [
          | inl same ↦ inr same
          | inr other ↦ absurd (omega (
            arith,
            there,
            none_between (at + 1) (ends at - (at + 1)) (omega (arith, ap (bytes_below ends) next, h, more, to_next, was.few)) a
                (after a on other) (omega (arith, under, next)),
          ))
        ]
      ]
        where
          after : (a : ℕ) → at ≤ a → (a ≡ at → ⊥) → at + 1 ≤ a
          after a on other = elim (cases_lt at a) [ inl less ↦ omega (arith, less) | inr over ↦ absurd (other (omega (arith, on, over))) ]

      here : seen + (ends at - at) ≡ bytes_below ends (ends at) → seen ≡ bytes_below ends at
      here h = omega (arith, h, more, to_next, was.few)

      pub walk_over : ends at ≤ end → Walked ends end (ends at) (seen + (ends at - at))
      walk_over fits = record {
        few = omega (arith, was.few, to_next, more);
        past = λ h a under there. elim (which h a under there) [
          | inl before ↦ omega (arith, was.past (here h) a before there, inside at some)
          | inr same ↦ omega (arith, ap ends same)
        ];
        rising = λ h a b less under na nb. elim (which h b under nb) [
          | inl before ↦ was.rising (here h) a b less before na nb
          | inr same ↦ omega (arith, was.past (here h) a (omega (arith, less, same)) na, same)
        ];
        all = λ rise.
            let none = same_between (at + 1) (ends at - (at + 1)) (λ a low high. elim (cases_lt 0 (ends a)) [
              | inl there ↦ absurd (omega (arith, low, high, next, rise at a (omega (arith, low)) (omega (arith, high, next, fits)) some there))
              | inr nothing ↦ omega (arith, nothing)
            ]) in
            omega (arith, was.all rise, to_next, none, ap (bytes_below ends) next);
      }
