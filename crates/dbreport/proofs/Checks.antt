-- What a check has written and found, by the findings that its reporter received.
use Rattle.dbreport.proofs.Common.{◌≡◌, ℕ, zero, suc, ◌+◌, ◌-◌, ◌^◌, ◌<◌, ◌≤◌, false, cond, inl, inr, List, [], ◌∷◌, ◌++◌, length, take, drop, Result, Ok, Err}
use Rattle.dbreport.proofs.Common.{refl, sym, ap, ap₂, ◌∙◌, subst, arith, append_assoc, length-drop, flat_map, ◌==◌, nat_lt, Moves, MovesBySome, counted}
use Rattle.dbreport.proofs.Common.{fault_line, ok_line, check_text, verdict, Fault, Verdict, Begins, OutState, Puts, cases_Bool, nat_tests, begins_more}
use Rattle.dbreport.proofs.Common.{puts_then, ShowsFault, common_steps, more_text, verdict_counted, PutsAll, end_text, found_verdict, writer_of, CheckReporter}
use Rattle.std.proofs.Math.Seq.{take-nil}
use Rattle.dblines.specs.Writing.{Wrote}
use Rattle.dblines.specs.declared.writer.Writer.{Writer}
use Rattle.dblines.proofs.Writing.{put_written, wrote_as, wrote_nothing, wrote_then}

-- the lines of the first faults
abbrev lines : ℕ → List Fault → List ℕ
lines limit fs = flat_map fault_line (take limit fs)

-- ---- the last line

pub more_counted : (n : ℕ) → more_text (counted n) ≡ more_text n
more_counted n = grind arith

some_left : (limit : ℕ) (f : Fault) (fs : List Fault) → (length (take limit (f ∷ fs)) + counted (length (drop limit (f ∷ fs))) == 0) ≡ false
some_left limit f fs = grind (arith, common_steps, nat_tests)

text_is : (limit : ℕ) (fs : List Fault) → lines limit fs ++ end_text (length (take limit fs)) (counted (length (drop limit fs))) ≡ check_text limit fs
text_is limit [] =
    let d : length (drop {A = Fault} limit []) ≡ 0 = length-drop limit [] ∙ omega arith in
    rw (take-nil limit, d) refl
text_is limit (f ∷ fs) =
    ap (λ b. lines limit (f ∷ fs) ++ cond b ok_line (more_text (counted (length (drop limit (f ∷ fs)))))) (some_left limit f fs)
    ∙ ap (λ l. lines limit (f ∷ fs) ++ l) (more_counted (length (drop limit (f ∷ fs))))

verdict_is : (limit : ℕ) (fs : List Fault) → found_verdict (length (take limit fs)) (counted (length (drop limit fs))) ≡ verdict fs
verdict_is limit fs = grind (arith, common_steps, verdict_counted)

-- ---- a beginning

-- some moves are all of the first events
record IsPart {S E : Type 0} (move : S → E → S → Type 0) (s : S) (items : List E) (t : S) : Type 0 where
  first : List E
  rest : List E
  all : first ++ rest ≡ items
  moved : Moves move s first t

some_part : {S E : Type 0} (move : S → E → S → Type 0) (items : List E) (s t : S) → MovesBySome move s items t → IsPart move s items t
some_part move [] s t h = record { first = []; rest = []; all = refl; moved = h }
some_part move (i ∷ items) s t (inl h) = record { first = []; rest = i ∷ items; all = refl; moved = h }
some_part move (i ∷ items) s t (inr h) =
    let k = some_part move items h.0 t h.2 in
    record { first = i ∷ k.first; rest = k.rest; all = ap (λ l. i ∷ l) k.all; moved = (h.0, h.1, k.moved) }

lines_begin : (n : ℕ) (a b : List Fault) → (rest : List ℕ) × (lines n a ++ rest ≡ lines n (a ++ b))
lines_begin n [] b = (lines n b, ap (λ (l : List Fault). flat_map fault_line l ++ lines n b) (take-nil n))
lines_begin zero (f ∷ a) b = ([], refl)
lines_begin (suc n) (f ∷ a) b =
    let k = lines_begin n a b in
    (k.0, append_assoc (fault_line f) (lines n a) k.0 ∙ ap (λ l. fault_line f ++ l) k.1)

-- ---- fault after fault

module _ {O : Type 0} (held : O → OutState) where
  -- the state of the reporter after some faults
  record Saw (s : CheckReporter O) (fs : List Fault) (t : CheckReporter O) : Type 0 where
    limit : t.limit ≡ s.limit
    shown : t.shown ≡ s.shown + length (take (s.limit - s.shown) fs)
    more : t.more ≡ counted (s.more + length (drop (s.limit - s.shown) fs))
    wrote : Wrote held (writer_of s) (lines (s.limit - s.shown) fs) (writer_of t)

  saw_none : (s : CheckReporter O) → s.more ≤ 2 ^ 64 - 1 → Saw s [] s
  saw_none s m =
      let t : ◌≡◌ {A = List Fault} (take (s.limit - s.shown) []) [] = take-nil (s.limit - s.shown) in
      let n : length (take {A = Fault} (s.limit - s.shown) []) ≡ 0 = ap length t in
      let d : length (drop {A = Fault} (s.limit - s.shown) []) ≡ 0 = length-drop (s.limit - s.shown) [] ∙ omega arith in record {
        limit = refl;
        shown = omega arith;
        more = omega arith;
        wrote = wrote_as (ap (flat_map fault_line) (sym t)) (wrote_nothing (writer_of s));
      }

  module _ (s m : CheckReporter O) (f : Fault) (shows : ShowsFault held s f m) where
    -- the bounds of the next one
    bounds_kept : s.shown ≤ s.limit → s.more ≤ 2 ^ 64 - 1 → (m.shown ≤ m.limit) × (m.more ≤ 2 ^ 64 - 1)
    bounds_kept l n =
        let limit = shows.limit in
        let shown = shows.shown in
        let more = shows.more in (grind (arith, nat_tests), grind (arith, nat_tests))

    -- there is room for its line, or it is counted
    saw_fault : (fs : List Fault) (t : CheckReporter O) → s.shown ≤ s.limit → Saw m fs t → Saw s (f ∷ fs) t
    saw_fault fs t le k = elim (cases_Bool (nat_lt s.shown s.limit)) [
      | inl e ↦
          let less : s.shown < s.limit = grind (arith, nat_tests) in
          let shown : m.shown ≡ s.shown + 1 = rw e at shows.shown in
          let limit = shows.limit in
          let room : s.limit - s.shown ≡ suc (m.limit - m.shown) = omega arith in
          let first : take (s.limit - s.shown) (f ∷ fs) ≡ f ∷ take (m.limit - m.shown) fs = ap (λ n. take n (f ∷ fs)) room in
          let n : length (take (s.limit - s.shown) (f ∷ fs)) ≡ suc (length (take (m.limit - m.shown) fs)) = ap length first in record {
            limit = k.limit ∙ limit;
            shown = let e = k.shown in omega arith;
            more = k.more ∙ ap₂ (λ x l. counted (x + length l)) (rw e at shows.more) (ap (λ n. drop n (f ∷ fs)) (sym room));
            wrote = wrote_as (ap (flat_map fault_line) (sym first)) (wrote_then (rw e at shows.wrote) k.wrote);
          }
      | inr e ↦
          let least : s.limit ≤ s.shown = grind (arith, nat_tests) in
          let shown : m.shown ≡ s.shown = rw e at shows.shown in
          let more : m.more ≡ counted (s.more + 1) = rw e at shows.more in
          let limit = shows.limit in
          let none : s.limit - s.shown ≡ 0 = omega arith in
          let none' : m.limit - m.shown ≡ 0 = omega arith in
          let a : length (take (m.limit - m.shown) fs) ≡ 0 = ap (λ n. length (take n fs)) none' in
          let b : length (take (s.limit - s.shown) (f ∷ fs)) ≡ 0 = ap (λ n. length (take n (f ∷ fs))) none in
          let c : length (drop (m.limit - m.shown) fs) ≡ length fs = ap (λ n. length (drop n fs)) none' in
          let d : length (drop (s.limit - s.shown) (f ∷ fs)) ≡ suc (length fs) = ap (λ n. length (drop n (f ∷ fs))) none in record {
            limit = k.limit ∙ limit;
            shown = let e = k.shown in omega arith;
            more = let e = k.more in omega arith;
            wrote = wrote_as (ap (λ n. lines n fs) none' ∙ ap (λ n. lines n (f ∷ fs)) (sym none)) (wrote_then (rw e at shows.wrote) k.wrote);
          }
    ]

  saw_all : (fs : List Fault) (s t : CheckReporter O) → s.shown ≤ s.limit → s.more ≤ 2 ^ 64 - 1 → Moves (ShowsFault held) s fs t → Saw s fs t
  saw_all [] s t l m h = subst (λ u. Saw s [] u) h (saw_none s m)
  saw_all (f ∷ fs) s t l m h =
      let b = bounds_kept s h.0 f h.1 l m in
      saw_fault s h.0 f h.1 fs t l (saw_all fs h.0 t b.0 b.1 h.2)

  -- ---- what was put of what was written, from an Out that had not failed

  module _ (s t : Writer O) (text : List ℕ) (fresh : s.has_failed ≡ false) (wrote : Wrote held s text t) where
    put_whole : t.has_failed ≡ false → PutsAll (held s.out.now) (held t.out.now) text
    put_whole e = put_written (Ok tt) s.has_failed t.has_failed _ _ text fresh (sym e) wrote.written

    put_some : (rest all : List ℕ) → text ++ rest ≡ all → Begins (held s.out.now).bytes (held t.out.now).bytes all
    put_some rest all e = elim (cases_Bool t.has_failed) [
      | inl f ↦ begins_more (held s.out.now).bytes (held t.out.now).bytes text rest all e
          (put_written {A = Unit {0}} {E = Unit {0}} (Err tt) s.has_failed t.has_failed _ _ text fresh (sym f) wrote.written).held
      | inr f ↦ record { part = text; rest = rest; whole = e; added = (put_whole f).held }
    ]

  -- ---- the whole check, from a reporter that has received nothing

  module _ (found : List Fault) (s t : CheckReporter O) (fresh : s.has_failed ≡ false) (none : s.shown ≡ 0) (no_more : s.more ≡ 0) where
    room : s.limit - s.shown ≡ s.limit
    room = omega arith

    saw : (fs : List Fault) → Moves (ShowsFault held) s fs t → Saw s fs t
    saw fs moved = saw_all fs s t (omega arith) (omega arith) moved

    -- all was reported, and then the last line was put
    module _ (open_last : t.has_failed ≡ false) (moved : Moves (ShowsFault held) s found t) where
      shown_is : t.shown ≡ length (take s.limit found)
      shown_is = let k = rw room at (saw found moved).shown in omega arith

      more_is : t.more ≡ counted (length (drop s.limit found))
      more_is = let k = rw room at (saw found moved).more in omega arith

      pub check_writes : {E : Type 0} (r : Result Verdict E) (u : OutState) → Puts r (held t.out.now) u (end_text t.shown t.more)
          → Puts r (held s.out.now) u (check_text s.limit found)
      check_writes r u h =
          let first = put_whole (writer_of s) (writer_of t) (lines s.limit found) fresh
          (wrote_as (ap (λ k. lines k found) room) (saw found moved).wrote) open_last in
          let end : end_text t.shown t.more ≡ end_text (length (take s.limit found)) (counted (length (drop s.limit found))) = ap₂ end_text shown_is more_is in
          subst (λ l. Puts r (held s.out.now) u l) (ap (λ l. lines s.limit found ++ l) end ∙ text_is s.limit found)
          (puts_then r (lines s.limit found) (end_text t.shown t.more) refl first h)

      pub check_finds : found_verdict t.shown t.more ≡ verdict found
      check_finds = ap₂ found_verdict shown_is more_is ∙ verdict_is s.limit found

    -- a beginning was reported
    pub check_begins : MovesBySome (ShowsFault held) s found t → Begins (held s.out.now).bytes (held t.out.now).bytes (check_text s.limit found)
    check_begins stopped =
        let k = some_part (ShowsFault held) found s t stopped in
        let more = lines_begin s.limit k.first k.rest in
        let end = end_text (length (take s.limit found)) (counted (length (drop s.limit found))) in
        put_some (writer_of s) (writer_of t) (lines s.limit k.first) fresh (wrote_as (ap (λ n. lines n k.first) room) (saw k.first k.moved).wrote)
        (more.0 ++ end)
        (check_text s.limit found)
        (sym (append_assoc (lines s.limit k.first) more.0 end) ∙ ap (λ l. l ++ end) (more.1 ∙ ap (lines s.limit) k.all) ∙ text_is s.limit found)
