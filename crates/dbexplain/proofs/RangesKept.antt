-- The ranges that are kept of some faults are the first of all that are found, and the others are counted.
use Rattle.std.proofs.Common.{◌≡◌, ℕ, ◌+◌, ◌<◌, ◌≤◌, Bool, true, false, cond, List, [], ◌∷◌, ◌++◌, length, replicate, take, drop, Option, Some, None, refl}
use Rattle.std.proofs.Common.{sym, ap}
use Rattle.std.proofs.Common.{subst, ◌∙◌, arith, length-append, append-nil}
use Rattle.std.specs.Prelude.{count_by, fold, nat_lt, option_to_list, slice_set, slice_index_or, ◌==◌}
use Rattle.std.proofs.Math.ListN.{length-set}
use Rattle.std.proofs.lemmas.Bool.{both_ways, eq-eqb, eqb-true}
use Rattle.std.proofs.lemmas.Bool.Decides.{nat_tests}
use Rattle.std.proofs.lemmas.List.{drop-append-le, drop_all, get_or-replicate, get_or-set_other, get_or-set_same, length-replicate, length-take, take-append-le}
use Rattle.std.proofs.lemmas.List.{take_all}
use Rattle.dbsurvey.proofs.Lists.{count-append}
use Rattle.dbexplain.proofs.Common.{freelist_start, counted, most_starts, TracedFault, AreAllKept, KeptRanges, no_more, is_of, RangeCount, RowRange, RowsKind}
use Rattle.dbexplain.proofs.Common.{NotReached, OnFaulty, CutShort}
use Rattle.dbexplain.specs.KeptRanges.{AreKept, AreRangesOf, closed, count_of, no_ranges, one_more, range_added, range_kept}
use Rattle.dbexplain.specs.KeptRanges.{range_reported, after_last, range_if, with_last}
use Rattle.dbexplain.specs.Ranges.{Found, found_after, found_more, found_with, grown, joins, most_ranges, none_found, range_of, ranges_found}
use Rattle.dbexplain.specs.Ranges.{same_kind}

-- a count with one more of a kind: only that of this kind changes
one_kind : (kind other : RowsKind) (c : RangeCount) (n : ℕ) → count_of other c ≡ counted n
    → count_of other (one_more kind c) ≡ counted (n + cond (same_kind kind other) 1 0)
one_kind NotReached NotReached c n e = omega arith
one_kind OnFaulty OnFaulty c n e = omega arith
one_kind CutShort CutShort c n e = omega arith
one_kind NotReached OnFaulty c n e = omega arith
one_kind NotReached CutShort c n e = omega arith
one_kind OnFaulty NotReached c n e = omega arith
one_kind OnFaulty CutShort c n e = omega arith
one_kind CutShort NotReached c n e = omega arith
one_kind CutShort OnFaulty c n e = omega arith

-- how many of one range are of start k and a kind
one_of : (k : ℕ) (kind : RowsKind) (s : RowRange) → count_by (is_of k kind) (s ∷ []) ≡ cond (is_of k kind s) 1 0
one_of k kind s = by_test (is_of k kind s) refl
  where
    by_test : (b : Bool) → is_of k kind s ≡ b → count_by (is_of k kind) (s ∷ []) ≡ cond (is_of k kind s) 1 0
    by_test true e = rw e refl
    by_test false e = rw e refl

-- number j of some counts, where number i is changed
at_other : (xs : List RangeCount) (i j : ℕ) (x d : RangeCount) → (i == j) ≡ false → slice_index_or (slice_set xs i x) j d ≡ slice_index_or xs j d
at_other xs i j x d e = get_or-set_other xs i j x d (λ q. both_ways (i == j) e (eq-eqb i j (sym q)))

at_same : (xs : List RangeCount) (i : ℕ) (x d : RangeCount) → i < length xs → slice_index_or (slice_set xs i x) i d ≡ x
at_same xs i x d l = get_or-set_same xs i x d l

module _ (rs : List RowRange) (s : RowRange) (kept : List RowRange) (more : List RangeCount) (is : AreKept rs kept more) where
  -- there is room
  room : length kept < 1000 → AreKept (rs ++ s ∷ []) (kept ++ s ∷ []) more
  room l =
      let n : length kept ≡ length (take 1000 rs) = ap length is.first in
      let m = length-take 1000 rs in
      let few : length rs < 1000 = omega (arith, n, m, l) in
      let whole : take 1000 rs ≡ rs = take_all 1000 rs (omega (arith, few)) in
      let a = length-append rs (s ∷ []) in
      let long : length (rs ++ s ∷ []) ≤ 1000 = omega (arith, few, a) in
      record {
        first = ap (λ l. l ++ s ∷ []) (is.first ∙ whole) ∙ sym (take_all 1000 (rs ++ s ∷ []) long);
        others = λ k kind h. is.others k kind h
            ∙ ap (λ l. counted (count_by (is_of k kind) l)) (drop_all 1000 rs (omega (arith, few)) ∙ sym (drop_all 1000 (rs ++ s ∷ []) long));
        long = is.long;
      }

  -- there is none
  full : 1000 ≤ length kept
      → AreKept (rs ++ s ∷ []) kept (slice_set more s.start (one_more s.kind (slice_index_or more s.start no_more)))
  unfolding most_starts
  full l =
      let n : length kept ≡ length (take 1000 rs) = ap length is.first in
      let m = length-take 1000 rs in
      let many : 1000 ≤ length rs = omega (arith, n, m, l) in
      record {
        first = is.first ∙ sym (take-append-le 1000 rs (s ∷ []) many);
        others = λ k kind h.
            at_start k kind h (s.start == k) refl
            ∙ ap counted (ap (λ x. count_by (is_of k kind) (drop 1000 rs) + x) (sym (one_of k kind s))
            ∙ sym (count-append (is_of k kind) (drop 1000 rs) (s ∷ [])))
            ∙ ap (λ l. counted (count_by (is_of k kind) l)) (sym (drop-append-le 1000 rs (s ∷ []) many));
        long = length-set more s.start _ ∙ is.long;
      }
    where
      after : List RangeCount
      after = slice_set more s.start (one_more s.kind (slice_index_or more s.start no_more))

      at_start : (k : ℕ) (kind : RowsKind) → k ≤ freelist_start → (b : Bool) → (s.start == k) ≡ b
          → count_of kind (slice_index_or after k no_more) ≡ counted (count_by (is_of k kind) (drop 1000 rs) + cond (is_of k kind s) 1 0)
      at_start k kind h true e =
          let same : s.start ≡ k = eqb-true s.start k e in
          let within : s.start < length more = (let q = is.long in omega (arith, q, same, h)) in
          let here : slice_index_or after k no_more ≡ one_more s.kind (slice_index_or more k no_more) =
          ap (λ i. slice_index_or after i no_more) (sym same)
          ∙ at_same more s.start (one_more s.kind (slice_index_or more s.start no_more)) no_more within
          ∙ ap (λ i. one_more s.kind (slice_index_or more i no_more)) same in
          ap (count_of kind) here
          ∙ one_kind s.kind kind (slice_index_or more k no_more) (count_by (is_of k kind) (drop 1000 rs)) (is.others k kind h)
          ∙ ap (λ b. counted (count_by (is_of k kind) (drop 1000 rs) + cond b 1 0)) (sym (by_start (same_kind s.kind kind)))
        where
          by_start : (b : Bool) → is_of k kind s ≡ same_kind s.kind kind
          by_start b = rw e refl
      at_start k kind h false e =
          let none : is_of k kind s ≡ false = rw e refl in
          let z : count_by (is_of k kind) (drop 1000 rs) ≡ count_by (is_of k kind) (drop 1000 rs) + 0 = omega arith in
          ap (count_of kind) (at_other more s.start k (one_more s.kind (slice_index_or more s.start no_more)) no_more e)
          ∙ is.others k kind h ∙ ap counted (z ∙ ap (λ b. count_by (is_of k kind) (drop 1000 rs) + cond b 1 0) (sym none))

-- a range more
pub kept_more : (rs : List RowRange) (s : RowRange) (k : KeptRanges) → AreKept rs k.kept k.more
    → AreKept (rs ++ s ∷ []) (range_kept k s).kept (range_kept k s).more
kept_more rs s k is = by_room (nat_lt (length k.kept) most_ranges) refl
  where
    by_room : (b : Bool) → nat_lt (length k.kept) most_ranges ≡ b → AreKept (rs ++ s ∷ []) (range_kept k s).kept (range_kept k s).more
    by_room true e =
        let l : length k.kept < 1000 = grind (arith, nat_tests, e) in
        subst (λ b. AreKept (rs ++ s ∷ []) (cond b (record k { kept = k.kept ++ s ∷ [] })
        (record k { more = slice_set k.more s.start (one_more s.kind (slice_index_or k.more s.start no_more)) })).kept
        (cond b (record k { kept = k.kept ++ s ∷ [] })
        (record k { more = slice_set k.more s.start (one_more s.kind (slice_index_or k.more s.start no_more)) })).more) (sym e)
        (room rs s k.kept k.more is l)
    by_room false e =
        let l : 1000 ≤ length k.kept = grind (arith, nat_tests, e) in
        subst (λ b. AreKept (rs ++ s ∷ []) (cond b (record k { kept = k.kept ++ s ∷ [] })
        (record k { more = slice_set k.more s.start (one_more s.kind (slice_index_or k.more s.start no_more)) })).kept
        (cond b (record k { kept = k.kept ++ s ∷ [] })
        (record k { more = slice_set k.more s.start (one_more s.kind (slice_index_or k.more s.start no_more)) })).more) (sym e)
        (full rs s k.kept k.more is l)

-- ---- fault after fault

-- what is kept belongs to what is found
pub record IsOf (f : Found) (k : KeptRanges) : Type 0 where
  last : k.last ≡ f.last
  kept : AreKept f.done k.kept k.more

of_range : (f : Found) (k : KeptRanges) (r : RowRange) → IsOf f k → IsOf (found_after f.done f.last r) (range_added k r)
of_range f k r is = subst (λ o. IsOf (found_after f.done f.last r) (after_last k o r)) (sym is.last) (by_last f.last)
  where
    by_last : (o : Option RowRange) → IsOf (found_after f.done o r) (after_last k o r)
    by_last None = record { last = refl; kept = is.kept }
    by_last (Some s) = by_join (joins s r)
      where
        by_join : (b : Bool) → IsOf
            (cond b (record { done = f.done; last = Some (grown s r) }) (record { done = f.done ++ s ∷ []; last = Some r }))
            (cond b (record k { last = Some (grown s r) }) (record (range_kept k s) { last = Some r }))
        by_join true = record { last = refl; kept = is.kept }
        by_join false = record { last = refl; kept = kept_more f.done s k is.kept }

of_fault : (f : Found) (k : KeptRanges) (t : TracedFault) → IsOf f k → IsOf (found_more f t) (range_reported k t)
of_fault f k t is = by_range (range_of t)
  where
    by_range : (o : Option RowRange) → IsOf (found_with f o) (range_if k o)
    by_range None = is
    by_range (Some r) = of_range f k r is

of_faults : (ts : List TracedFault) (f : Found) (k : KeptRanges) → IsOf f k → IsOf (fold found_more f ts) (fold range_reported k ts)
of_faults [] f k is = is
of_faults (t ∷ ts) f k is = of_faults ts (found_more f t) (range_reported k t) (of_fault f k t is)

pub all_ranges_reported : (ts : List TracedFault) (k : KeptRanges) → AreRangesOf [] k → AreRangesOf ts (fold range_reported k ts)
all_ranges_reported ts k is =
    let h = of_faults ts none_found k (record { last = is.last; kept = is.kept }) in
    record { last = h.last; kept = h.kept }

-- nothing was added
pub none_added : (k : KeptRanges) → k ≡ no_ranges → AreRangesOf [] k
unfolding no_ranges most_starts
none_added k e = subst (AreRangesOf []) (sym e) (record {
  last = refl;
  kept = record { first = refl; others = λ n kind h. nothing kind most_starts n (omega arith); long = length-replicate most_starts no_more };
})
  where
    nothing : (kind : RowsKind) (m n : ℕ) → n < m → count_of kind (slice_index_or (replicate m no_more) n no_more) ≡ 0
    nothing kind m n l = ap (count_of kind) (get_or-replicate m n no_more no_more l) ∙ none kind
      where
        none : (kind : RowsKind) → count_of kind no_more ≡ 0
        none NotReached = refl
        none OnFaulty = refl
        none CutShort = refl

-- the last range is put to the others
pub all_closed : (ts : List TracedFault) (k : KeptRanges) → AreRangesOf ts k → AreAllKept ts (closed k)
all_closed ts k is = subst (λ o. AreAllKept ts (with_last k o)) (sym is.last) (by_last (ranges_found ts).last refl)
  where
    by_last : (o : Option RowRange) → (ranges_found ts).last ≡ o → AreAllKept ts (with_last k o)
    by_last None e = subst (λ l. AreKept l k.kept k.more)
        (sym (append-nil (ranges_found ts).done) ∙ ap (λ o. (ranges_found ts).done ++ option_to_list o) (sym e)) is.kept
    by_last (Some s) e = subst (λ l. AreKept l (range_kept k s).kept (range_kept k s).more)
        (ap (λ o. (ranges_found ts).done ++ option_to_list o) (sym e)) (kept_more (ranges_found ts).done s k is.kept)
