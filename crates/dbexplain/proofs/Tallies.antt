-- A tally with one fault more.
use Rattle.std.proofs.Common.{◌≡◌, ℕ, zero, suc, ◌+◌, ◌*◌, ◌/◌, ◌<◌, Bool, true, false, ◌||◌, List, [], ◌∷◌, ◌++◌, length, replicate, Some}
use Rattle.std.proofs.Common.{refl, sym, ap, subst, ◌∙◌, arith, length-append, append-nil, append_assoc}
use Rattle.std.specs.Prelude.{count_by, fold, not, ◌&&◌, slice_get, slice_set, slice_index_or, ◌==◌}
use Rattle.std.proofs.Math.Bool.{or-false}
use Rattle.std.proofs.Math.ListN.{length-set}
use Rattle.std.proofs.lemmas.Bool.{eqb-true}
use Rattle.std.proofs.lemmas.Bool.Decides.{nat_tests}
use Rattle.std.proofs.lemmas.List.Folds.{list_any-append}
use Rattle.std.proofs.lemmas.Option.{get_or_from_slice_get, slice_get_within}
use Rattle.dbsurvey.proofs.Lists.{count-append}
use Rattle.dbexplain.proofs.Common.{all_codes, counted, FaultCode, Part, TracedFault, most_starts, has_bit, is_part_of_start, Tallied, IsTallyOf, counted_start}
use Rattle.dbexplain.proofs.Common.{no_count}
use Rattle.dbformat.specs.Codes.{is_code, code_index}
use Rattle.dbformat.proofs.CodeTables.{apart, listed}
use Rattle.dbformat.specs.declared.Fault.{Fault}
use Rattle.dbtrace.specs.declared.Cause.{Cause}
use Rattle.dbtrace.specs.declared.Part.TheVariants as part
use Rattle.dbscan.proofs.Slots.{get_set, get_set_other}
use Rattle.dbinjuries.specs.Bits.{bit_set}
use Rattle.dbexplain.specs.Summary.{code_count, is_reported, is_whole}
use Rattle.dbexplain.specs.Tallies.{one_fault, fault_reported}
use Rattle.dbinjuries.proofs.Bits.{set_is}

-- ---- counts

-- number k of some counts, where number j is changed
pub slot : {X : Type 0} (xs : List X) (j k : ℕ) (d : X) (f : X → X) (a b : X) → slice_get xs k ≡ Some a
    → ((j == k) ≡ true → f a ≡ b) → ((j == k) ≡ false → a ≡ b)
    → slice_get (slice_set xs j (f (slice_index_or xs j d))) k ≡ Some b
slot xs j k d f a b at on off = by_case (j == k) refl
  where
    by_case : (t : Bool) → (j == k) ≡ t → slice_get (slice_set xs j (f (slice_index_or xs j d))) k ≡ Some b
    by_case true e =
        let same : j ≡ k = eqb-true j k e in
        let here : slice_get xs j ≡ Some a = ap (slice_get xs) same ∙ at in
        ap (slice_get (slice_set xs j (f (slice_index_or xs j d)))) (sym same)
        ∙ get_set xs j (f (slice_index_or xs j d)) (slice_get_within xs j a here)
        ∙ ap (λ c. Some (f c)) (get_or_from_slice_get xs j a d here)
        ∙ ap Some (on e)
    by_case false e =
        get_set_other xs j k (f (slice_index_or xs j d)) (λ q. let t : (j == k) ≡ true = grind (arith, nat_tests) in cc) ∙ at ∙ ap Some (off e)

module _ (pages : ℕ) (ts : List TracedFault) (f : Fault) (why : Cause) (t : Tallied) (is : IsTallyOf pages ts t) where
  abbrev one : Part → TracedFault
  one p = record { part = p; fault = f; cause = why }

  abbrev with : Part → List TracedFault
  with p = ts ++ one p ∷ []

  -- a count that stays, and one that goes up
  stays : (test : TracedFault → Bool) (p : Part) → test (one p) ≡ false → counted (count_by test ts) ≡ counted (count_by test (with p))
  stays test p e =
      let a = count-append test ts (one p ∷ []) in
      let b : count_by test (one p ∷ []) ≡ 0 = rw e refl in omega (arith, a, b)

  rises : (test : TracedFault → Bool) (p : Part) → test (one p) ≡ true → counted (counted (count_by test ts) + 1) ≡ counted (count_by test (with p))
  rises test p e =
      let a = count-append test ts (one p ∷ []) in
      let b : count_by test (one p ∷ []) ≡ 1 = rw e refl in omega (arith, a, b)

  all_more : (p : Part) → counted (t.all + 1) ≡ counted (length (with p))
  all_more p = let e = is.all in let l = length-append ts (one p ∷ []) in omega (arith, e, l)

  codes_more : (p : Part) (c : FaultCode) → slice_get (fault_reported t (one p)).codes (code_index c) ≡ Some (counted (code_count (with p) c))
  codes_more p c = by_part p
    where
      here : slice_get (slice_set t.codes (code_index f.code) (counted (slice_index_or t.codes (code_index f.code) 0 + 1))) (code_index c)
          ≡ Some (counted (code_count (with p) c))
      here = slot t.codes (code_index f.code) (code_index c) 0 (λ n. counted (n + 1)) _ _ (is.codes c)
          (λ e. rises (λ (t : TracedFault). is_code t.fault.code c) p (apart f.code c ∙ e))
          (λ e. stays (λ (t : TracedFault). is_code t.fault.code c) p (apart f.code c ∙ e))

      by_part : (q : Part) → slice_get (fault_reported t (one q)).codes (code_index c) ≡ Some (counted (code_count (with p) c))
      by_part part.Header = here
      by_part (part.Start j) = here
      by_part part.End = here

  -- pages of faults that were reported at starts
  any_more : (p : Part) (q : ℕ) → is_reported (with p) q ≡ (is_reported ts q || (not (is_whole p) && (f.page == q)))
  any_more p q =
      list_any-append (λ (t : TracedFault). not (is_whole t.part) && (t.fault.page == q)) ts (one p ∷ [])
      ∙ ap (λ b. is_reported ts q || b) (or-false (not (is_whole p) && (f.page == q)))

  pub reported_more : (p : Part) → IsTallyOf pages (with p) (fault_reported t (one p))
  reported_more part.Header = record {
    all = all_more part.Header;
    codes = codes_more part.Header;
    starts = λ k l. is.starts k l ∙ ap (λ n. Some (record { faults = n; reached = 0; faulty = 0 }))
        (stays (λ (t : TracedFault). is_part_of_start k t.part) part.Header refl);
    whole = ap (λ n. counted (n + 1)) is.whole ∙ rises (λ (t : TracedFault). is_whole t.part) part.Header refl;
    room = is.room;
    bits = λ q l. is.bits q l ∙ sym (any_more part.Header q ∙ or-false (is_reported ts q));
  }
  reported_more part.End = record {
    all = all_more part.End;
    codes = codes_more part.End;
    starts = λ k l. is.starts k l ∙ ap (λ n. Some (record { faults = n; reached = 0; faulty = 0 }))
        (stays (λ (t : TracedFault). is_part_of_start k t.part) part.End refl);
    whole = ap (λ n. counted (n + 1)) is.whole ∙ rises (λ (t : TracedFault). is_whole t.part) part.End refl;
    room = is.room;
    bits = λ q l. is.bits q l ∙ sym (any_more part.End q ∙ or-false (is_reported ts q));
  }
  reported_more (part.Start j) = record {
    all = all_more (part.Start j);
    codes = codes_more (part.Start j);
    starts = λ k l. slot t.starts j k no_count one_fault (counted_start [] ts 0 k) (counted_start [] (with (part.Start j)) 0 k) (is.starts k l)
        (λ e. ap (λ n. record { faults = n; reached = 0; faulty = 0 }) (rises (λ (t : TracedFault). is_part_of_start k t.part) (part.Start j) e))
        (λ e. ap (λ n. record { faults = n; reached = 0; faulty = 0 }) (stays (λ (t : TracedFault). is_part_of_start k t.part) (part.Start j) e));
    whole = is.whole ∙ stays (λ (t : TracedFault). is_whole t.part) (part.Start j) refl;
    room = let l : length (bit_set f.page t.pages) ≡ length t.pages = length-set t.pages (f.page / 64) _ in let h = is.room in omega (arith, l, h);
    bits = λ q l. set_is t.pages f.page q (let h = is.room in omega (arith, h, l)) ∙ ap (λ b. b || (f.page == q)) (is.bits q l)
        ∙ sym (any_more (part.Start j) q);
  }

-- fault after fault
pub all_reported : (pages : ℕ) (xs ts : List TracedFault) (t : Tallied) → IsTallyOf pages ts t → IsTallyOf pages (ts ++ xs) (fold fault_reported t xs)
all_reported pages [] ts t is = subst (λ l. IsTallyOf pages l t) (sym (append-nil ts)) is
all_reported pages (x ∷ xs) ts t is =
    subst (λ l. IsTallyOf pages l (fold fault_reported (fault_reported t x) xs)) (append_assoc ts (x ∷ []) xs)
    (all_reported pages xs (ts ++ x ∷ []) (fault_reported t x) (reported_more pages ts x.fault x.cause t is x.part))

pub none_reported : {X : Type 0} (n k : ℕ) (c : X) → k < n → slice_get (replicate n c) k ≡ Some c
none_reported (suc n) zero c l = refl
none_reported (suc n) (suc k) c l = none_reported n k c (omega arith)
none_reported zero k c l = absurd (let f : ⊥ = omega arith in f)

-- where no fault was reported
pub nothing_reported : (pages : ℕ) (t : Tallied) → t.all ≡ 0 → t.codes ≡ replicate 35 0 → t.starts ≡ replicate most_starts no_count → t.whole ≡ 0
    → pages < 64 * length t.pages → ((p : ℕ) → has_bit t.pages p ≡ false) → IsTallyOf pages [] t
unfolding most_starts
nothing_reported pages t all codes starts whole room none = record {
  all = all;
  codes = λ c. ap (λ ns. slice_get ns (code_index c)) codes ∙ none_reported 35 (code_index c) 0 (slice_get_within all_codes (code_index c) c (listed c));
  starts = λ k l. ap (λ xs. slice_get xs k) starts ∙ none_reported most_starts k no_count (omega arith);
  whole = whole;
  room = room;
  bits = λ p l. none p;
}
