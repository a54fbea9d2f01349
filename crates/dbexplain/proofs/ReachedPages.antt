-- A tally with one page more.
use Rattle.std.proofs.Common.{◌≡◌, ℕ, ◌+◌, ◌-◌, ◌^◌, ◌<◌, ◌≤◌, Bool, true, false, cond, ◌&&◌, List, min, Option, Some, None, refl, sym, ap, ap₂, ◌∙◌, arith}
use Rattle.std.specs.Prelude.{count_by, ◌==◌}
use Rattle.std.specs.List.{range_with_len}
use Rattle.std.specs.Option.{option_map_or}
use Rattle.std.proofs.lemmas.List.FromFn.{length-range_with_len}
use Rattle.std.proofs.lemmas.List.Sums.{count_by-le-length}
use Rattle.dbformat.specs.FixedPages.{most_pages}
use Rattle.dbexplain.proofs.Common.{counted, Reference, TracedFault, has_bit, Tallied, IsTallyTo, counted_start, no_count}
use Rattle.dbsurvey.proofs.Ranges.{count_push}
use Rattle.dbformat.specs.Starts.{start_at}
use Rattle.dbexplain.specs.Summary.{start_count, is_reached, is_reported}
use Rattle.dbexplain.specs.Tallies.{one_reached_page, page_reached}
use Rattle.dbexplain.proofs.Tallies.{slot}

-- ---- counts along a range

pub at_most : (p : ℕ → Bool) (a n : ℕ) → count_by p (range_with_len a n) ≤ n
at_most p a n = let b = count_by-le-length p (range_with_len a n) in let l = length-range_with_len a n in omega (arith, b, l)

capped : (n m : ℕ) → n < most_pages → m ≡ n + 1 → min (n + 1) (2 ^ 32 - 1) ≡ m
capped n m l e = omega arith

module _ (V : List Reference) (ts : List TracedFault) (n : ℕ) (few : n < most_pages) where
  abbrev p : ℕ
  p = n + 1

  abbrev both : ℕ → ℕ → Bool
  both k q = is_reached V k q && is_reported ts q

  more : (f : ℕ → Bool) → count_by f (range_with_len 1 (n + 1)) ≡ count_by f (range_with_len 1 n) + cond (f p) 1 0
  more f = count_push f 1 n p (omega arith)

  -- where the page was not reached from start k
  same_start : (k : ℕ) → is_reached V k p ≡ false → counted_start V ts n k ≡ counted_start V ts (n + 1) k
  same_start k off =
      let a : count_by (is_reached V k) (range_with_len 1 n) ≡ count_by (is_reached V k) (range_with_len 1 (n + 1)) =
      sym (more (is_reached V k) ∙ ap (λ b. count_by (is_reached V k) (range_with_len 1 n) + cond b 1 0) off
      ∙ none (count_by (is_reached V k) (range_with_len 1 n))) in
      let b : count_by (both k) (range_with_len 1 n) ≡ count_by (both k) (range_with_len 1 (n + 1)) =
      sym (more (both k) ∙ ap (λ b. count_by (both k) (range_with_len 1 n) + cond (b && is_reported ts p) 1 0) off
      ∙ none (count_by (both k) (range_with_len 1 n)))
      in
      ap₂ (λ x y. record { faults = counted (start_count ts k); reached = x; faulty = y }) a b
    where
      none : (m : ℕ) → m + 0 ≡ m
      none m = omega arith

  -- where it was
  next_start : (k : ℕ) → is_reached V k p ≡ true → one_reached_page (is_reported ts p) (counted_start V ts n k) ≡ counted_start V ts (n + 1) k
  next_start k on = ap₂ (λ x y. record { faults = counted (start_count ts k); reached = x; faulty = y }) reached (faulty (is_reported ts p) refl)
    where
      reached : min (count_by (is_reached V k) (range_with_len 1 n) + 1) (2 ^ 32 - 1) ≡ count_by (is_reached V k) (range_with_len 1 (n + 1))
      reached =
          let l = at_most (is_reached V k) 1 n in
          capped (count_by (is_reached V k) (range_with_len 1 n)) (count_by (is_reached V k) (range_with_len 1 (n + 1))) (omega (arith, l, few))
          (more (is_reached V k) ∙ ap (λ b. count_by (is_reached V k) (range_with_len 1 n) + cond b 1 0) on)

      faulty : (b : Bool) → is_reported ts p ≡ b
          → min (count_by (both k) (range_with_len 1 n) + cond b 1 0) (2 ^ 32 - 1) ≡ count_by (both k) (range_with_len 1 (n + 1))
      faulty b e =
          let l = at_most (both k) 1 n in
          let m = more (both k) ∙ ap₂ (λ a b. count_by (both k) (range_with_len 1 n) + cond (a && b) 1 0) on e in by_case b l m
        where
          by_case : (b : Bool) → count_by (both k) (range_with_len 1 n) ≤ n
              → count_by (both k) (range_with_len 1 (n + 1)) ≡ count_by (both k) (range_with_len 1 n) + cond b 1 0
              → min (count_by (both k) (range_with_len 1 n) + cond b 1 0) (2 ^ 32 - 1) ≡ count_by (both k) (range_with_len 1 (n + 1))
          by_case true l m = omega (arith, l, m, few)
          by_case false l m = omega (arith, l, m, few)

  pub page_more : (pages : ℕ) (t : Tallied) → IsTallyTo pages V ts n t → p ≤ pages → IsTallyTo pages V ts (n + 1) (page_reached (start_at V p) p t)
  page_more pages t is within = by_start (start_at V p) refl
    where
      by_start : (o : Option ℕ) → start_at V p ≡ o → IsTallyTo pages V ts (n + 1) (page_reached o p t)
      by_start None e = record {
        all = is.all;
        codes = is.codes;
        starts = λ k l. is.starts k l ∙ ap Some (same_start k (ap (λ o. option_map_or (λ j. j == k) o false) e));
        whole = is.whole;
        room = is.room;
        bits = is.bits;
      }
      by_start (Some j) e = record {
        all = is.all;
        codes = is.codes;
        starts = λ k l. slot t.starts j k no_count (one_reached_page (has_bit t.pages p)) _ _ (is.starts k l)
            (λ h. ap (λ b. one_reached_page b (counted_start V ts n k)) (is.bits p within) ∙ next_start k (reached_is k ∙ h))
            (λ h. same_start k (reached_is k ∙ h));
        whole = is.whole;
        room = is.room;
        bits = is.bits;
      }
        where
          reached_is : (k : ℕ) → is_reached V k p ≡ (j == k)
          reached_is k = ap (λ o. option_map_or (λ j. j == k) o false) e
