-- What marks count, one more at a time.
use Rattle.dbscan.proofs.Common.{◌≡◌, ℕ, ◌+◌, ◌<◌, ◌≤◌, Bool, cond, max, List, [], ◌∷◌, ◌++◌, length, take, filter, get_or, Some, None, sym, ap, ◌∙◌}
use Rattle.dbscan.proofs.Common.{arith, count_by, fold, find, slice_get, Mark, Unmarked, page_mark, is_marked, range_with_len, nat_tests, option_or, map-id}
use Rattle.dbscan.proofs.Common.{slice_get_within, get_or_from_slice_get, filter-append}
use Rattle.std.proofs.lemmas.List.Sums.{count_by_more_yes, count_by_more_no, fold-append}
use Rattle.std.proofs.lemmas.List.Folds.{find-append}
use Rattle.std.proofs.lemmas.List.FromFn.{map-range_with_len_more}

pub numbers_more : (n : ℕ) → range_with_len 1 (n + 1) ≡ range_with_len 1 n ++ ((n + 1) ∷ [])
numbers_more n =
    let a : 1 + n ≡ n + 1 = omega arith in
    sym (map-id (range_with_len 1 (n + 1))) ∙ map-range_with_len_more (λ k. k) 1 n (n + 1) a ∙ ap (λ l. l ++ ((n + 1) ∷ [])) (map-id (range_with_len 1 n))

pub got : {X : Type 0} (xs : List X) (i : ℕ) (x d : X) → slice_get xs i ≡ Some x → (i < length xs) × (get_or xs i d ≡ x)
got xs i x d h = (slice_get_within xs i x h, get_or_from_slice_get xs i x d h)

pub marked_at : (marks : List Mark) (i : ℕ) (mark : Mark) → page_mark marks (i + 1) ≡ Some mark → slice_get marks i ≡ Some mark
marked_at marks i mark h = grind (arith, nat_tests)

pub count_more : (test : Mark → Bool) (marks : List Mark) (i : ℕ) (mark : Mark) → page_mark marks (i + 1) ≡ Some mark
    → count_by test (take (i + 1) marks) ≡ count_by test (take i marks) + cond (test mark) 1 0
count_more test marks i mark h =
    let k = got marks i mark Unmarked (marked_at marks i mark h) in
    grind (arith, count_by_more_yes, count_by_more_no)

pub greatest_more : (test : Mark → Bool) (marks : List Mark) (i : ℕ) (mark : Mark) → page_mark marks (i + 1) ≡ Some mark
    → cond (test mark) (max (fold max 1 (filter (is_marked test marks) (range_with_len 1 i))) (i + 1))
    (fold max 1 (filter (is_marked test marks) (range_with_len 1 i)))
    ≡ fold max 1 (filter (is_marked test marks) (range_with_len 1 (i + 1)))
greatest_more test marks i mark h = let more = numbers_more i in grind (arith, filter-append, fold-append)

pub least_more : (test : Mark → Bool) (marks : List Mark) (i : ℕ) (mark : Mark) → page_mark marks (i + 1) ≡ Some mark
    → option_or (find (is_marked test marks) (range_with_len 1 i)) (cond (test mark) (Some (i + 1)) None)
    ≡ find (is_marked test marks) (range_with_len 1 (i + 1))
least_more test marks i mark h = let more = numbers_more i in grind (arith, find-append)

pub bit_most : (b : Bool) (n : ℕ) → n ≡ cond b 1 0 → n ≤ 1
bit_most b n h = grind arith
