-- The loops over the ranges that are kept, range by range.
use Rattle.std.proofs.Common.{◌≡◌, ℕ, ◌+◌, ◌<◌, ◌≤◌, Bool, true, false, cond, ◌&&◌, ◌||◌, List, [], ◌∷◌, ◌++◌, length, take, get_or, refl, sym, ap, ap₂}
use Rattle.std.proofs.Common.{subst, ◌∙◌, arith}
use Rattle.std.proofs.Common.{append-nil, length-append}
use Rattle.std.specs.Prelude.{filter, nat_lt, ◌==◌}
use Rattle.std.specs.List.{list_any}
use Rattle.std.proofs.Math.Bool.{or-false}
use Rattle.std.proofs.lemmas.Bool.Decides.{nat_tests}
use Rattle.std.proofs.lemmas.List.{take_more}
use Rattle.std.proofs.lemmas.List.Elements.{filter-append}
use Rattle.std.proofs.lemmas.List.Folds.{list_any-append}
use Rattle.dbexplain.specs.KeptLines.{one_if, piece}
use Rattle.dbexplain.proofs.Common.{is_of, is_all, list_text, RowRange, RowsKind}
use Rattle.dbexplain.specs.RowLines.{lead_of, range_text}
use Rattle.dbexplain.proofs.RowLines.{list_more, ten_full, ten_more}

-- those of start k and a kind, among the first i
module _ (k : ℕ) (kind : RowsKind) (xs : List RowRange) (i : ℕ) where
  abbrev pub some_of : ℕ → List RowRange
  some_of n = filter (is_of k kind) (take n xs)

  next : (d : RowRange) → i < length xs → some_of (i + 1) ≡ some_of i ++ filter (is_of k kind) (get_or xs i d ∷ [])
  next d l = ap (filter (is_of k kind)) (take_more xs i d l) ∙ filter-append (is_of k kind) (take i xs) (get_or xs i d ∷ [])

  next_of : (d : RowRange) → i < length xs → is_of k kind (get_or xs i d) ≡ true → some_of (i + 1) ≡ some_of i ++ get_or xs i d ∷ []
  next_of d l e = next d l ∙ ap (λ b. some_of i ++ cond b (get_or xs i d ∷ []) []) e

  next_other : (d : RowRange) → i < length xs → is_of k kind (get_or xs i d) ≡ false → some_of (i + 1) ≡ some_of i
  next_other d l e = next d l ∙ ap (λ b. some_of i ++ cond b (get_or xs i d ∷ []) []) e ∙ append-nil (some_of i)

  -- how many there are
  pub one_counted : (d : RowRange) → i < length xs → is_of k kind (get_or xs i d) ≡ true → length (some_of i) + 1 ≡ length (some_of (i + 1))
  one_counted d l e = sym (ap length (next_of d l e) ∙ length-append (some_of i) (get_or xs i d ∷ []))

  pub none_counted : (d : RowRange) → i < length xs → is_of k kind (get_or xs i d) ≡ false → length (some_of i) ≡ length (some_of (i + 1))
  none_counted d l e = sym (ap length (next_other d l e))

  -- whether one of them is all rows
  pub all_next : (d : RowRange) → i < length xs → (found b : Bool) → found ≡ list_any is_all (some_of i)
      → b ≡ (is_of k kind (get_or xs i d) && is_all (get_or xs i d)) → (found || b) ≡ list_any is_all (some_of (i + 1))
  all_next d l found b e f = ap₂ (λ x y. x || y) e f ∙ by_test (is_of k kind (get_or xs i d)) refl
    where
      by_test : (t : Bool) → is_of k kind (get_or xs i d) ≡ t
          → (list_any is_all (some_of i) || (is_of k kind (get_or xs i d) && is_all (get_or xs i d))) ≡ list_any is_all (some_of (i + 1))
      by_test true e = ap (λ t. list_any is_all (some_of i) || (t && is_all (get_or xs i d))) e
          ∙ sym (ap (list_any is_all) (next_of d l e) ∙ list_any-append is_all (some_of i) (get_or xs i d ∷ [])
          ∙ ap (λ b. list_any is_all (some_of i) || b) (or-false (is_all (get_or xs i d))))
      by_test false e = ap (λ t. list_any is_all (some_of i) || (t && is_all (get_or xs i d))) e
          ∙ or-false (list_any is_all (some_of i)) ∙ sym (ap (list_any is_all) (next_other d l e))

  -- the first ten
  abbrev pub ten : ℕ → List RowRange
  ten n = take 10 (some_of n)

  pub ten_next : (d : RowRange) → i < length xs → (n : ℕ) → n ≡ length (ten i)
      → (list_text kind true (ten i) ++ piece k kind n (get_or xs i d) ≡ list_text kind true (ten (i + 1)))
      × (n + one_if k kind n (get_or xs i d) ≡ length (ten (i + 1)))
  ten_next d l n e = by_room (nat_lt n 10) refl (is_of k kind (get_or xs i d)) refl
    where
      x : RowRange
      x = get_or xs i d

      Goes : Bool → Type 0
      Goes b = (list_text kind true (ten i) ++ cond b (lead_of kind (n == 0) ++ range_text kind x.rowids) [] ≡ list_text kind true (ten (i + 1)))
          × (n + cond b 1 0 ≡ length (ten (i + 1)))

      same : ten i ≡ ten (i + 1) → Goes false
      same f =
          let z : n + 0 ≡ n = omega arith in
          (append-nil (list_text kind true (ten i)) ∙ ap (list_text kind true) f, z ∙ e ∙ ap length f)

      to : (b c : Bool) → b ≡ c → Goes c → Goes b
      to b c f h = subst Goes (sym f) h

      both_false : (t : Bool) → (t && false) ≡ false
      both_false true = refl
      both_false false = refl

      by_room : (r : Bool) → nat_lt n 10 ≡ r → (t : Bool) → is_of k kind x ≡ t → Goes (nat_lt n 10 && is_of k kind x)
      by_room false f t h =
          let full : 10 ≤ length (ten i) = grind (arith, nat_tests, f, e) in
          to _ false (ap (λ r. r && is_of k kind x) f) (same (sym (ap (take 10) (next d l) ∙ ten_full (some_of i) _ full)))
      by_room true f false h = to _ false (ap (λ t. nat_lt n 10 && t) h ∙ both_false (nat_lt n 10)) (same (sym (ap (take 10) (next_other d l h))))
      by_room true f true h =
          let few : length (ten i) < 10 = grind (arith, nat_tests, f, e) in
          let more : ten (i + 1) ≡ ten i ++ x ∷ [] = ap (take 10) (next_of d l h) ∙ ten_more (some_of i) x few in
          let a = length-append (ten i) (x ∷ []) in
          to _ true (ap₂ (λ r t. r && t) f h) (
            ap (λ m. list_text kind true (ten i) ++ (lead_of kind (m == 0) ++ range_text kind x.rowids)) e
                ∙ sym (list_more kind (ten i) x) ∙ ap (list_text kind true) (sym more),
            ap (λ m. m + 1) e ∙ sym (ap length more ∙ a),
          )
