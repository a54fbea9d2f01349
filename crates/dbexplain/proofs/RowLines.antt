-- The lines of rows by what is kept of their ranges.
use Rattle.std.proofs.Common.{◌≡◌, ℕ, suc, ◌+◌, ◌-◌, ◌<◌, ◌≤◌, Bool, true, false, cond, not, ◌&&◌, List, [], ◌∷◌, ◌++◌, length, take, refl, sym, ap, ap₂}
use Rattle.std.proofs.Common.{◌∙◌, arith, append-nil, append_assoc, length-append}
use Rattle.std.specs.Prelude.{codes, decimal, filter, nat_lt, ◌==◌}
use Rattle.std.specs.List.{list_any}
use Rattle.std.proofs.lemmas.Bool.Decides.{nat_tests}
use Rattle.std.proofs.lemmas.List.{length-take, take-append-le, take_all}
use Rattle.dbexplain.proofs.Common.{freelist_start, counted, line_feed, TracedFault, AreAllKept, KeptRanges, is_of, is_all, list_text, RowRange, RowsKind}
use Rattle.dbexplain.proofs.Common.{NotReached, OnFaulty, CutShort}
use Rattle.dbexplain.specs.KeptLines.{kept_line, kept_text, piece}
use Rattle.dbexplain.specs.Ranges.{other_ranges}
use Rattle.dbexplain.specs.RowLines.{and_more, kind_line, lead_of, range_text, rows_line, rows_text, words_of}

-- ---- counts that stop

is_zero : (n : ℕ) → (counted n == 0) ≡ (n == 0)
is_zero n = grind (arith, nat_tests)

sum_zero : (m n : ℕ) → ((m + counted n) == 0) ≡ ((m + n) == 0)
sum_zero m n = grind (arith, nat_tests)

sum_same : (m n : ℕ) → counted (m + counted n) ≡ counted (m + n)
sum_same m n = omega arith

more_same : (some : Bool) (m n : ℕ) → and_more some (m + counted n) ≡ and_more some (m + n)
more_same some m n = ap₂ (λ b k. cond b [] (cond some (codes " and ") [] ++ decimal k ++ codes " more")) (sum_zero m n) (sum_same m n)

line_same : (kind : RowsKind) (rs : List RowRange) (n : ℕ) → rows_line kind rs (counted n) ≡ rows_line kind rs n
line_same kind rs n = ap₂ (λ b w. cond ((length rs == 0) && b) []
    (codes "        " ++ words_of kind ++ cond (list_any is_all rs) (codes "all rows") (list_text kind true (take 10 rs) ++ w) ++ line_feed ∷ []))
    (is_zero n) (more_same (not (length rs == 0)) (length rs - 10) n)

-- ---- by what is kept

pub kept_lines : (ts : List TracedFault) (r : KeptRanges) → AreAllKept ts r → (k : ℕ) → k ≤ freelist_start → kept_text r k ≡ rows_text ts k
kept_lines ts r is k l = ap₂ (λ a b. a ++ b) (ap₂ (λ a b. a ++ b) (of_kind NotReached) (of_kind OnFaulty)) (of_kind CutShort)
  where
    of_kind : (kind : RowsKind) → kept_line r k kind ≡ kind_line ts k kind
    of_kind kind = ap₂ (λ rs n. rows_line kind (filter (is_of k kind) rs) n) is.first (is.others k kind l)
        ∙ line_same kind _ (other_ranges ts k kind)

-- ---- one range more

after_some : (kind : RowsKind) (xs : List RowRange) (x : RowRange)
    → list_text kind false (xs ++ x ∷ []) ≡ list_text kind false xs ++ (lead_of kind false ++ range_text kind x.rowids)
after_some kind [] x = append-nil (lead_of kind false ++ range_text kind x.rowids)
after_some kind (y ∷ ys) x =
    ap (λ l. lead_of kind false ++ range_text kind y.rowids ++ l) (after_some kind ys x)
    ∙ sym (append_assoc (lead_of kind false ++ range_text kind y.rowids) (list_text kind false ys) (lead_of kind false ++ range_text kind x.rowids))

pub list_more : (kind : RowsKind) (xs : List RowRange) (x : RowRange)
    → list_text kind true (xs ++ x ∷ []) ≡ list_text kind true xs ++ (lead_of kind (length xs == 0) ++ range_text kind x.rowids)
list_more kind [] x = append-nil (lead_of kind true ++ range_text kind x.rowids)
list_more kind (y ∷ ys) x =
    ap (λ l. lead_of kind true ++ range_text kind y.rowids ++ l) (after_some kind ys x)
    ∙ sym (append_assoc (lead_of kind true ++ range_text kind y.rowids) (list_text kind false ys) (lead_of kind false ++ range_text kind x.rowids))
    ∙ ap (λ b. list_text kind true (y ∷ ys) ++ (lead_of kind b ++ range_text kind x.rowids)) (some (length ys))
  where
    some : (n : ℕ) → false ≡ (suc n == 0)
    some n = grind (arith, nat_tests)

-- of the first ten
pub ten_more : (xs : List RowRange) (x : RowRange) → length (take 10 xs) < 10 → take 10 (xs ++ x ∷ []) ≡ take 10 xs ++ x ∷ []
ten_more xs x l =
    let n = length-take 10 xs in
    let few : length xs < 10 = omega (arith, n, l) in
    let a = length-append xs (x ∷ []) in
    take_all 10 (xs ++ x ∷ []) (omega (arith, few, a)) ∙ ap (λ ys. ys ++ x ∷ []) (sym (take_all 10 xs (omega (arith, few))))

pub ten_full : (xs ys : List RowRange) → 10 ≤ length (take 10 xs) → take 10 (xs ++ ys) ≡ take 10 xs
ten_full xs ys l =
    let n = length-take 10 xs in
    let many : 10 ≤ length xs = omega (arith, n, l) in take-append-le 10 xs ys many

-- ---- one range, and one line

pub wanted_piece : (k : ℕ) (kind : RowsKind) (n : ℕ) (r : RowRange) → n < 10 → is_of k kind r ≡ true
    → lead_of kind (n == 0) ++ range_text kind r.rowids ≡ piece k kind n r
wanted_piece k kind n r l e =
    let room : nat_lt n 10 ≡ true = grind (arith, nat_tests, l) in
    sym (ap₂ (λ a b. cond (a && b) (lead_of kind (n == 0) ++ range_text kind r.rowids) []) room e)

pub more_capped : (some : Bool) (n : ℕ) → and_more some (counted n) ≡ and_more some n
more_capped some n = ap₂ (λ b k. cond b [] (cond some (codes " and ") [] ++ decimal k ++ codes " more")) (is_zero n) (twice n)
  where
    twice : (n : ℕ) → counted (counted n) ≡ counted n
    twice n = omega arith

pub some_is : (n : ℕ) → nat_lt 0 n ≡ not (n == 0)
some_is n = grind (arith, nat_tests)

abbrev pub IsSome : ℕ → ℕ → Type 0
IsSome n others = ((n == 0) && (others == 0)) ≡ false

pub some_by_count : (n others : ℕ) → (n ≡ 0 → ⊥) → IsSome n others
some_by_count n others h = let none : (n == 0) ≡ false = grind (arith, nat_tests, h) in ap (λ b. b && (others == 0)) none

pub some_by_others : (n others : ℕ) → (others ≡ 0 → ⊥) → IsSome n others
some_by_others n others h =
    let none : (others == 0) ≡ false = grind (arith, nat_tests, h) in ap (λ b. (n == 0) && b) none ∙ both (n == 0)
  where
    both : (b : Bool) → (b && false) ≡ false
    both true = refl
    both false = refl

abbrev pub line_front : RowsKind → List ℕ
line_front kind = codes "        " ++ words_of kind

module _ (kind : RowsKind) (rs : List RowRange) (others : ℕ) (some : IsSome (length rs) others) where
  abbrev body : Bool → List ℕ
  body b = line_front kind ++ cond b (codes "all rows")
      (list_text kind true (take 10 rs) ++ and_more (not (length rs == 0)) ((length rs - 10) + others)) ++ line_feed ∷ []

  shown : (b : Bool) → list_any is_all rs ≡ b → body b ≡ rows_line kind rs others
  shown b e = ap body (sym e) ∙ sym (ap (λ t. cond t [] (body (list_any is_all rs))) some)

  pub all_line : list_any is_all rs ≡ true → line_front kind ++ codes "all rows\n" ≡ rows_line kind rs others
  all_line e = sym (append_assoc (line_front kind) (codes "all rows") (line_feed ∷ [])) ∙ shown true e

  pub list_line : list_any is_all rs ≡ false → (more : ℕ) → more ≡ counted ((length rs - 10) + others) → (b : Bool) → b ≡ not (length rs == 0)
      → line_front kind ++ list_text kind true (take 10 rs) ++ and_more b more ++ codes "\n" ≡ rows_line kind rs others
  list_line e more m b f =
      ap₂ (λ w v. line_front kind ++ list_text kind true (take 10 rs) ++ and_more w v ++ codes "\n") f m
      ∙ ap (λ w. line_front kind ++ list_text kind true (take 10 rs) ++ w ++ codes "\n") (more_capped (not (length rs == 0)) ((length rs - 10) + others))
      ∙ ap (λ w. w ++ line_feed ∷ []) (append_assoc (line_front kind) (list_text kind true (take 10 rs))
      (and_more (not (length rs == 0)) ((length rs - 10) + others)))
      ∙ shown false e
