-- The summary by the counts of a tally is that of a file.
use Rattle.std.proofs.Common.{◌≡◌, ℕ, zero, suc, ◌+◌, ◌-◌, ◌<◌, ◌≤◌, inl, inr, Bool, true, false, cond, not, ◌&&◌, ◌||◌, Option, List, [], ◌∷◌, ◌++◌}
use Rattle.std.proofs.Common.{length, map, take}
use Rattle.std.proofs.Common.{refl, sym, ap, ap₂, subst, ◌∙◌, arith, append-nil, append_assoc}
use Rattle.std.specs.Prelude.{codes, decimal, unwrap_or, count_by, filter, fold, min, nat_le, ◌==◌}
use Rattle.std.specs.List.{enumerate_from, flat_map, list_any, range_with_len}
use Rattle.std.proofs.lemmas.Bool.{eqb-true}
use Rattle.std.proofs.lemmas.Bool.Decides.{nat_tests}
use Rattle.std.proofs.lemmas.Grind.{flat_map-append}
use Rattle.std.proofs.lemmas.List.{take_all}
use Rattle.std.proofs.lemmas.Option.{get_or_from_slice_get}
use Rattle.dbsurvey.specs.Address.{IsIn}
use Rattle.dbsurvey.specs.Survey.{Link}
use Rattle.dbsurvey.proofs.Elements.{IsIn-from_range}
use Rattle.dbsurvey.proofs.Lists.{count_more, count_none}
use Rattle.dbsurvey.proofs.Order.{IsIn-cases}
use Rattle.dbsurvey.proofs.Ordering.{IsIn-from_map}
use Rattle.dbexplain.proofs.Common.{freelist_start, all_codes, geometry, encoding, first_trunk, counted, line_feed, Reference, schema, later_starts, starts}
use Rattle.dbexplain.proofs.Common.{SchemaRow, Survey, FaultCode, Encoding, Geometry, HeaderBytes, IsHeaderOf, Part, TracedFault, reported_faults, indented}
use Rattle.dbexplain.proofs.Common.{has_bit, count_text, is_of_kind, is_part_of_start, start_name, summary, AreIndexes, AreAllKept, KeptRanges, stat_rows}
use Rattle.dbexplain.proofs.Common.{code_sum, numbered_sum, rows_sum, start_sum, Tallied, IsTallyTo, count_at, counted_start, no_count, StartCount}
use Rattle.dbformat.specs.Address.{last_root_start}
use Rattle.dbformat.specs.Codes.{code_index}
use Rattle.dbformat.specs.Lines.{code_text, code_words}
use Rattle.dbformat.specs.Reference.{Way, trunk}
use Rattle.dbformat.specs.Schema.{schema_link, start, root_start, rooted_rows, freelist_starts}
use Rattle.dbformat.proofs.HeaderPrefix.{encoding_within}
use Rattle.dbformat.proofs.SchemaStart.{schema_below}
use Rattle.dbscan.specs.Roots.{AreListed, listed_rows}
use Rattle.dbtrace.specs.declared.Part.TheVariants as part
use Rattle.dbformat.proofs.BelowStarts.{before_freelist, rows_start}
use Rattle.dbformat.proofs.Rising.{rows_end}
use Rattle.dbscan.proofs.Reached.{of_starts}
use Rattle.dbinjuries.specs.Kept.{no_runs, run_added}
use Rattle.dbinjuries.specs.Zeros.{AreZeros, zero_pages}
use Rattle.dbinjuries.specs.declared.page_runs.PageRuns.{PageRuns}
use Rattle.dbinjuries.proofs.Belonging.{runs_kept}
use Rattle.dbexplain.specs.Summary.{aligned, code_count, code_line, faulty_pages}
use Rattle.dbexplain.specs.Summary.{has_rowids, is_index_start, rows_below}
use Rattle.dbexplain.specs.Summary.{faulty_pages_text, reached_pages, start_count, start_sum_line, sum_line, trees_text}
use Rattle.dbexplain.specs.Summary.{whole_count, whole_line, whole_trees, zero_runs_text, zeros_text}
use Rattle.dbexplain.specs.Indexes.{is_index_page}
use Rattle.dbexplain.specs.KeptLines.{kept_text}
use Rattle.dbexplain.proofs.RowLines.{kept_lines}
use Rattle.dbexplain.specs.Sums.{last_sum, summary_by, trees_by, zeros_sum}

-- ---- counts that stop

twice : (n : ℕ) → counted (counted n) ≡ counted n
twice n = omega arith

is_zero : (n : ℕ) → (counted n == 0) ≡ (n == 0)
is_zero n = grind (arith, nat_tests)

is_one : (n : ℕ) → (counted n == 1) ≡ (n == 1)
is_one n = grind (arith, nat_tests)

sum_same : (a n : ℕ) (t : List ℕ) → sum_line (counted a) (counted n) t ≡ sum_line a n t
sum_same a n t =
    ap (λ b. cond b [] (indented (aligned (counted (counted a)) (counted (counted n)) ++ codes " " ++ t))) (is_zero n)
    ∙ ap₂ (λ x y. cond (n == 0) [] (indented (aligned x y ++ codes " " ++ t))) (twice a) (twice n)

count_same : (n : ℕ) → count_text (counted n) ≡ count_text n
count_same n =
    ap (λ b. decimal (counted (counted n)) ++ cond b (codes " fault") (codes " faults") ++ line_feed ∷ []) (is_one n)
    ∙ ap (λ x. decimal x ++ cond (n == 1) (codes " fault") (codes " faults") ++ line_feed ∷ []) (twice n)

-- ---- counts of a list

same_counts : {X : Type 0} (f g : X → Bool) (xs : List X) → ((x : X) → IsIn x xs → f x ≡ g x) → count_by f xs ≡ count_by g xs
same_counts f g [] h = refl
same_counts f g (x ∷ xs) h =
    count_more f x xs ∙ ap₂ (λ b n. cond b 1 0 + n) (h x (inl refl)) (same_counts f g xs (λ y i. h y (inr i))) ∙ sym (count_more g x xs)

-- ---- tests

start_is : (k : ℕ) (p : Part) → is_part_of_start k p ≡ true → p ≡ part.Start k
start_is k part.Header e = cc
start_is k (part.Start j) e = ap part.Start (eqb-true j k e)
start_is k part.End e = cc

at_most : (k n : ℕ) → k < n → k ≤ n
at_most k n h = omega arith

room : (k n : ℕ) → 1 + k ≤ n → 0 + suc k ≤ n
room k n h = omega arith

module _ (file : List ℕ) (V : List Reference) (s : Survey file V) where
  abbrev ts : List TracedFault
  ts = reported_faults file V

  abbrev n : ℕ
  n = (geometry file).pages

  abbrev name : ℕ → List ℕ
  name = start_name (encoding file) (listed_rows file V)

  line_same : (k : ℕ) (below : List ℕ) → below ≡ rows_below file V ts k
      → start_sum (counted (length ts)) (name k) (counted_start V ts n k) ++ cond (counted (start_count ts k) == 0) [] below ≡ start_sum_line file V ts k
  line_same k below e = ap₂ (λ a b. a ++ b)
      (sum_same (length ts) (start_count ts k) (codes "in " ++ name k ++ faulty_pages_text (faulty_pages file V ts k) (reached_pages file V k)))
      (ap₂ (λ b w. cond b [] w) (is_zero (start_count ts k)) e)

  rows_lines : (k : ℕ) (rows : List SchemaRow)
      → flat_map (λ (l : Link Way). start_sum_line file V ts l.step) (map (root_start file) (enumerate_from k rows))
      ≡ flat_map (start_sum_line file V ts) (range_with_len k (length rows))
  rows_lines k [] = refl
  rows_lines k (row ∷ rows) = ap (λ w. start_sum_line file V ts k ++ w) (rows_lines (k + 1) rows)

  few : 1 + length (listed_rows file V) ≤ freelist_start
  few = rows_end (rooted_rows (schema file V))

  abbrev rows : List SchemaRow
  rows = listed_rows file V

  -- the starts of a file, by its rows
  starts_are : starts file V ≡ schema_link ∷ (map (root_start file) (enumerate_from 1 rows) ++ freelist_starts file)
  unfolding later_starts
  starts_are = ap (λ l. schema_link ∷ (map (root_start file) (enumerate_from 1 (take last_root_start (rooted_rows l))) ++ freelist_starts file))
      (sym (schema_below file V s))

  -- no fault was reported at the freelist's start where there is no first trunk
  none_free : freelist_starts file ≡ [] → start_count ts freelist_start ≡ 0
  none_free none = count_none (λ (t : TracedFault). is_part_of_start freelist_start t.part) ts (λ t i. by_case t i
      (is_part_of_start freelist_start t.part) refl)
    where
      before : (l : Link Way) → IsIn l (schema_link ∷ (map (root_start file) (enumerate_from 1 rows) ++ freelist_starts file)) → l.step < freelist_start
      before l (inl e) = subst (λ k. k < freelist_start) (sym (ap (λ (l : Link Way). l.step) e)) (before_freelist 0 0 (omega arith) (omega arith))
      before l (inr i) = elim (IsIn-cases l (map (root_start file) (enumerate_from 1 rows)) (freelist_starts file) i) [
        | inl j ↦ before_freelist l.step (length rows) (rows_start file 1 rows l j).1 few
        | inr j ↦ absurd (subst (IsIn l) none j)
      ]

      not_both : (a b : ℕ) → a ≡ b → b < a → ⊥
      not_both a b e l = omega arith

      by_case : (t : TracedFault) → IsIn t ts → (b : Bool) → is_part_of_start freelist_start t.part ≡ b → is_part_of_start freelist_start t.part ≡ false
      by_case t i false e = e
      by_case t i true e =
          let at = (of_starts file V s t i freelist_start (start_is freelist_start t.part e)).start in
          let m = IsIn-from_map (λ (l : Link Way). l.step) (starts file V) freelist_start at in
          absurd (not_both freelist_start m.0.step m.2 (before m.0 (subst (IsIn m.0) starts_are m.1)))

  free_line : start_sum_line file V ts freelist_start ≡ flat_map (λ (l : Link Way). start_sum_line file V ts l.step) (freelist_starts file)
  free_line = by_case (first_trunk file == 0) none_free
    where
      by_case : (b : Bool) → (cond b [] (start freelist_start trunk (first_trunk file) ∷ []) ≡ [] → start_count ts freelist_start ≡ 0)
          → start_sum_line file V ts freelist_start ≡ flat_map (λ (l : Link Way). start_sum_line file V ts l.step)
          (cond b [] (start freelist_start trunk (first_trunk file) ∷ []))
      by_case true h = ap (λ m. sum_line (length ts) m (codes "in " ++ name freelist_start
          ++ faulty_pages_text (faulty_pages file V ts freelist_start) (reached_pages file V freelist_start))
          ++ cond (m == 0) [] (rows_below file V ts freelist_start)) (h refl)
      by_case false h = sym (append-nil (start_sum_line file V ts freelist_start))

  start_lines : start_sum_line file V ts 0 ++ (flat_map (start_sum_line file V ts) (range_with_len 1 (length rows)) ++ start_sum_line file V ts freelist_start)
      ≡ flat_map (λ (l : Link Way). start_sum_line file V ts l.step) (starts file V)
  start_lines =
      let f : Link Way → List ℕ = λ l. start_sum_line file V ts l.step in
      let M = map (root_start file) (enumerate_from 1 rows) in
      ap₂ (λ a b. start_sum_line file V ts 0 ++ (a ++ b)) (sym (rows_lines 1 rows)) free_line
      ∙ ap (λ w. start_sum_line file V ts 0 ++ w) (sym (flat_map-append f M (freelist_starts file)))
      ∙ ap (flat_map f) (sym starts_are)

  module _ (t : Tallied) (is : IsTallyTo n V ts n t) (below : ℕ → List ℕ) (rows_are : (k : ℕ) → k ≤ freelist_start → below k ≡ rows_below file V ts k) where
    codes_same : (cs : List FaultCode) → flat_map (code_sum t) cs ≡ flat_map (code_line ts) cs
    codes_same [] = refl
    codes_same (c ∷ cs) =
        let text = code_text c ++ codes " " ++ code_words c in
        ap₂ (λ a b. a ++ b) (ap₂ (λ a n. sum_line a n text) is.all (get_or_from_slice_get t.codes (code_index c) (counted (code_count ts c)) 0 (is.codes c))
        ∙ sum_same (length ts) (code_count ts c) text) (codes_same cs)

    count_is : (k : ℕ) → k ≤ freelist_start → count_at t k ≡ counted_start V ts n k
    count_is k l = get_or_from_slice_get t.starts k (counted_start V ts n k) no_count (is.starts k l)

    line_is : (k : ℕ) → k ≤ freelist_start → numbered_sum t name below k ≡ start_sum_line file V ts k
    line_is k l = ap₂ (λ n (c : StartCount). start_sum n (name k) c ++ cond (c.faults == 0) [] (below k)) is.all (count_is k l)
        ∙ line_same k (below k) (rows_are k l)

    lines_are : (m k : ℕ) → k + m ≤ freelist_start
        → flat_map (numbered_sum t name below) (range_with_len k m) ≡ flat_map (start_sum_line file V ts) (range_with_len k m)
    lines_are zero k l = refl
    lines_are (suc m) k l = ap₂ (λ a b. a ++ b) (line_is k (omega (arith, l))) (lines_are m (k + 1) (omega (arith, l)))

    trees_whole : (index : Bool) → trees_by index rows t ≡ whole_trees index rows ts
    trees_whole index =
        ap (λ whole. record { whole = whole; all = count_by (is_of_kind index rows) (range_with_len 1 (length rows)) })
        (same_counts (λ k. is_of_kind index rows k && ((count_at t k).faults == 0)) (λ k. is_of_kind index rows k && (start_count ts k == 0))
        (range_with_len 1 (length rows))
        (λ k i. let l = IsIn-from_range 1 (length rows) k i in
        ap (λ (c : StartCount). is_of_kind index rows k && (c.faults == 0)) (count_is k (at_most k freelist_start (before_freelist k (length rows) l.1 few)))
        ∙ ap (λ b. is_of_kind index rows k && b) (is_zero (start_count ts k))))

    abbrev last_lines : List ℕ
    last_lines = zeros_text (geometry file).page_size (zero_pages file V) ++ trees_text (whole_trees false rows ts) (whole_trees true rows ts)

    last_part : (size : ℕ) (r : PageRuns) → zeros_sum size r ≡ zeros_text (geometry file).page_size (zero_pages file V) → last_sum size r rows t
        ≡ last_lines
    last_part size r zeros = ap₂ (λ a b. a ++ b) zeros (ap₂ trees_text (trees_whole false) (trees_whole true))

    whole_part : sum_line t.all t.whole (codes "in the whole file") ≡ whole_line ts
    whole_part = ap₂ (λ n k. sum_line n k (codes "in the whole file")) is.all is.whole ∙ sum_same (length ts) (whole_count ts) (codes "in the whole file")

    summary_same : (size : ℕ) (r : PageRuns) → zeros_sum size r ≡ zeros_text (geometry file).page_size (zero_pages file V)
        → summary_by size r (encoding file) rows below t ≡ summary file V ts
    summary_same size r zeros =
        joined
        (ap count_text is.all ∙ count_same (length ts))
        (codes_same all_codes)
        (lines_are (suc (length rows)) 0 (room (length rows) freelist_start few))
        (line_is freelist_start (omega arith)) whole_part (last_part size r zeros)
        ∙ parts (count_text (length ts)) (flat_map (code_line ts) all_codes) (start_sum_line file V ts 0)
        (flat_map (start_sum_line file V ts) (range_with_len 1 (length rows)))
        (start_sum_line file V ts freelist_start) (whole_line ts) last_lines
        ∙ ap (λ w. count_text (length ts) ++ flat_map (code_line ts) all_codes ++ w ++ whole_line ts ++ last_lines) start_lines
      where
        joined : {a b c d e f a' b' c' d' e' f' : List ℕ} → a ≡ a' → b ≡ b' → c ≡ c' → d ≡ d' → e ≡ e' → f ≡ f'
            → a ++ (b ++ (c ++ (d ++ (e ++ f)))) ≡ a' ++ (b' ++ (c' ++ (d' ++ (e' ++ f'))))
        joined p q r s t u = ap₂ (λ x y. x ++ y) p (ap₂ (λ x y. x ++ y) q (ap₂ (λ x y. x ++ y) r (ap₂ (λ x y. x ++ y) s (ap₂ (λ x y. x ++ y) t u))))

        parts : (a b c m d e f : List ℕ) → a ++ (b ++ ((c ++ m) ++ (d ++ (e ++ f)))) ≡ a ++ b ++ (c ++ (m ++ d)) ++ e ++ f
        parts a b c m d e f = simp append_assoc

-- so it is of what is put by the list of roots, and by the runs of the pages that are zeros
pub known_summary : (file : List ℕ) (V : List Reference) → Survey file V
    → (h : HeaderBytes) (rows : List SchemaRow) (e : Encoding) (t : Tallied) (size : ℕ) (r : PageRuns) (below : ℕ → List ℕ)
    → IsHeaderOf h file → AreListed file V rows → e ≡ encoding h.bytes → IsTallyTo (geometry file).pages V (reported_faults file V) (geometry file).pages t
    → zeros_sum size r ≡ zeros_text (geometry file).page_size (zero_pages file V)
    → ((k : ℕ) → k ≤ freelist_start → below k ≡ rows_below file V (reported_faults file V) k)
    → summary_by size r e rows below t ≡ summary file V (reported_faults file V)
known_summary file V s h given e t size r below header listed texts is zeros rows_are =
    ap₂ (λ e rows. summary_by size r e rows below t) (texts ∙ ap encoding header.begins ∙ encoding_within file) listed
    ∙ summary_same file V s t is below rows_are size r zeros

-- the lines of the rows of start k, by what is kept of them
pub known_rows : (file : List ℕ) (V : List Reference) (rows : List SchemaRow) (ranges : KeptRanges) (indexes : List Bool) → AreListed file V rows
    → AreAllKept (reported_faults file V) ranges → AreIndexes (stat_rows file V) indexes → (k : ℕ) → k ≤ freelist_start
    → rows_sum ranges indexes rows k ≡ rows_below file V (reported_faults file V) k
known_rows file V given ranges indexes listed kept noted k l =
    ap₂ (λ rows (o : Option Bool). cond (is_index_start rows k || unwrap_or o false) [] (kept_text ranges k)) listed (noted k l)
    ∙ by_tests (is_index_start (listed_rows file V) k) (list_any (is_index_page k) (stat_rows file V))
    ∙ ap (λ w. cond (has_rowids file V k) w []) (kept_lines (reported_faults file V) ranges kept k l)
  where
    by_tests : (a b : Bool) → cond (a || b) [] (kept_text ranges k) ≡ cond (not a && not b) (kept_text ranges k) []
    by_tests true b = refl
    by_tests false true = refl
    by_tests false false = refl

-- as many as there are, of ten
min_taken : {X : Type 0} (n : ℕ) (xs : List X) → length xs ≡ 10 → take (min n 10) xs ≡ take n xs
min_taken n xs all = by_case (nat_le n 10) refl
  where
    by_case : (b : Bool) → nat_le n 10 ≡ b → take (min n 10) xs ≡ take n xs
    by_case true e =
        let l : n ≤ 10 = grind (arith, nat_tests, e) in
        let m : min n 10 ≡ n = omega (arith, l) in ap (λ k. take k xs) m
    by_case false e =
        let l : 10 < n = grind (arith, nat_tests, e) in
        let m : min n 10 ≡ 10 = omega (arith, l) in
        ap (λ k. take k xs) m ∙ take_all 10 xs (omega (arith, all)) ∙ sym (take_all n xs (omega (arith, all, l)))

-- what is put of these runs
pub known_zeros : (file : List ℕ) (V : List Reference) (g : Geometry) (words : List ℕ) (r : PageRuns) → g ≡ geometry file → AreZeros file V words
    → r ≡ fold run_added no_runs (filter (has_bit words) (range_with_len 1 g.pages))
    → zeros_sum g.page_size r ≡ zeros_text (geometry file).page_size (zero_pages file V)
known_zeros file V g words r e are is =
    let same = is ∙ ap (fold run_added no_runs) (ap (λ (g : Geometry). filter (has_bit words) (range_with_len 1 g.pages)) e ∙ are) in
    let kept = runs_kept (zero_pages file V) in
    let r = fold run_added no_runs (zero_pages file V) in
    ap₂ zeros_sum (ap (λ (g : Geometry). g.page_size) e) same
    ∙ ap₂ (zero_runs_text (geometry file).page_size) (min_taken r.count r.kept kept.room ∙ kept.kept) (ap (λ n. n - 10) kept.count)
