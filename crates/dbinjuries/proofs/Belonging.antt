-- The line of the faults that belong to an injury, by what is kept of them.
use Rattle.std.proofs.Common.{◌≡◌, ℕ, zero, suc, ◌+◌, ◌-◌, ◌<◌, ◌≤◌, Bool, true, false, cond, ◌&&◌, ◌||◌, List, [], ◌∷◌, ◌++◌, length, map, take, get_or, set}
use Rattle.std.proofs.Common.{Some, None, refl, sym, ap, ap₂, subst, ◌∙◌, arith, append_assoc, append-nil, take-suc}
use Rattle.std.proofs.Math.Path.{subst₂}
use Rattle.std.specs.Prelude.{codes, fold, nat_le, nat_lt, ◌==◌}
use Rattle.std.specs.List.{join_by, last_or, list_any, flat_map, sum_by}
use Rattle.std.specs.Option.{option_map_or}
use Rattle.std.proofs.lemmas.Bool.Decides.{nat_tests}
use Rattle.std.proofs.lemmas.Grind.{flat_map-append}
use Rattle.std.proofs.lemmas.List.{length-append, length-set, length-take, take-append-le, take_all, take_more_set}
use Rattle.std.proofs.lemmas.List.Sums.{sum_by-cons}
use Rattle.dbformat.specs.Lines.{counted}
use Rattle.dbtrace.specs.declared.Cause.{Cause}
use Rattle.dbtrace.specs.declared.Cause.TheVariants as cause
use Rattle.dbtrace.specs.declared.TracedFault.{TracedFault}
use Rattle.dbinjuries.specs.Kept.{look_cells, has_page, injury_added, lone_injury, is_last, is_next, kept_of, no_run, no_runs, others_added}
use Rattle.dbinjuries.specs.Kept.{run_added, run_begun, run_grown}
use Rattle.dbinjuries.specs.Lines.{indented}
use Rattle.dbinjuries.specs.Listing as listing
use Rattle.dbinjuries.specs.Listing.{changed_at}
use Rattle.dbinjuries.specs.Others.{alike_text, belonging_text, last_text, kept_faults_line, kept_text, next_run_text, others_text, run_after, run_text, runs}
use Rattle.dbinjuries.specs.Others.{shown_runs_text, with_page}
use Rattle.dbinjuries.specs.declared.injury.Injury.{Injury}
use Rattle.dbinjuries.specs.declared.injury.Others.{Others}
use Rattle.dbinjuries.specs.declared.page_runs.PageRun.{PageRun}
use Rattle.dbinjuries.specs.declared.page_runs.PageRuns.{PageRuns}
use Rattle.dbinjuries.proofs.Noting.{first_kept}
use Rattle.dbinjuries.proofs.Numbers.{changed-length, changed-past, changed-set, take-changed}

nothing : (rs : List PageRun) → take 0 rs ≡ []
nothing [] = refl
nothing (r ∷ rs) = refl

-- ---- a run more of a list

-- run number i after those before it
pub run_more : (rs : List PageRun) (line now : List ℕ) (i : ℕ) → i < length rs
    → now ≡ (line ++ join_by run_text (codes ", ") (take i rs)) ++ next_run_text i (get_or rs i no_run) → now ≡ line
    ++ join_by run_text (codes ", ") (take (i + 1) rs)
run_more rs line now i h e =
    e
    ∙ append_assoc line (join_by run_text (codes ", ") (take i rs)) (next_run_text i (get_or rs i no_run))
    ∙ ap (λ w. line ++ w) (by_case rs i h ∙ ap (λ n. text (take n rs)) (let q : suc i ≡ i + 1 = omega arith in q))
  where
    text : List PageRun → List ℕ
    text = join_by run_text (codes ", ")

    sep : PageRun → List ℕ
    sep r = codes ", " ++ run_text r

    by_case : (rs : List PageRun) (i : ℕ) → i < length rs → text (take i rs) ++ next_run_text i (get_or rs i no_run) ≡ text (take (suc i) rs)
    by_case [] i h = absurd (let no : ⊥ = omega arith in no)
    by_case (r ∷ rs) zero h =
        ap (λ ys. text ys ++ run_text r) (nothing (r ∷ rs))
        ∙ sym (append-nil (run_text r))
        ∙ ap (λ ys. run_text r ++ flat_map sep ys) (sym (nothing rs))
    by_case (r ∷ rs) (suc i) h =
        let some : (suc i == 0) ≡ false = grind (arith, nat_tests) in
        ap (λ b. text (r ∷ take i rs) ++ cond b (run_text (get_or rs i no_run)) (sep (get_or rs i no_run))) some
        ∙ append_assoc (run_text r) (flat_map sep (take i rs)) (sep (get_or rs i no_run))
        ∙ ap (λ w. run_text r ++ (flat_map sep (take i rs) ++ w)) (sym (append-nil (sep (get_or rs i no_run))))
        ∙ ap (λ w. run_text r ++ w) (sym (flat_map-append sep (take i rs) (get_or rs i no_run ∷ [])))
        ∙ ap (λ ys. run_text r ++ flat_map sep ys) (sym (take-suc rs i no_run (omega arith)))

-- ---- a page more

-- a run of one page
abbrev alone : ℕ → PageRun
alone page = record { first = page; last = page }

-- a run that ends with this page
abbrev to : ℕ → PageRun → PageRun
to page r = record r { last = page }

-- the last page of some runs, and page d where there is none
abbrev last_page : ℕ → List PageRun → ℕ
last_page d [] = d
last_page d (r ∷ rs) = last_page r.last rs

-- the runs with a page more, by whether it is the last one, and whether it is the next
abbrev run_by : Bool → Bool → ℕ → PageRun → List PageRun
run_by same next p r = cond same (r ∷ []) (cond next (to p r ∷ []) (r ∷ alone p ∷ []))

last-after : (d p : ℕ) (rs : List PageRun) → last_page d (run_after rs p) ≡ p
last-after d p [] = refl
last-after d p (r ∷ []) = by_same (p == r.last) refl
  where
    by_next : (b : Bool) → last_page d (run_by false b p r) ≡ p
    by_next true = refl
    by_next false = refl

    by_same : (b : Bool) → (p == r.last) ≡ b → last_page d (run_by b (p == r.last + 1) p r) ≡ p
    by_same true e = grind (arith, nat_tests, e)
    by_same false e = by_next (p == r.last + 1)
last-after d p (r ∷ s ∷ rs) = last-after r.last p (s ∷ rs)

-- where it is the last page, nothing changes
after-same : (d p : ℕ) (r : PageRun) (rs : List PageRun) → (p == last_page d (r ∷ rs)) ≡ true → run_after (r ∷ rs) p ≡ r ∷ rs
after-same d p r [] e = ap (λ b. run_by b (p == r.last + 1) p r) e
after-same d p r (s ∷ rs) e = ap (λ l. r ∷ l) (after-same r.last p s rs e)

-- where it comes next, the last run changes
after-next : (d p : ℕ) (r : PageRun) (rs : List PageRun) → (p == last_page d (r ∷ rs)) ≡ false → (p == last_page d (r ∷ rs) + 1) ≡ true
    → run_after (r ∷ rs) p ≡ changed_at (to p) (length rs) (r ∷ rs)
after-next d p r [] other e = ap₂ (λ b c. run_by b c p r) other e
after-next d p r (s ∷ rs) other e = ap (λ l. r ∷ l) (after-next r.last p s rs other e)

-- else there is one more
after-other : (d p : ℕ) (r : PageRun) (rs : List PageRun) → (p == last_page d (r ∷ rs)) ≡ false → (p == last_page d (r ∷ rs) + 1) ≡ false
    → run_after (r ∷ rs) p ≡ (r ∷ rs) ++ alone p ∷ []
after-other d p r [] other e = ap₂ (λ b c. run_by b c p r) other e
after-other d p r (s ∷ rs) other e = ap (λ l. r ∷ l) (after-other r.last p s rs other e)

-- ---- runs that are kept

-- the last run with a page more, and a run more
abbrev with_grown : PageRuns → ℕ → PageRuns
with_grown r p = record { kept = run_grown r p; count = r.count; last = p }

abbrev with_begun : PageRuns → ℕ → PageRuns
with_begun r p = record { kept = run_begun r p; count = counted (r.count + 1); last = p }

-- of these runs the first ten are kept
pub record AreKept (rs : List PageRun) (r : PageRuns) : Type 0 where
  pub kept : take r.count r.kept ≡ take 10 rs
  pub room : length r.kept ≡ 10
  pub count : r.count ≡ counted (length rs)
  pub last : r.last ≡ last_page 0 rs

none_kept : AreKept [] no_runs
none_kept = record { kept = refl; room = refl; count = refl; last = refl }

module _ (rs : List PageRun) (r : PageRuns) (p : ℕ) (is : AreKept rs r) where
  -- a run more
  begun : run_after rs p ≡ rs ++ alone p ∷ [] → AreKept (run_after rs p) (with_begun r p)
  begun e = record {
    kept = by_case (nat_lt r.count 10) refl ∙ ap (take 10) (sym e);
    room = by_room (nat_lt r.count 10);
    count = let l = length-append rs (alone p ∷ []) in let c = is.count in let m = ap length e in omega (arith, l, c, m);
    last = sym (last-after 0 p rs);
  }
    where
      by_room : (b : Bool) → length (cond b (set r.kept r.count (alone p)) r.kept) ≡ 10
      by_room true = length-set r.kept r.count (alone p) ∙ is.room
      by_room false = is.room

      by_case : (b : Bool) → nat_lt r.count 10 ≡ b → take (counted (r.count + 1)) (cond b (set r.kept r.count (alone p)) r.kept) ≡ take 10 (rs ++ alone p ∷ [])
      by_case true t =
          let few : r.count < 10 = grind (arith, nat_tests, t) in
          let c = is.count in
          let m = is.room in
          let same : length rs ≡ r.count = omega (arith, few, c) in
          let next : counted (r.count + 1) ≡ r.count + 1 = omega (arith, few) in
          let l = length-append rs (alone p ∷ []) in
          ap (λ n. take n (set r.kept r.count (alone p))) next
          ∙ take_more_set r.kept r.count (alone p) (omega (arith, few, m))
          ∙ ap (λ ys. ys ++ alone p ∷ []) (is.kept ∙ take_all 10 rs (omega (arith, few, same)))
          ∙ sym (take_all 10 (rs ++ alone p ∷ []) (omega (arith, few, same, l)))
      by_case false t =
          let many : 10 ≤ r.count = grind (arith, nat_tests, t) in
          let c = is.count in
          let m = is.room in
          take_all (counted (r.count + 1)) r.kept (omega (arith, many, m))
          ∙ sym (take_all r.count r.kept (omega (arith, many, m)))
          ∙ is.kept
          ∙ sym (take-append-le 10 rs (alone p ∷ []) (omega (arith, many, c)))

  -- the last run with a page more
  grown : (n : ℕ) → length rs ≡ suc n → run_after rs p ≡ changed_at (to p) n rs → AreKept (run_after rs p) (with_grown r p)
  grown n s e = record {
    kept = by_case (nat_le r.count 10) refl ∙ ap (take 10) (sym e);
    room = by_room (nat_le r.count 10);
    count = is.count ∙ ap counted (sym (changed-length (to p) n rs) ∙ ap length (sym e));
    last = sym (last-after 0 p rs);
  }
    where
      by_room : (b : Bool) → length (cond b (set r.kept (r.count - 1) (to p (get_or r.kept (r.count - 1) no_run))) r.kept) ≡ 10
      by_room true = length-set r.kept (r.count - 1) (to p (get_or r.kept (r.count - 1) no_run)) ∙ is.room
      by_room false = is.room

      by_case : (b : Bool) → nat_le r.count 10 ≡ b
          → take r.count (cond b (set r.kept (r.count - 1) (to p (get_or r.kept (r.count - 1) no_run))) r.kept) ≡ take 10 (changed_at (to p) n rs)
      by_case true t =
          let few : r.count ≤ 10 = grind (arith, nat_tests, t) in
          let c = is.count in
          let m = is.room in
          let same : r.count - 1 ≡ n = omega (arith, few, c, s) in
          ap (take r.count) (sym (changed-set (to p) (r.count - 1) r.kept no_run (omega (arith, few, m, c, s))))
          ∙ take-changed (to p) r.count (r.count - 1) r.kept
          ∙ ap₂ (changed_at (to p)) same is.kept
          ∙ sym (take-changed (to p) 10 n rs)
      by_case false t =
          let many : 10 < r.count = grind (arith, nat_tests, t) in
          let c = is.count in
          let l = length-take 10 rs in
          is.kept
          ∙ sym (changed-past (to p) n (take 10 rs) (omega (arith, many, c, s, l)))
          ∙ sym (take-changed (to p) 10 n rs)

-- runs with a page more, by whether it is the last one, one of those that are kept has it, and it comes next
abbrev with_more : Bool → Bool → Bool → PageRuns → ℕ → PageRuns
with_more last known next r p = cond (last || known) r (cond next (with_grown r p) (with_begun r p))

-- a page more that none of those that are kept has
kept_after : (rs : List PageRun) (r : PageRuns) (p : ℕ) → AreKept rs r → AreKept (run_after rs p) (with_more (is_last r p) false (is_next r p) r p)
kept_after [] r p is = by_case (is_last r p) (is_next r p) none first
  where
    none : is_last r p ≡ false
    none = ap (λ n. nat_lt 0 n && (p == r.last)) is.count

    first : is_next r p ≡ false
    first = ap (λ n. nat_lt 0 n && (p == r.last + 1)) is.count

    by_case : (last next : Bool) → last ≡ false → next ≡ false → AreKept (run_after [] p) (with_more last false next r p)
    by_case true next l e = absurd (let no : ⊥ = cc in no)
    by_case false true l e = absurd (let no : ⊥ = cc in no)
    by_case false false l e = begun [] r p is refl
kept_after (s ∷ rs) r p is = by_case (p == last_page 0 (s ∷ rs)) (p == last_page 0 (s ∷ rs) + 1) refl refl
  where
    some : nat_lt 0 r.count ≡ true
    some = let c = is.count in grind (arith, nat_tests, c)

    last : (b : Bool) → (p == last_page 0 (s ∷ rs)) ≡ b → is_last r p ≡ b
    last b e = ap₂ (λ c l. c && (p == l)) some is.last ∙ e

    next : (b : Bool) → (p == last_page 0 (s ∷ rs) + 1) ≡ b → is_next r p ≡ b
    next b e = ap₂ (λ c l. c && (p == l + 1)) some is.last ∙ e

    by_tests : (b c : Bool) → is_last r p ≡ b → is_next r p ≡ c → AreKept (run_after (s ∷ rs) p) (with_more b false c r p)
        → AreKept (run_after (s ∷ rs) p) (with_more (is_last r p) false (is_next r p) r p)
    by_tests b c e f k = subst₂ (λ b c. AreKept (run_after (s ∷ rs) p) (with_more b false c r p)) (sym e) (sym f) k

    by_case : (b c : Bool) → (p == last_page 0 (s ∷ rs)) ≡ b → (p == last_page 0 (s ∷ rs) + 1) ≡ c
        → AreKept (run_after (s ∷ rs) p) (with_more (is_last r p) false (is_next r p) r p)
    by_case true c e f = by_tests true c (last true e) (next c f) (subst (λ l. AreKept l r) (sym (after-same 0 p s rs e)) is)
    by_case false true e f =
        by_tests false true (last false e) (next true f) (grown (s ∷ rs) r p is (length rs) refl (after-next 0 p s rs e f))
    by_case false false e f = by_tests false false (last false e) (next false f) (begun (s ∷ rs) r p is (after-other 0 p s rs e f))

kept_more : (rs : List PageRun) (r : PageRuns) (p : ℕ) → AreKept rs r → AreKept (with_page rs p) (run_added r p)
kept_more rs r p is =
    subst (λ b. AreKept (with_page rs p) (with_more (is_last r p) b (is_next r p) r p)) (sym (ap known is.kept)) (by_known (known (take 10 rs)))
  where
    known : List PageRun → Bool
    known rs = list_any (has_page p) rs

    by_last : (b : Bool) → AreKept rs (with_more b true (is_next r p) r p)
    by_last true = is
    by_last false = is

    by_known : (b : Bool) → AreKept (cond b rs (run_after rs p)) (with_more (is_last r p) b (is_next r p) r p)
    by_known true = by_last (is_last r p)
    by_known false = kept_after rs r p is

-- page after page
runs_from : (pages : List ℕ) (rs : List PageRun) (r : PageRuns) → AreKept rs r → AreKept (fold with_page rs pages) (fold run_added r pages)
runs_from [] rs r is = is
runs_from (p ∷ pages) rs r is = runs_from pages (with_page rs p) (run_added r p) (kept_more rs r p is)

pub runs_kept : (pages : List ℕ) → AreKept (runs pages) (fold run_added no_runs pages)
runs_kept pages = runs_from pages [] no_runs none_kept

-- ---- the faults that belong to one

others_kept : (xs : List TracedFault) (k : Injury) → (fold injury_added k xs).others ≡ fold others_added k.others xs
others_kept [] k = refl
others_kept (x ∷ xs) k = others_kept xs (injury_added k x)

-- their number, their pages, how many cells these have, and the last of them
counts : (xs : List TracedFault) (o : Others) (n : ℕ) → o.count ≡ counted n → (fold others_added o xs).count ≡ counted (n + length xs)
counts [] o n e = omega (arith, e)
counts (x ∷ xs) o n e = let h = counts xs (others_added o x) (n + 1) (omega (arith, e)) in omega (arith, h)

pages : (xs : List TracedFault) (o : Others) → (fold others_added o xs).runs ≡ fold run_added o.runs (map (λ x. x.fault.page) xs)
pages [] o = refl
pages (x ∷ xs) o = pages xs (others_added o x)

all_cells : (xs : List TracedFault) (o : Others) (n : ℕ) → o.cells ≡ counted n → (fold others_added o xs).cells
    ≡ counted (n + sum_by (λ x. look_cells x.cause) xs)
all_cells [] o n e = omega (arith, e)
all_cells (x ∷ xs) o n e =
    let h = all_cells xs (others_added o x) (n + look_cells x.cause) (omega (arith, e)) in
    let s = sum_by-cons (λ (x : TracedFault). look_cells x.cause) x xs in omega (arith, h, s)

last_is : (x : TracedFault) (xs : List TracedFault) (o : Others)
    → (y : TracedFault) × (last_or (Some x) xs ≡ Some y) × ((fold others_added (others_added o x) xs).page ≡ y.fault.page)
    × ((fold others_added (others_added o x) xs).item ≡ y.fault.item)
last_is x [] o = (x, refl, refl, refl)
last_is x (z ∷ zs) o = last_is z zs (others_added o x)

-- ---- their line

pub line_is : (e : listing.Injury) → kept_faults_line (kept_of e).first.cause (kept_of e).others ≡ others_text e
line_is e =
    ap₂ (λ (f : TracedFault) o. kept_faults_line f.cause o) (first_kept e.others (lone_injury e.first)) (others_kept e.others (lone_injury e.first))
    ∙ by_others e.others
  where
    why : Cause
    why = e.first.cause

    none : Others
    none = (lone_injury e.first).others

    number : (xs : List TracedFault) → (fold others_added none xs).count ≡ counted (length xs)
    number xs = let h = counts xs none 0 refl in omega (arith, h)

    cells : (xs : List TracedFault) → (fold others_added none xs).cells ≡ counted (sum_by (λ x. look_cells x.cause) xs)
    cells xs = let h = all_cells xs none 0 refl in omega (arith, h)

    by_cause : (c : Cause) (x : TracedFault) (xs : List TracedFault) → let o = fold others_added none (x ∷ xs) in
        kept_text c o ≡ belonging_text c (x ∷ xs) (last_is x xs none).0
    by_cause (cause.Look l facts) x xs =
        let o = fold others_added none (x ∷ xs) in
        let k = runs_kept (map (λ x. x.fault.page) (x ∷ xs)) in
        let same : take o.runs.count o.runs.kept ≡ take 10 (runs (map (λ x. x.fault.page) (x ∷ xs))) =
        ap (λ (r : PageRuns). take r.count r.kept) (pages (x ∷ xs) none) ∙ k.kept in
        ap₂ (λ n m. alike_text l n m ++ shown_runs_text (take o.runs.count o.runs.kept) (o.runs.count - 10)) (number (x ∷ xs))
        (cells (x ∷ xs))
        ∙ ap₂ (λ rs n. alike_text l (counted (length (x ∷ xs))) (counted (sum_by (λ x. look_cells x.cause) (x ∷ xs))) ++ shown_runs_text rs (n - 10)) same
        (ap (λ (r : PageRuns). r.count) (pages (x ∷ xs) none) ∙ k.count)
    by_cause _ x xs =
        let o = fold others_added none (x ∷ xs) in
        let p = last_is x xs none in
        ap (λ n. last_text n o.page o.item) (number (x ∷ xs)) ∙ ap₂ (last_text (counted (length (x ∷ xs)))) p.2 p.3

    by_others : (xs : List TracedFault) → kept_faults_line why (fold others_added none xs)
        ≡ option_map_or (λ x. indented (belonging_text why xs x)) (last_or None xs) []
    by_others [] = refl
    by_others (x ∷ xs) =
        let o = fold others_added none (x ∷ xs) in
        let c = number (x ∷ xs) in
        let some : (o.count == 0) ≡ false = grind (arith, nat_tests, c) in
        ap (λ b. cond b [] (indented (kept_text why o))) some
        ∙ ap indented (by_cause why x xs)
        ∙ sym (ap (λ y. option_map_or (λ y. indented (belonging_text why (x ∷ xs) y)) y []) (last_is x xs none).1)
