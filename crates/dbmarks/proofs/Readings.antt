-- What is kept of the marks and read, call after call.
use Rattle.std.proofs.Common.{◌≡◌, ◌≢◌, ℕ, zero, suc, ◌+◌, ◌-◌, ◌*◌, ◌<◌, ◌≤◌, true, false, cond, inl, inr, List, [], ◌∷◌, ◌++◌, length, map, set, get_or, Some}
use Rattle.std.proofs.Common.{None, Ok, refl, sym, ap, subst, ◌∙◌, arith}
use Rattle.std.specs.Prelude.{slice_get, count_by, ◌==◌, Result, IfSome, OnOk}
use Rattle.std.specs.Option.{option_map_or}
use Rattle.std.proofs.lemmas.Bool.{cases_Bool, both_ways}
use Rattle.std.proofs.lemmas.Bool.Decides.{nat_tests}
use Rattle.std.proofs.lemmas.List.{map-append}
use Rattle.std.proofs.lemmas.List.Sums.{sum_by-set}
use Rattle.std.proofs.lemmas.Option.{slice_get_within, get_or_from_slice_get}
use Rattle.dbsurvey.proofs.Order.{IsIn-cases, EachPair-append}
use Rattle.dbformat.specs.Log.{page_range, range}
use Rattle.dbformat.specs.declared.ByteRange.{ByteRange}
use Rattle.dbmarks.specs.declared.marks.Mark.{Mark}
use Rattle.dbmarks.specs.declared.marks.Mark.TheVariants.{Unmarked}
use Rattle.dbmarks.specs.Marking.{page_mark, is_none, is_unmarked, unmarked_pages, IsUse, cleared, KeepsMarks}
use Rattle.dbsource.specs.Answers.{IsRangeOf, answer, Step}
use Rattle.dbsource.specs.Errors.{is_read_failed}
use Rattle.dbsource.specs.Failures.{failures_after}
use Rattle.dbsource.specs.Sources.{Asks, HasLog, SourceState}
use Rattle.dbsource.specs.declared.error.RunError.{RunError}
use Rattle.dbsource.specs.declared.source.ReadFailed.{ReadFailed}
use Rattle.dbsource.proofs.Logs as logs
use Rattle.dbmarks.specs.Reads.{Reads}

-- marks

get_set_same : (xs : List Mark) (i : ℕ) (m n : Mark) → slice_get xs i ≡ Some n → slice_get (set xs i m) i ≡ Some m
get_set_same [] i m n h = cc
get_set_same (x ∷ xs) zero m n h = refl
get_set_same (x ∷ xs) (suc i) m n h = get_set_same xs i m n h

get_set_other : (xs : List Mark) (i j : ℕ) (m : Mark) → j ≢ i → slice_get (set xs i m) j ≡ slice_get xs j
get_set_other [] i j m h = refl
get_set_other (x ∷ xs) zero zero m h = absurd (h refl)
get_set_other (x ∷ xs) zero (suc j) m h = refl
get_set_other (x ∷ xs) (suc i) zero m h = refl
get_set_other (x ∷ xs) (suc i) (suc j) m h = get_set_other xs i j m (λ e. h (let k : suc j ≡ suc i = ap suc e in k))

clear_set : (xs : List Mark) (i : ℕ) (m n : Mark) → slice_get xs i ≡ Some n → cleared m ≡ cleared n → map cleared (set xs i m) ≡ map cleared xs
clear_set [] i m n h e = refl
clear_set (x ∷ xs) zero m n h e = let k : x ≡ n = cc in let l : cleared x ≡ cleared n = ap cleared k in cc
clear_set (x ∷ xs) (suc i) m n h e = let k : map cleared (set xs i m) ≡ map cleared xs = clear_set xs i m n h e in cc

count_set : (xs : List Mark) (i : ℕ) (m : Mark) → slice_get xs i ≡ Some Unmarked → is_none m ≡ false → count_by is_none (set xs i m) + 1 ≡ count_by is_none xs
count_set xs i m h e =
    let l : i < length xs = slice_get_within xs i Unmarked h in
    let g : ◌≡◌ {A = ℕ} (cond (is_none (get_or xs i Unmarked)) 1 0) 1 = ap (λ x. cond (is_none x) 1 0) (get_or_from_slice_get xs i Unmarked Unmarked h) in
    let n : ◌≡◌ {A = ℕ} (cond (is_none m) 1 0) 0 = ap (λ b. cond b 1 0) e in
    let s = sum_by-set (λ x. cond (is_none x) 1 0) xs i m Unmarked l in omega (arith, s, g, n)

page_get : (marks : List Mark) (p : ℕ) (m : Mark) → page_mark marks p ≡ Some m → (1 ≤ p) × (slice_get marks (p - 1) ≡ Some m)
page_get marks p m h = elim (cases_Bool (p == 0)) [
  | inl e ↦ absurd (let k : page_mark marks p ≡ None = ap (λ b. cond b None (slice_get marks (p - 1))) e in clash k)
  | inr e ↦ (grind (arith, nat_tests), sym (ap (λ b. cond b None (slice_get marks (p - 1))) e) ∙ h)
]
  where
    clash : page_mark marks p ≡ None → ⊥
    clash k = cc

page_set : (marks : List Mark) (p q : ℕ) (m : Mark) → 1 ≤ p → q ≢ p → page_mark (set marks (p - 1) m) q ≡ page_mark marks q
page_set marks p q m l h = elim (cases_Bool (q == 0)) [
  | inl e ↦ ap (λ b. cond b None (slice_get (set marks (p - 1) m) (q - 1))) e ∙ sym (ap (λ b. cond b None (slice_get marks (q - 1))) e)
  | inr e ↦ ap (λ b. cond b None (slice_get (set marks (p - 1) m) (q - 1))) e
      ∙ get_set_other marks (p - 1) (q - 1) m (λ x. h (let k : 1 ≤ q = grind (arith, nat_tests) in omega arith))
      ∙ sym (ap (λ b. cond b None (slice_get marks (q - 1))) e)
]

page_set_same : (marks : List Mark) (p : ℕ) (m n : Mark) → page_mark marks p ≡ Some n → page_mark (set marks (p - 1) m) p ≡ Some m
page_set_same marks p m n h =
    let k = page_get marks p n h in
    let l : 1 ≤ p = k.0 in
    let e : (p == 0) ≡ false = grind (arith, nat_tests) in
    ap (λ b. cond b None (slice_get (set marks (p - 1) m) (p - 1))) e ∙ get_set_same marks (p - 1) m n k.1

-- a page that has no mark, by a test
pub unmarked-is : (marks : List Mark) (p : ℕ) → page_mark marks p ≡ Some Unmarked → is_unmarked marks p ≡ true
unmarked-is marks p h = ap (λ o. option_map_or is_none o false) h

pub marked-is : (marks : List Mark) (p : ℕ) (m : Mark) → page_mark marks p ≡ Some m → is_none m ≡ false → is_unmarked marks p ≡ false
marked-is marks p m h e = ap (λ o. option_map_or is_none o false) h ∙ e

pub keeps_same : (marks : List Mark) → KeepsMarks marks marks
keeps_same marks = record { marks = λ p h. refl; fixed = refl }

pub keeps_then : (a b c : List Mark) → KeepsMarks a b → KeepsMarks b c → KeepsMarks a c
keeps_then a b c h k = record {
  marks = λ p u. let e : page_mark b p ≡ page_mark a p = h.marks p u in
      k.marks p (ap (λ o. option_map_or is_none o false) e ∙ u) ∙ e;
  fixed = k.fixed ∙ h.fixed;
}

-- a page gets its mark
pub keeps_put : (marks : List Mark) (p : ℕ) (m : Mark) → page_mark marks p ≡ Some Unmarked → cleared m ≡ Unmarked → KeepsMarks marks (set marks (p - 1) m)
keeps_put marks p m h e = record {
  marks = λ q u. page_set marks p q m (page_get marks p Unmarked h).0
      (λ x. both_ways (is_unmarked marks p) (subst (λ r. is_unmarked marks r ≡ false) x u) (unmarked-is marks p h));
  fixed = clear_set marks (p - 1) m Unmarked (page_get marks p Unmarked h).1 e;
}

pub put_marked : (marks : List Mark) (p : ℕ) (m : Mark) → page_mark marks p ≡ Some Unmarked → is_none m ≡ false → is_unmarked (set marks (p - 1) m) p ≡ false
put_marked marks p m h e = marked-is (set marks (p - 1) m) p m (page_set_same marks p m Unmarked h) e

pub put_count : (marks : List Mark) (p : ℕ) (m : Mark) → page_mark marks p ≡ Some Unmarked → is_none m ≡ false → unmarked_pages (set marks (p - 1) m) + 1
    ≡ unmarked_pages marks
put_count marks p m h e = count_set marks (p - 1) m (page_get marks p Unmarked h).1 e

-- reads

pub reads_none : (size : ℕ) (old new : List Mark) → KeepsMarks old new → Reads size old new []
reads_none size old new k = record {
  pages = [];
  ranges = refl;
  distinct = tt;
  fresh = λ p h. absurd h;
  marked = λ p h. absurd h;
  kept = k;
}

-- a page is marked and then read
pub reads_page : (size : ℕ) (marks : List Mark) (p : ℕ) (m : Mark) → page_mark marks p ≡ Some Unmarked → cleared m ≡ Unmarked → is_none m ≡ false
    → Reads size marks (set marks (p - 1) m) (page_range size p ∷ [])
reads_page size marks p m h e f = record {
  pages = p ∷ [];
  ranges = refl;
  distinct = ((λ q i. absurd i), tt);
  fresh = λ q i. elim i [ inl x ↦ subst (λ r. is_unmarked marks r ≡ true) (sym x) (unmarked-is marks p h) | inr n ↦ absurd n ];
  marked = λ q i. elim i [ inl x ↦ subst (λ r. is_unmarked (set marks (p - 1) m) r ≡ false) (sym x) (put_marked marks p m h f) | inr n ↦ absurd n ];
  kept = keeps_put marks p m h e;
}

pub reads_then : (size : ℕ) (a b c : List Mark) (l m : List ByteRange) → Reads size a b l → Reads size b c m → Reads size a c (l ++ m)
reads_then size a b c l m h k = record {
  pages = h.pages ++ k.pages;
  ranges = ap (λ l. l ++ m) h.ranges ∙ ap (λ m. map (page_range size) h.pages ++ m) k.ranges ∙ sym (map-append (page_range size) h.pages k.pages);
  distinct = EachPair-append (λ p q. p ≢ q) h.pages k.pages h.distinct k.distinct
      (λ p q i j x. both_ways (is_unmarked b q) (subst (λ r. is_unmarked b r ≡ false) x (h.marked p i)) (k.fresh q j));
  fresh = λ p i. elim (IsIn-cases p h.pages k.pages i) [
    | inl j ↦ h.fresh p j
    | inr j ↦ (elim (cases_Bool (is_unmarked a p)) [
      | inl e ↦ e
      | inr e ↦ absurd (both_ways (is_unmarked b p) (still_marked p e) (k.fresh p j))
    ])
  ];
  marked = λ p i. elim (IsIn-cases p h.pages k.pages i) [
    | inl j ↦ ap (λ o. option_map_or is_none o false) (k.kept.marks p (h.marked p j)) ∙ h.marked p j
    | inr j ↦ k.marked p j
  ];
  kept = keeps_then a b c h.kept k.kept;
}
  where
    still_marked : (p : ℕ) → is_unmarked a p ≡ false → is_unmarked b p ≡ false
    still_marked p e = ap (λ o. option_map_or is_none o false) (h.kept.marks p e) ∙ e

-- logs

-- nothing was marked and nothing read
pub log_none : {step : Step} {Q : List ℕ → Type 0} (size : ℕ) (marks marks' : List Mark) (s : SourceState) → marks' ≡ marks → ((file : List ℕ) → Q file)
    → HasLog step (Reads size marks marks') Q s s
log_none size marks marks' s e q = logs.has_none s s refl refl (reads_none size marks marks' (subst (λ m. KeepsMarks marks m) (sym e) (keeps_same marks))) q

-- a page was marked, and then read
pub log_page : {step : Step} (Q : List ℕ → Type 0) {T : List ℕ → Type 0} (size : ℕ) (marks marks' : List Mark) (p : ℕ) (m : Mark) {old new : SourceState}
    → page_mark marks p ≡ Some Unmarked → marks' ≡ set marks (p - 1) m → IsUse m → HasLog step (λ log. log ≡ page_range size p ∷ []) Q old new
    → ((file : List ℕ) → Q file → T file)
    → HasLog step (Reads size marks marks') T old new
log_page Q size marks marks' p m h e used k q = logs.has_weaker (λ log. log ≡ page_range size p ∷ []) Q k
    (λ log l. subst (Reads size marks marks') (sym l) (subst (λ l. Reads size marks l (page_range size p ∷ [])) (sym e)
    (reads_page size marks p m h used.cleared used.some))) q

-- one page was read, or the source failed
pub log_load : {step : Step} {old new : SourceState} (size p : ℕ) (bytes : List ℕ) (r : Result (Unit {0}) ReadFailed) → new.bytes ≡ old.bytes → length bytes
    ≡ size
    → step old.trail (answer r ((p - 1) * size) bytes) new.trail × OnOk r (IfSome old.bytes (λ file. IsRangeOf file ((p - 1) * size) bytes))
    → HasLog step (λ log. log ≡ page_range size p ∷ []) (λ file. OnOk r (IsRangeOf file ((p - 1) * size) bytes)) old new
log_load size p bytes r told e h = logs.has_one r ((p - 1) * size) bytes told h.0 h.1 (ap (λ n. range ((p - 1) * size) n ∷ []) e) (λ file f. f)

-- one log after another
pub log_then : {step : Step} (Q Q' : List ℕ → Type 0) {T : List ℕ → Type 0} {size size' : ℕ} {a b c : List Mark} {old mid new : SourceState} → size' ≡ size
    → HasLog step (Reads size a b) Q old mid → HasLog step (Reads size' b c) Q' mid new → ((file : List ℕ) → Q file → Q' file → T file)
    → HasLog step (Reads size a c) T old new
log_then {step} Q Q' {size = size} {a = a} {b = b} {c = c} {mid = mid} {new = new} e h k q =
    logs.has_append (Reads size a b) (Reads size b c) Q Q' h (subst (λ n. HasLog step (Reads n b c) Q' mid new) e k) (λ l m p q. reads_then size a b c l m p q)
    q

-- a walk in which nothing failed, and then another, as calls
pub asks_then : {A B : Type 0} {step : Step} (Q Q' : List ℕ → Type 0) {T : List ℕ → Type 0} {size size' : ℕ} {a b c : List Mark} {u : A} {r : Result B RunError}
    {old mid new : SourceState} → size' ≡ size
    → Asks step (Reads size a b) Q is_read_failed (Ok u) old mid → Asks step (Reads size' b c) Q' is_read_failed r mid new
    → ((file : List ℕ) → Q file → Q' file → T file)
    → Asks step (Reads size a c) T is_read_failed r old new
asks_then Q Q' {r = r} e h k q = record { log = log_then Q Q' e h.log k.log q; count = k.count ∙ ap (failures_after is_read_failed r) h.count }
