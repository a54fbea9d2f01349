-- Entries that others replace are not missed.
use Rattle.std.proofs.Common.{◌≡◌, ℕ, ◌<◌, ◌≤◌, ◌+◌, suc, zero, Bool, true, false, List, [], ◌∷◌}
use Rattle.std.proofs.Common.{length, get_or, refl, sym, ap, subst, ◌∙◌, ◌++◌, take, inl, inr, arith, cond}
use Rattle.std.specs.Prelude.{◌⊎◌, nat_lt, slice_index}
use Rattle.std.specs.List.{All, AllPairs, Any, filter}
use Rattle.std.specs.List.Sorted.{IsPermutation}
use Rattle.std.specs.Ordering.{is_lt, nat_cmp, ordering_then}
use Rattle.std.proofs.lemmas.Bool.Decides.{nat_tests}
use Rattle.std.proofs.lemmas.List.{get_or-take, get_or_append_left, length-take-le, get_or_push, length-append, length_push, take_at}
use Rattle.std.proofs.lemmas.List.Quantifiers.{Any-push}
use Rattle.std.proofs.lemmas.List.Elements.{All-cons, All-filter, All-head, filter_passes, All-nil, All-push, All-tail}
use Rattle.std.proofs.lemmas.List.Kept.{AllPairs-cons}
use Rattle.std.proofs.lemmas.List.Sorted.{All-permutation, Contains-permutation}
use native.Mathlib.Numerals.{unary_clauses}
use Rattle.dblog.specs.Entries.{Gathers, IsIndexOf, NamesFrame, is_replaced, is_replaced_by_first, latest}
use Rattle.dblog.specs.declared.entry.Entry.{Entry}

-- ---- some element of a list

pub any_first : {X : Type 0} (P : X → Type 0) (x : X) (xs : List X) → P x → Any P (x ∷ xs)
any_first P x xs p = (0, x, omega arith, refl, p)

pub any_later : {X : Type 0} (P : X → Type 0) (x : X) (xs : List X) → Any P xs → Any P (x ∷ xs)
any_later P x xs (k, y, l, e, p) = (suc k, y, omega arith, e, p)

pub any_split : {X : Type 0} (P : X → Type 0) (x : X) (xs : List X) → Any P (x ∷ xs) → P x ⊎ Any P xs
any_split P x xs (zero, y, l, e, p) = inl (subst P (sym e) p)
any_split P x xs (suc k, y, l, e, p) = inr (k, y, omega arith, e, p)

pub any_permutation : {X : Type 0} (P : X → Type 0) (xs ys : List X) → IsPermutation xs ys → Any P xs → Any P ys
any_permutation P xs ys h (k, y, l, e, p) = let (j, m, f) = Contains-permutation xs ys y h (k, l, e) in (j, y, m, f, p)

-- ---- the entries that the next one does not replace

all_latest_by : (P : Entry → Type 0) (b : Bool) (e : Entry) (es : List Entry) → P e → All P es → All P (cond b es (e ∷ es))
all_latest_by P true e es p h = h
all_latest_by P false e es p h = All-cons P e es p h

-- what holds of all holds of them
pub all_latest : (P : Entry → Type 0) (count : ℕ) (es : List Entry) → All P es → All P (latest count es)
all_latest P count [] h = h
all_latest P count (e ∷ es) h =
    all_latest_by P (is_replaced_by_first count e es) e (latest count es) (All-head P e es h) (all_latest P count es (All-tail P e es h))

any_of_rest : (P : Entry → Type 0) (count : ℕ) → ((e f : Entry) → is_replaced count e f ≡ true → P e → P f)
    → (e : Entry) (es : List Entry) → is_replaced_by_first count e es ≡ true → P e → Any P es
any_of_rest P count over e [] r p = absurd cc
any_of_rest P count over e (f ∷ fs) r p = any_first P f fs (over e f r p)

any_latest_by : (P : Entry → Type 0) (b : Bool) (e : Entry) (es : List Entry) → (b ≡ true → P e → Any P es) → P e ⊎ Any P es → Any P (cond b es (e ∷ es))
any_latest_by P true e es over (inl p) = over refl p
any_latest_by P true e es over (inr h) = h
any_latest_by P false e es over (inl p) = any_first P e es p
any_latest_by P false e es over (inr h) = any_later P e es h

any_latest_part : (P : Entry → Type 0) (es fs : List Entry) (e : Entry) → (Any P es → Any P fs) → P e ⊎ Any P es → P e ⊎ Any P fs
any_latest_part P es fs e f (inl p) = inl p
any_latest_part P es fs e f (inr h) = inr (f h)

-- what holds of one, and of each that replaces one of which it holds, holds of one of them
pub any_latest : (P : Entry → Type 0) (count : ℕ) → ((e f : Entry) → is_replaced count e f ≡ true → P e → P f)
    → (es : List Entry) → Any P es → Any P (latest count es)
any_latest P count over [] h = h
any_latest P count over (e ∷ es) h =
    let go : Any P es → Any P (latest count es) = any_latest P count over es in
    any_latest_by P (is_replaced_by_first count e es) e (latest count es) (λ r p. go (any_of_rest P count over e es r p))
    (any_latest_part P es (latest count es) e go (any_split P e es h))

-- an entry that replaces one that is not before frame k is not before it either
abbrev pub IsFor : ℕ → ℕ → ℕ → Entry → Type 0
IsFor page k count e = (e.page ≡ page) × (k ≤ e.frame) × (k < count → e.frame < count)

for_replaced : (page k count : ℕ) (e f : Entry) → is_replaced count e f ≡ true → IsFor page k count e → IsFor page k count f
for_replaced page k count e f r h = grind (arith, nat_tests)

pub gathers_latest : (old new : List Entry) (pages : List ℕ) (count : ℕ) → IsPermutation old new → Gathers old pages count
    → Gathers (latest count new) pages count
gathers_latest old new pages count h k = record {
  names = all_latest (NamesFrame pages) count new (All-permutation (NamesFrame pages) old new h k.names);
  last = λ n l m. any_latest (IsFor (slice_index pages n) n count) count (for_replaced (slice_index pages n) n count) new
      (any_permutation (IsFor (slice_index pages n) n count) old new h (k.last n l m));
}

-- ---- their pages rise, where all are committed

abbrev pub IsSortedEntries : List Entry → Type 0
IsSortedEntries es = (k : ℕ) (d : Entry) → 0 ≤ k → k + 1 < length es
    → is_lt (ordering_then (nat_cmp (get_or es (k + 1) d).page (get_or es k d).page) (nat_cmp (get_or es (k + 1) d).frame (get_or es k d).frame)) ≡ false

before_from : (e f : Entry) → is_lt (ordering_then (nat_cmp f.page e.page) (nat_cmp f.frame e.frame)) ≡ false → e.page ≤ f.page
before_from e f h = grind (arith, nat_tests)

before_frame : (e f : Entry) → is_lt (ordering_then (nat_cmp f.page e.page) (nat_cmp f.frame e.frame)) ≡ false → e.page ≡ f.page → e.frame ≤ f.frame
before_frame e f h p = grind (arith, nat_tests)

sorted_rest : (e : Entry) (es : List Entry) → IsSortedEntries (e ∷ es) → IsSortedEntries es
sorted_rest e es h k d z l = simp unary_clauses (simp unary_clauses at (h (suc k) d (omega arith) (omega arith)))

-- no later page is below the first
sorted_pages : (e : Entry) (es : List Entry) → IsSortedEntries (e ∷ es) → All (λ f. e.page ≤ f.page) es
sorted_pages e [] h = All-nil (λ f. e.page ≤ f.page)
sorted_pages e (f ∷ fs) h =
    let here : e.page ≤ f.page = before_from e f (h 0 e (omega arith) (omega arith)) in
    let rest : All (λ g. f.page ≤ g.page) fs = sorted_pages f fs (sorted_rest e (f ∷ fs) h) in
    All-cons (λ g. e.page ≤ g.page) f fs here (λ k d l. let r = rest k d l in omega arith)

-- one that is not replaced has a lower page than all after it
above_first : (count : ℕ) (e : Entry) (es : List Entry) → IsSortedEntries (e ∷ es) → All (λ f. f.frame < count) (e ∷ es)
    → is_replaced_by_first count e es ≡ false → All (λ f. e.page < f.page) es
above_first count e [] h u r = All-nil (λ f. e.page < f.page)
above_first count e (f ∷ fs) h u r =
    let at : is_lt (ordering_then (nat_cmp f.page e.page) (nat_cmp f.frame e.frame)) ≡ false = h 0 e (omega arith) (omega arith) in
    let le : e.page ≤ f.page = before_from e f at in
    let fr : e.page ≡ f.page → e.frame ≤ f.frame = before_frame e f at in
    let used : f.frame < count = u 1 e (omega arith) in
    let here : e.page < f.page = lower count e f le fr used r in
    All-cons (λ g. e.page < g.page) f fs here (λ k d l. let s = sorted_pages f fs (sorted_rest e (f ∷ fs) h) k d l in omega arith)
  where
    lower : (count : ℕ) (e f : Entry) → e.page ≤ f.page → (e.page ≡ f.page → e.frame ≤ f.frame) → f.frame < count → is_replaced count e f ≡ false
        → e.page < f.page
    lower count e f le fr used r = grind (arith, nat_tests)

rising_by : (b : Bool) (e : Entry) (es : List Entry) → (b ≡ false → All (λ f. e.page < f.page) es) → AllPairs (λ d f. d.page < f.page) es
    → AllPairs (λ d f. d.page < f.page) (cond b es (e ∷ es))
rising_by true e es above h = h
rising_by false e es above h = AllPairs-cons (λ d f. d.page < f.page) e es (above refl) h

pub latest_rising : (count : ℕ) (es : List Entry) → IsSortedEntries es → All (λ e. e.frame < count) es → AllPairs (λ d e. d.page < e.page) (latest count es)
latest_rising count [] h u = λ i j d l m. absurd (omega arith)
latest_rising count (e ∷ es) h u =
    rising_by (is_replaced_by_first count e es) e (latest count es)
    (λ r. all_latest (λ f. e.page < f.page) count es (above_first count e es h u r))
    (latest_rising count es (sorted_rest e es h) (All-tail (λ f. f.frame < count) e es u))

-- the first elements of a vector after its slice was written
pub front_written : (new xs ys : List Entry) (n len : ℕ) → length xs ≡ len → new ≡ take n (take len (xs ++ ys)) → new ≡ take n xs
front_written new xs ys n len h e = e ∙ ap (take n) (take_at xs ys len h)

-- ---- what is gathered, step by step

any_with : {X : Type 0} (P Q : X → Type 0) (xs : List X) → All P xs → Any Q xs → Any (λ x. P x × Q x) xs
any_with P Q xs h (k, x, l, e, q) = (k, x, l, e, (subst P e (h k x l), q))

any_weaker : {X : Type 0} (P Q : X → Type 0) (xs : List X) → ((x : X) → P x → Q x) → Any P xs → Any Q xs
any_weaker P Q xs f (k, x, l, e, p) = (k, x, l, e, f x p)

pub any_append : {X : Type 0} (P : X → Type 0) (xs ys : List X) → Any P xs → Any P (xs ++ ys)
any_append P xs ys (k, x, l, e, p) = (k, x, omega (arith, length-append xs ys), get_or_append_left xs ys x k l ∙ e, p)

names_more : (pages more : List ℕ) (e : Entry) → NamesFrame pages e → NamesFrame (pages ++ more) e
names_more pages more e h = (omega (arith, h.0, length-append pages more), get_or_append_left pages more 0 e.frame h.0 ∙ h.1)

pub below_cases : (k n : ℕ) → k < n + 1 → (k < n) ⊎ (k ≡ n)
below_cases k n l = by_test (nat_lt k n) refl
  where
    by_test : (b : Bool) → b ≡ nat_lt k n → (k < n) ⊎ (k ≡ n)
    by_test true e = inl (grind (arith, nat_tests))
    by_test false e = inr (grind (arith, nat_tests))

-- one more frame
pub gathers_more : (es : List Entry) (pages : List ℕ) (page frame count new : ℕ) → length pages ≡ frame → count ≤ frame → (new ≡ count) ⊎ (new ≡ frame + 1)
    → Gathers es pages count → Gathers (es ++ (record { page = page; frame = frame }) ∷ []) (pages ++ page ∷ []) new
gathers_more es pages page frame count new long least moved h = record {
  names = All-push (NamesFrame (pages ++ page ∷ [])) es (record { page = page; frame = frame })
      (λ k d l. names_more pages (page ∷ []) (get_or es k d) (h.names k d l)) (omega (arith, length_push pages page), get_or_push pages page 0 frame long);
  last = λ k l m. by_place k m (below_cases k (length pages) (omega (arith, length_push pages page)));
}
  where
    older : (k : ℕ) → k < length pages → (e : Entry) → NamesFrame pages e × IsFor (slice_index pages k) k count e
        → IsFor (slice_index (pages ++ page ∷ []) k) k new e
    older k l e f = (f.1.0 ∙ sym (get_or_append_left pages (page ∷ []) 0 k l), f.1.1, reaches (f.0.0) f.1.2 moved)
      where
        reaches : e.frame < length pages → (k < count → e.frame < count) → (new ≡ count) ⊎ (new ≡ frame + 1) → k < new → e.frame < new
        reaches a b (inl m) = λ z. omega arith
        reaches a b (inr m) = λ z. omega arith

    newest : (k : ℕ) → k ≡ length pages → (new ≡ count) ⊎ (new ≡ frame + 1) → k < new → frame < new
    newest k e (inl m) z = absurd (omega arith)
    newest k e (inr m) z = omega arith

    by_place : (k : ℕ) → 0 < slice_index (pages ++ page ∷ []) k → (k < length pages) ⊎ (k ≡ length pages)
        → Any (IsFor (slice_index (pages ++ page ∷ []) k) k new) (es ++ (record { page = page; frame = frame }) ∷ [])
    by_place k m (inl l) = any_append (IsFor (slice_index (pages ++ page ∷ []) k) k new) es ((record { page = page; frame = frame }) ∷ [])
        (any_weaker (λ e. NamesFrame pages e × IsFor (slice_index pages k) k count e) (IsFor (slice_index (pages ++ page ∷ []) k) k new) es (older k l)
        (any_with (NamesFrame pages) (IsFor (slice_index pages k) k count) es h.names
        (h.last k l (subst (λ n. 0 < n) (get_or_append_left pages (page ∷ []) 0 k l) m))))
    by_place k m (inr e) = Any-push (IsFor (slice_index (pages ++ page ∷ []) k) k new) es (record { page = page; frame = frame })
        (sym (get_or_push pages page 0 k (sym e)), omega arith, newest k e moved)

-- the filter that keeps what is committed
any_filter : (P : Entry → Type 0) (p : Entry → Bool) → ((e : Entry) → P e → p e ≡ true) → (es : List Entry) → Any P es → Any P (filter p es)
any_filter P p passes [] h = h
any_filter P p passes (e ∷ es) h = by_test (p e) refl (any_filter_part (any_split P e es h) (any_filter P p passes es))
  where
    any_filter_part : P e ⊎ Any P es → (Any P es → Any P (filter p es)) → P e ⊎ Any P (filter p es)
    any_filter_part (inl x) f = inl x
    any_filter_part (inr x) f = inr (f x)

    by_test : (b : Bool) → b ≡ p e → P e ⊎ Any P (filter p es) → Any P (cond b (e ∷ filter p es) (filter p es))
    by_test true r (inl x) = any_first P e (filter p es) x
    by_test true r (inr x) = any_later P e (filter p es) x
    by_test false r (inl x) = absurd (cc (passes e x))
    by_test false r (inr x) = x

pub gathers_committed : (es : List Entry) (pages : List ℕ) (count : ℕ) → count ≤ length pages → Gathers es pages count
    → Gathers (filter (λ e. nat_lt e.frame count) es) (take count pages) count
gathers_committed es pages count le h = record {
  names = λ k d l. names_first (get_or kept k d) (All-filter p (NamesFrame pages) es h.names k d l) (filter_passes p es k d l);
  last = λ k l m. let lt : k < count = omega (arith, length-take-le count pages le) in
      any_filter (IsFor (slice_index (take count pages) k) k count) p (λ e f. passes e (f.2 lt)) es
      (any_weaker (IsFor (slice_index pages k) k count) (IsFor (slice_index (take count pages) k) k count) es
      (λ e f. (f.0 ∙ sym (get_or-take count pages k 0 lt), f.1, f.2)) (h.last k (omega arith) (subst (λ n. 0 < n) (get_or-take count pages k 0 lt) m)));
}
  where
    p : Entry → Bool
    p = λ e. nat_lt e.frame count

    kept : List Entry
    kept = filter (λ e. nat_lt e.frame count) es

    passes : (e : Entry) → e.frame < count → nat_lt e.frame count ≡ true
    passes e l = grind (arith, nat_tests)

    names_first : (e : Entry) → NamesFrame pages e → nat_lt e.frame count ≡ true → NamesFrame (take count pages) e
    names_first e f t =
        let lt : e.frame < count = grind (arith, nat_tests) in
        (omega (arith, lt, length-take-le count pages le), get_or-take count pages e.frame 0 lt ∙ f.1)

-- so the entries that are left are the index of the committed frames
pub index_of_committed : (es new : List Entry) (pages : List ℕ) (count : ℕ) → count ≤ length pages
    → ((ps : List ℕ) → Gathers (filter (λ e. nat_lt e.frame count) es) ps count → Gathers new ps count)
    → AllPairs (λ d e. d.page < e.page) new → Gathers es pages count → IsIndexOf new (take count pages)
index_of_committed es new pages count le keeps rising h =
    let k = keeps (take count pages) (gathers_committed es pages count le h) in
    record {
      rising = rising;
      names = k.names;
      last =
          λ n l m. any_weaker (IsFor (slice_index (take count pages) n) n count) (λ e. (e.page ≡ slice_index (take count pages) n) × (n ≤ e.frame)) new
          (λ e f. (f.0, f.1)) (k.last n l m);
    }

pub all_committed : (es : List Entry) (count : ℕ) → All (λ e. e.frame < count) (filter (λ e. nat_lt e.frame count) es)
all_committed es count k d l = let t = filter_passes (λ e. nat_lt e.frame count) es k d l in grind (arith, nat_tests)

-- no frame at the next place
gathers_zero : (es : List Entry) (pages : List ℕ) (count : ℕ) → Gathers es pages count → Gathers es (pages ++ 0 ∷ []) count
gathers_zero es pages count h = record {
  names = λ k d l. names_more pages (0 ∷ []) (get_or es k d) (h.names k d l);
  last = λ k l m. by_place k m (below_cases k (length pages) (omega (arith, length_push pages 0)));
}
  where
    by_place : (k : ℕ) → 0 < slice_index (pages ++ 0 ∷ []) k → (k < length pages) ⊎ (k ≡ length pages)
        → Any (IsFor (slice_index (pages ++ 0 ∷ []) k) k count) es
    by_place k m (inl l) =
        let e = get_or_append_left pages (0 ∷ []) 0 k l in
        subst (λ n. Any (IsFor n k count) es) (sym e) (h.last k l (subst (λ n. 0 < n) e m))
    by_place k m (inr e) = absurd (omega (arith, m, get_or_push pages 0 0 k (sym e)))

-- n places more
abbrev pub pad : ℕ → List ℕ → List ℕ
pad zero pages = pages
pad (suc n) pages = pad n (pages ++ 0 ∷ [])

pub length_pad : (n : ℕ) (pages : List ℕ) → length (pad n pages) ≡ length pages + n
length_pad zero pages = omega arith
length_pad (suc n) pages = length_pad n (pages ++ 0 ∷ []) ∙ omega (arith, length_push pages 0)

pub gathers_pad : (n : ℕ) (es : List Entry) (pages : List ℕ) (count : ℕ) → Gathers es pages count → Gathers es (pad n pages) count
gathers_pad zero es pages count h = h
gathers_pad (suc n) es pages count h = gathers_pad n es (pages ++ 0 ∷ []) count (gathers_zero es pages count h)
