-- The frame that is named for a page, by a search in pages that rise.
use Rattle.std.proofs.Common.{◌≡◌, ℕ, suc, zero, ◌<◌, ◌≤◌, true, false, List, [], ◌∷◌, length, take, drop, get_or, refl, sym, ap, ◌∙◌, arith, inl, inr}
use Rattle.std.specs.Prelude.{◌⊎◌, ◌==◌, nat_lt, Some, None}
use Rattle.std.specs.List.{AllPairs, AllWithin, find}
use Rattle.std.specs.List.Sorted.{IsNonDecreasingBy}
use Rattle.std.specs.Option.{option_map, option_or}
use Rattle.std.proofs.lemmas.Bool.Decides.{nat_tests}
use Rattle.std.proofs.lemmas.List.{drop_more, get_or-take, length-take, take-append-drop}
use Rattle.std.proofs.lemmas.List.Folds.{find-append}
use Rattle.dblog.specs.Entries.{named_frame}
use Rattle.dblog.specs.declared.entry.Entry.{Entry}

-- what stands for an entry where there is none
abbrev pub no_entry : Entry
no_entry = record { page = 0; frame = 0 }

find_none : (page : ℕ) (es : List Entry) → ((k : ℕ) → k < length es → (get_or es k no_entry).page ≡ page → ⊥) → find (λ e. e.page == page) es ≡ None
find_none page [] h = refl
find_none page (e ∷ es) h =
    let other : e.page ≡ page → ⊥ = h 0 (omega arith) in
    let test : (e.page == page) ≡ false = grind (arith, nat_tests) in
    rw test (find_none page es (λ k l. h (suc k) (omega arith)))

-- no entry is one of the page
pub named_none : (page : ℕ) (es : List Entry) → ((k : ℕ) → k < length es → (get_or es k no_entry).page ≡ page → ⊥) → named_frame es page ≡ None
named_none page es h = ap (option_map (λ (e : Entry). e.frame)) (find_none page es h)

-- the entry at a place is one, and none before it is
pub named_some : (page i : ℕ) (es : List Entry) → i < length es → (get_or es i no_entry).page ≡ page
    → ((k : ℕ) → k < i → (get_or es k no_entry).page ≡ page → ⊥) → named_frame es page ≡ Some (get_or es i no_entry).frame
named_some page i es l is h =
    let fore : find (λ e. e.page == page) (take i es) ≡ None = find_none page (take i es) before in
    let test : ((get_or es i no_entry).page == page) ≡ true = grind (arith, nat_tests) in
    let rest : find (λ e. e.page == page) (drop i es) ≡ Some (get_or es i no_entry) = rw (drop_more es i no_entry l) (rw test refl) in
    ap (λ xs. option_map (λ (e : Entry). e.frame) (find (λ e. e.page == page) xs)) (sym (take-append-drop i es))
    ∙ ap (option_map (λ (e : Entry). e.frame)) (find-append (λ e. e.page == page) (take i es) (drop i es)
    ∙ ap (λ o. option_or o (find (λ e. e.page == page) (drop i es))) fore ∙ rest)
  where
    before : (k : ℕ) → k < length (take i es) → (get_or (take i es) k no_entry).page ≡ page → ⊥
    before k m e =
        let n : k < i = omega (arith, length-take i es) in
        h k n (ap (λ (x : Entry). x.page) (sym (get_or-take i es k no_entry n)) ∙ e)

pub any_default : (es : List Entry) (i : ℕ) (d : Entry) → i < length es → get_or es i d ≡ get_or es i no_entry
any_default [] i d l = absurd (omega arith)
any_default (e ∷ es) zero d l = refl
any_default (e ∷ es) (suc i) d l = any_default es i d (omega arith)

-- what is at the place that a binary search finds
pub searched_at : (page i : ℕ) (es : List Entry) (e d : Entry) → AllPairs (λ d e. d.page < e.page) es → e ≡ get_or es i d → i < length es
    → e.page ≡ page → named_frame es page ≡ Some e.frame
searched_at page i es e d rising at l is =
    let same : get_or es i no_entry ≡ e = sym (any_default es i d l) ∙ sym at in
    named_some page i es l (ap (λ (x : Entry). x.page) same ∙ is)
    (λ k m z. absurd (omega (arith, rising k i no_entry m l, z, is, ap (λ (x : Entry). x.page) same)))
    ∙ ap (λ (x : Entry). Some x.frame) same

-- nothing is
pub searched_none : (page i : ℕ) (es : List Entry) → AllPairs (λ d e. d.page < e.page) es
    → AllWithin (λ e. nat_lt e.page page ≡ true) es 0 i → AllWithin (λ e. nat_lt e.page page ≡ false) es i (length es)
    → (i < length es → (get_or es i no_entry).page ≡ page → ⊥) → named_frame es page ≡ None
searched_none page i es rising fore rest other = named_none page es by_place
  where
    by_place : (k : ℕ) → k < length es → (get_or es k no_entry).page ≡ page → ⊥
    by_place k m z = by_order (cases_order k i)
      where
        cases_order : (a b : ℕ) → (a < b) ⊎ ((a ≡ b) ⊎ (b < a))
        cases_order a b = grind arith

        next : i < length es → page < (get_or es i no_entry).page
        next n =
            let t : nat_lt (get_or es i no_entry).page page ≡ false = rest i no_entry (omega arith) n in
            let o : (get_or es i no_entry).page ≡ page → ⊥ = other n in
            grind (arith, nat_tests)

        by_order : (k < i) ⊎ ((k ≡ i) ⊎ (i < k)) → ⊥
        by_order (inl n) = let t : nat_lt (get_or es k no_entry).page page ≡ true = fore k no_entry (omega arith) n in grind (arith, nat_tests)
        by_order (inr (inl n)) =
            let p : page < (get_or es i no_entry).page = next (omega arith) in
            let q : (get_or es k no_entry).page ≡ (get_or es i no_entry).page = ap (λ j. (get_or es j no_entry).page) n in
            omega arith
        by_order (inr (inr n)) =
            let p : page < (get_or es i no_entry).page = next (omega arith) in
            let q : (get_or es i no_entry).page < (get_or es k no_entry).page = rising i k no_entry n m in
            omega arith

-- pages that rise do not fall
pub rising_pages : (es : List Entry) → AllPairs (λ d e. d.page < e.page) es → IsNonDecreasingBy (λ (e : Entry). e.page) es
rising_pages es rising i j d l m = by_order (cases_le i j l)
  where
    cases_le : (a b : ℕ) → a ≤ b → (a < b) ⊎ (a ≡ b)
    cases_le a b n = grind arith

    by_order : (i < j) ⊎ (i ≡ j) → (get_or es i d).page ≤ (get_or es j d).page
    by_order (inl n) = let q = rising i j d n m in omega arith
    by_order (inr e) = let q : (get_or es i d).page ≡ (get_or es j d).page = ap (λ k. (get_or es k d).page) e in omega arith
