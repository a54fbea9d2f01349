-- The last of a page, and what an index names for it.
use Rattle.std.proofs.Common.{◌≡◌, ℕ, suc, zero, ◌<◌, ◌≤◌, Bool, true, false, cond, List, [], ◌∷◌, length, get_or}
use Rattle.std.proofs.Common.{refl, sym, ap, ◌∙◌, arith, inl, inr}
use Rattle.std.specs.Prelude.{◌⊎◌, ◌==◌, Option, Some, None, slice_index}
use Rattle.std.specs.List.{fold}
use Rattle.std.proofs.lemmas.Bool.Decides.{nat_tests}
use Rattle.dblog.specs.Entries.{IsIndexOf, named_frame}
use Rattle.dblog.specs.declared.entry.Entry.{Entry}
use Rattle.dblog.proofs.Named.{any_default, named_none, named_some, no_entry}

-- ---- the last of a page

pub last_none : {X : Type 0} (page_of : X → ℕ) (d : X) (page : ℕ) (xs : List X) (found : Option X)
    → ((k : ℕ) → k < length xs → page_of (get_or xs k d) ≡ page → ⊥)
    → fold (λ found x. cond (page_of x == page) (Some x) found) found xs ≡ found
last_none page_of d page [] found h = refl
last_none page_of d page (x ∷ xs) found h =
    let other : page_of x ≡ page → ⊥ = h 0 (omega arith) in
    let test : (page_of x == page) ≡ false = grind (arith, nat_tests) in
    rw test (last_none page_of d page xs found (λ k l. h (suc k) (omega arith)))

pub last_at : {X : Type 0} (page_of : X → ℕ) (d : X) (page k : ℕ) (xs : List X) (found : Option X) → k < length xs
    → page_of (get_or xs k d) ≡ page
    → ((j : ℕ) → k < j → j < length xs → page_of (get_or xs j d) ≡ page → ⊥)
    → fold (λ found x. cond (page_of x == page) (Some x) found) found xs ≡ Some (get_or xs k d)
last_at page_of d page k [] found l is h = absurd (omega arith)
last_at page_of d page zero (x ∷ xs) found l is h =
    let test : (page_of x == page) ≡ true = grind (arith, nat_tests) in
    rw test (last_none page_of d page xs (Some x) (λ j m. h (suc j) (omega arith) (omega arith)))
last_at page_of d page (suc k) (x ∷ xs) found l is h =
    last_at page_of d page k xs (cond (page_of x == page) (Some x) found) (omega arith) is (λ j m n. h (suc j) (omega arith) (omega arith))

-- ---- the entry of a page

abbrev IsPlace : ℕ → List Entry → ℕ → Type 0
IsPlace page es i = (i < length es) × ((get_or es i no_entry).page ≡ page) × ((k : ℕ) → k < i → (get_or es k no_entry).page ≡ page → ⊥)

abbrev HasNone : ℕ → List Entry → Type 0
HasNone page es = (k : ℕ) → k < length es → (get_or es k no_entry).page ≡ page → ⊥

place_of : (page : ℕ) (es : List Entry) → ((i : ℕ) × IsPlace page es i) ⊎ HasNone page es
place_of page [] = inr (λ k l. absurd (omega arith))
place_of page (e ∷ es) = by_test (e.page == page) refl (place_of page es)
  where
    one_later : (k : ℕ) → (e.page ≡ page → ⊥) → ((j : ℕ) → j < k → (get_or es j no_entry).page ≡ page → ⊥)
        → (j : ℕ) → j < suc k → (get_or (e ∷ es) j no_entry).page ≡ page → ⊥
    one_later k n h zero l is = n is
    one_later k n h (suc j) l is = h j (omega arith) is

    by_test : (b : Bool) → b ≡ (e.page == page) → ((i : ℕ) × IsPlace page es i) ⊎ HasNone page es
        → ((i : ℕ) × IsPlace page (e ∷ es) i) ⊎ HasNone page (e ∷ es)
    by_test true t r = let is : e.page ≡ page = grind (arith, nat_tests) in inl (0, (omega arith, is, λ k l. absurd (omega arith)))
    by_test false t (inl (i, (l, is, h))) =
        let n : e.page ≡ page → ⊥ = λ z. grind (arith, nat_tests) in inl (suc i, (omega arith, is, one_later i n h))
    by_test false t (inr h) = let n : e.page ≡ page → ⊥ = λ z. grind (arith, nat_tests) in inr (one_later (length es) n h)

cases_order : (a b : ℕ) → (a < b) ⊎ ((a ≡ b) ⊎ (b < a))
cases_order a b = grind arith

-- ---- what an index names

-- it names the last place of a page, if there is one
abbrev pub IsIndexed : List Entry → List ℕ → ℕ → Type 0
IsIndexed es pages page =
    ((k : ℕ) × (k < length pages) × (named_frame es page ≡ Some k) × (slice_index pages k ≡ page)
    × ((j : ℕ) → k < j → j < length pages → slice_index pages j ≡ page → ⊥))
    ⊎ ((named_frame es page ≡ None) × ((j : ℕ) → j < length pages → slice_index pages j ≡ page → ⊥))

pub index_at : (es : List Entry) (pages : List ℕ) (page : ℕ) → 0 < page → IsIndexOf es pages → IsIndexed es pages page
index_at es pages page some is = by_place (place_of page es)
  where
    by_place : ((i : ℕ) × IsPlace page es i) ⊎ HasNone page es → IsIndexed es pages page
    by_place (inl (i, (l, here, before))) =
        let names = is.names i no_entry l in
        inl ((get_or es i no_entry).frame, names.0, named_some page i es l here before, names.1 ∙ here, after)
      where
        after : (j : ℕ) → (get_or es i no_entry).frame < j → j < length pages → slice_index pages j ≡ page → ⊥
        after j m n z =
            let (q, x, inside, at, (xp, xf)) = is.last j n (omega (arith, z, some)) in
            let here_too : x.page ≡ page = xp ∙ z in
            let same : get_or es q no_entry ≡ x = sym (any_default es q x inside) ∙ at in
            by_order {q = q} (cases_order q i) x inside same here_too j xf m
          where
            by_order : {q : ℕ} → (q < i) ⊎ ((q ≡ i) ⊎ (i < q)) → (x : Entry) → q < length es → get_or es q no_entry ≡ x → x.page ≡ page
                → (j : ℕ) → j ≤ x.frame → (get_or es i no_entry).frame < j → ⊥
            by_order {q} (inl m) x inside same z j f n = before q m (ap (λ (y : Entry). y.page) same ∙ z)
            by_order {q} (inr (inl m)) x inside same z j f n =
                let e : (get_or es i no_entry).frame ≡ x.frame = ap (λ k. (get_or es k no_entry).frame) (sym m) ∙ ap (λ (y : Entry). y.frame) same in
                omega arith
            by_order {q} (inr (inr m)) x inside same z j f n =
                let r = is.rising i q no_entry m inside in
                let e : (get_or es q no_entry).page ≡ page = ap (λ (y : Entry). y.page) same ∙ z in
                omega (arith, here)
    by_place (inr none) = inr (
      named_none page es none,
      λ j n z.
          let (q, x, inside, at, (xp, xf)) = is.last j n (omega (arith, z, some)) in
          none q inside (ap (λ (y : Entry). y.page) (sym (any_default es q x inside) ∙ at) ∙ xp ∙ z),
    )
