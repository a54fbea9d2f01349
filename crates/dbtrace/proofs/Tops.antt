-- The greatest key so far is the first of the greatest keys.
use Rattle.std.proofs.Common.{◌≡◌, ℤ, int_lt, ◌↔◌, inl, inr, Bool, true, false, cond, not, ◌&&◌, ◌||◌, List, [], ◌∷◌, ◌++◌, map, Option, Some, None, refl, sym}
use Rattle.std.proofs.Common.{ap, subst, arith, ◌∙◌, append_assoc}
use Rattle.std.specs.Prelude.{find, option_map}
use Rattle.std.specs.List.{list_any}
use Rattle.std.proofs.lemmas.Bool.{cases_Bool, both_ways, not-true}
use Rattle.std.proofs.lemmas.Int.{ints}
use Rattle.std.proofs.lemmas.List.{append-nil}
use Rattle.dbtrace.proofs.Common.{IsIn, Address, IsBefore, IsAscending, is_before, Key, cell_key, top_key, key_value}
use Rattle.dbsurvey.specs.Greatest.{greatest_from}
use Rattle.dbsurvey.proofs.Lists.{any_none, list_any-false, find-none, find-some}
use Rattle.dbsurvey.proofs.Order.{IsIn-left, IsIn-right, IsIn-cases, IsBefore-irreflexive, IsBefore-trans, EachPair-across, cases_before}
use Rattle.dbsurvey.proofs.Ordering.{is_before-means, is_before-not, is_before-itself, one_at_key}
use Rattle.dbsurvey.proofs.Running.{int_line}
use Rattle.dbtrace.specs.Causes.{is_above}
use Rattle.dbtrace.specs.Progress.{key_entry, greater_key, greatest_after}
use Rattle.dbtrace.specs.declared.CellKey.{CellKey}

-- its value is the greatest of the values
pub values : (top : Option CellKey) (keys : List Key) → key_value (greatest_after top keys) ≡ greatest_from int_lt (key_value top) (map key_entry keys)
values top [] = refl
values None (k ∷ keys) = values (Some (cell_key k)) keys
values (Some top) (k ∷ keys) = by_test (int_lt top.value k.value) (values (Some (cell_key k)) keys) (values (Some top) keys)
  where
    by_test : (b : Bool) → key_value (greatest_after (Some (cell_key k)) keys) ≡ greatest_from int_lt (Some k.value) (map key_entry keys)
        → key_value (greatest_after (Some top) keys) ≡ greatest_from int_lt (Some top.value) (map key_entry keys)
        → key_value (greatest_after (cond b (Some (cell_key k)) (Some top)) keys)
        ≡ greatest_from int_lt (cond b (Some k.value) (Some top.value)) (map key_entry keys)
    by_test true g h = g
    by_test false g h = h

-- which key is above which

above_none : (x y z : Bool) → x ≡ false → (y ≡ false → z ≡ false) → (x || (not y && z)) ≡ false
above_none true y z a b = a
above_none false true z a b = refl
above_none false false z a b = b refl

above_parts : (x y z : Bool) → (x || (not y && z)) ≡ false → (x ≡ false) × (y ≡ false → z ≡ false)
above_parts true y z e = absurd (both_ways true e refl)
above_parts false true z e = (refl, λ f. absurd (both_ways true f refl))
above_parts false false z e = (refl, λ f. e)

not_before : (a b : Address) → (IsBefore a b → ⊥) → is_before a b ≡ false
not_before a b h = elim (cases_Bool (is_before a b)) [ inl e ↦ absurd (h (is_before-means a b e)) | inr e ↦ e ]

less_then : (d e j : ℤ) → int_lt d e ≡ true → int_lt d j ≡ false → (int_lt e j ≡ false) × (int_lt j e ≡ true)
less_then d e j h k = (grind (arith, ints), grind (arith, ints))

-- one of the keys, and none is above it; or there is no key
abbrev pub IsTop : List Key → Option CellKey → Type 0
IsTop before None = before ≡ []
IsTop before (Some top) = (d : Key) × IsIn d before × (cell_key d ≡ top) × ((j : Key) → IsIn j before → is_above j d ≡ false)

not_above_itself : (d : Key) → is_above d d ≡ false
not_above_itself d = above_none (int_lt d.value d.value) (int_lt d.value d.value) (is_before d.place d.place) (int_line.irreflexive d.value)
    (λ e. is_before-itself d.place)

top_more : (before : List Key) (top : Option CellKey) (e : Key) → IsTop before top → ((j : Key) → IsIn j before → IsBefore j.place e.place)
    → IsTop (before ++ (e ∷ [])) (greater_key top (cell_key e))
top_more before None e h p = (
  e,
  IsIn-right e before (e ∷ []) (inl refl),
  refl,
  λ j i. elim (IsIn-cases j before (e ∷ []) i) [
    | inl b ↦ absurd (subst (λ l. IsIn j l) h b)
    | inr n ↦ (elim n [ inl f ↦ subst (λ j. is_above j e ≡ false) (sym f) (not_above_itself e) | inr x ↦ absurd x ])
  ],
)
top_more before (Some top) e h p = elim (cases_Bool (int_lt top.value e.value)) [
  | inl f ↦ subst (λ b. IsTop (before ++ (e ∷ [])) (cond b (Some (cell_key e)) (Some top))) (sym f) (new (ap (λ t. int_lt t.value e.value) h.2 ∙ f))
  | inr f ↦ subst (λ b. IsTop (before ++ (e ∷ [])) (cond b (Some (cell_key e)) (Some top))) (sym f) (old (ap (λ t. int_lt t.value e.value) h.2 ∙ f))
]
  where
    parts : (j : Key) → IsIn j before → (int_lt h.0.value j.value ≡ false) × (int_lt j.value h.0.value ≡ false → is_before j.place h.0.place ≡ false)
    parts j i = above_parts (int_lt h.0.value j.value) (int_lt j.value h.0.value) (is_before j.place h.0.place) (h.3 j i)

    new : int_lt h.0.value e.value ≡ true → IsTop (before ++ (e ∷ [])) (Some (cell_key e))
    new f = (
      e,
      IsIn-right e before (e ∷ []) (inl refl),
      refl,
      λ j i. elim (IsIn-cases j before (e ∷ []) i) [
        | inl b ↦ (let l = less_then h.0.value e.value j.value f (parts j b).0 in
            above_none (int_lt e.value j.value) (int_lt j.value e.value) (is_before j.place e.place) l.0
            (λ g. absurd (both_ways (int_lt j.value e.value) g l.1)))
        | inr n ↦ (elim n [ inl g ↦ subst (λ j. is_above j e ≡ false) (sym g) (not_above_itself e) | inr x ↦ absurd x ])
      ],
    )

    old : int_lt h.0.value e.value ≡ false → IsTop (before ++ (e ∷ [])) (Some top)
    old f = (
      h.0,
      IsIn-left h.0 before (e ∷ []) h.1,
      h.2,
      λ j i. elim (IsIn-cases j before (e ∷ []) i) [
        | inl b ↦ h.3 j b
        | inr n ↦ (elim n [
          | inl g ↦ subst (λ j. is_above j h.0 ≡ false) (sym g)
              (above_none (int_lt h.0.value e.value) (int_lt e.value h.0.value) (is_before e.place h.0.place) f
              (λ k. not_before e.place h.0.place (λ b. IsBefore-irreflexive e.place (IsBefore-trans e.place h.0.place e.place b (p h.0 h.1)))))
          | inr x ↦ absurd x
        ])
      ],
    )

top_from : (before keys : List Key) (top : Option CellKey) → IsTop before top → IsAscending (λ (k : Key). k.place) (before ++ keys)
    → IsTop (before ++ keys) (greatest_after top keys)
top_from before [] top h asc = subst (λ l. IsTop l top) (sym (append-nil before)) h
top_from before (e ∷ keys) top h asc = subst (λ l. IsTop l (greatest_after (greater_key top (cell_key e)) keys)) (append_assoc before (e ∷ []) keys)
    (top_from (before ++ (e ∷ [])) keys (greater_key top (cell_key e))
    (top_more before top e h (λ j i. EachPair-across (λ (j : Key) (k : Key). IsBefore j.place k.place) before (e ∷ keys) asc j e i (inl refl)))
    (subst (λ l. IsAscending (λ (k : Key). k.place) l) (sym (append_assoc before (e ∷ []) keys)) asc))

-- Of a list with the same keys in another order, it is the one that no other is above.
pub top_found : (keys reported : List Key) → IsAscending (λ (k : Key). k.place) reported → ((j : Key) → IsIn j keys ↔ IsIn j reported)
    → option_map cell_key (top_key keys)
    ≡ greatest_after None reported
top_found keys reported asc same = by_top (greatest_after None reported) (top_from [] reported None refl asc)
  where
    none_above : Key → Bool
    none_above k = not (list_any (λ j. is_above j k) keys)

    no_keys : (l : List Key) → ((j : Key) → IsIn j l → ⊥) → l ≡ []
    no_keys [] h = refl
    no_keys (x ∷ l) h = absurd (h x (inl refl))

    by_top : (top : Option CellKey) → IsTop reported top → option_map cell_key (top_key keys) ≡ top
    by_top None h = ap (λ l. option_map cell_key (top_key l)) (no_keys keys (λ j i. subst (λ l. IsIn j l) h ((same j).0 i)))
    by_top (Some top) h = by_find (find none_above keys) refl
      where
        d : Key
        d = h.0

        passes : none_above d ≡ true
        passes = ap not (any_none (λ j. is_above j d) keys (λ j i. h.3 j ((same j).0 i)))

        by_find : (o : Option Key) → find none_above keys ≡ o → option_map cell_key (find none_above keys) ≡ Some top
        by_find None e = absurd (both_ways (none_above d) (find-none none_above keys e d ((same d).1 h.1)) passes)
        by_find (Some k) e = ap (option_map cell_key) e ∙ ap Some (ap cell_key one ∙ h.2)
          where
            found : IsIn k keys × (none_above k ≡ true)
            found = find-some none_above keys k e

            above_k : (int_lt k.value d.value ≡ false) × (int_lt d.value k.value ≡ false → is_before d.place k.place ≡ false)
            above_k = above_parts (int_lt k.value d.value) (int_lt d.value k.value) (is_before d.place k.place)
                (list_any-false (λ j. is_above j k) keys (not-true (list_any (λ j. is_above j k) keys) found.1) d ((same d).1 h.1))

            above_d : (int_lt d.value k.value ≡ false) × (int_lt k.value d.value ≡ false → is_before k.place d.place ≡ false)
            above_d = above_parts (int_lt d.value k.value) (int_lt k.value d.value) (is_before k.place d.place) (h.3 k ((same k).0 found.0))

            one : k ≡ d
            one = one_at_key (λ (k : Key). k.place) reported asc k d ((same k).0 found.0) h.1 (elim (cases_before k.place d.place) [
              | inl e ↦ e
              | inr b ↦ (elim b [
                | inl b ↦ absurd (is_before-not k.place d.place (above_d.1 above_k.0) b)
                | inr b ↦ absurd (is_before-not d.place k.place (above_k.1 above_d.0) b)
              ])
            ])
