-- The greatest key so far is a fold over the events, and by it a key is found to be out of order exactly where it is so after
-- a key of the tree at a smaller place.
use Rattle.std.proofs.Common.{◌≡◌, ℕ, ℤ, int_lt, ◌↔◌, inl, inr, Bool, true, false, cond, not, ◌&&◌, List, [], ◌∷◌, ◌++◌, map, Option, Some, None, refl, sym, ap}
use Rattle.std.proofs.Common.{subst, arith, ◌∙◌}
use Rattle.std.specs.Prelude.{filter, flat_map, int_le, option_map, pos, ◌==◌}
use Rattle.std.specs.List.{list_any}
use Rattle.std.proofs.lemmas.Bool.{and_parts, and_from, eqb-true, eq-eqb, both_ways}
use Rattle.std.proofs.lemmas.Grind.{flat_map-append}
use Rattle.std.proofs.lemmas.Int.{ints}
use Rattle.std.proofs.lemmas.List.{append-nil}
use Rattle.std.proofs.lemmas.List.Elements.{filter-append}
use Rattle.dbtrace.proofs.Common.{IsIn, Address, IsBefore, IsAscending, run, Reported, is_before, visits_in, reported_if, fault, start_of, then_step, key_step}
use Rattle.dbtrace.proofs.Common.{View, cells, Reference, tree_view, Key, key_of, Event, at_page, at_key, at_refused, own_visit, T06, cell_key, top_key}
use Rattle.dbtrace.proofs.Common.{key_value, IsOfEarlierStart, AreOfEarlierStarts, Walk, machine, advance}
use Rattle.dbsurvey.specs.Greatest.{IsOut, IsOutAfter, is_out, greatest_from}
use Rattle.dbsurvey.proofs.Lists.{filter-from, filter-has, filter-none, any_true, any_one}
use Rattle.dbsurvey.proofs.Order.{IsBefore-beginning, IsIn-right, IsIn-cases, EachPair-append, EachPair-left}
use Rattle.dbsurvey.proofs.Ordering.{is_before-means, is_before-from, IsIn-map, IsIn-from_map, IsIn-flat_map, IsIn-from_flat_map}
use Rattle.dbsurvey.proofs.Running.{running_greatest, int_line}
use Rattle.dbformat.specs.KeyFaults.{keys_of_view, keys_at, keys, earlier_keys, is_out_of_order, key_faults}
use Rattle.dbformat.proofs.LookBack.{not_before}
use Rattle.dbformat.proofs.Places.{key_place}
use Rattle.dbtrace.specs.Causes.{key_above}
use Rattle.dbtrace.specs.Progress.{key_entry, greatest_after, late_faults}
use Rattle.dbtrace.specs.declared.CellKey.{CellKey}
use Rattle.dbtrace.proofs.Depths.{other_start}
use Rattle.dbtrace.proofs.Tops.{values, top_found}
use Rattle.dbtrace.proofs.Reported.{visited, trace, reports, IsOf, reported_as, key_reported, below_start, before, visited_before, page_before}

-- the keys of what was reported
abbrev pub keys_reported_at : Event → List Key
keys_reported_at (at_page r) = []
keys_reported_at (at_key r v x) = key_of r v x
keys_reported_at (at_refused r) = []

abbrev pub keys_reported : List (Reported Event) → List Key
keys_reported A = flat_map (λ t. keys_reported_at t.event) A

greatest_both : (top : Option CellKey) (ks js : List Key) → greatest_after top (ks ++ js) ≡ greatest_after (greatest_after top ks) js
greatest_both top [] js = refl
greatest_both top (k ∷ ks) js = greatest_both (greatest_after top (k ∷ [])) ks js

pub greatest_is : (file : List ℕ) (now : Walk) (A : List (Reported Event)) → (run (machine file) now A).state.greatest
    ≡ greatest_after now.state.greatest (keys_reported A)
greatest_is file now [] = refl
greatest_is file now (t ∷ A) = by_event t.event (λ m. greatest_is file m A)
  where
    by_event : (e : Event) → ((m : Walk) → (run (machine file) m A).state.greatest ≡ greatest_after m.state.greatest (keys_reported A))
        → (run (machine file) (advance file now e) A).state.greatest ≡ greatest_after now.state.greatest (keys_reported_at e ++ keys_reported A)
    by_event (at_page r) h = h (advance file now (at_page r))
    by_event (at_key r v x) h = h (advance file now (at_key r v x)) ∙ sym (greatest_both now.state.greatest (key_of r v x) (keys_reported A))
    by_event (at_refused r) h = h (advance file now (at_refused r))

-- keys that are reported at rising places, at most one at each
ascending_keys : (A : List (Reported Event)) → IsAscending (λ (t : Reported Event). t.key) A
    → ((m : Reported Event) → IsIn m A → (j : Key) → IsIn j (keys_reported_at m.event) → j.place ≡ m.key)
    → IsAscending (λ (k : Key). k.place) (keys_reported A)
ascending_keys [] asc at = tt
ascending_keys (t ∷ A) asc at = EachPair-append (λ (j : Key) (k : Key). IsBefore j.place k.place) (keys_reported_at t.event) (keys_reported A) (one t.event)
    (ascending_keys A asc.1 (λ m i. at m (inr i)))
    (λ j k i l. let m = IsIn-from_flat_map (λ t. keys_reported_at t.event) A k l in
    subst (λ a. IsBefore a k.place) (sym (at t (inl refl) j i)) (subst (IsBefore t.key) (sym (at m.0 (inr m.1) k m.2)) (asc.0 m.0 m.1)))
  where
    one : (e : Event) → IsAscending (λ (k : Key). k.place) (keys_reported_at e)
    one (at_page r) = tt
    one (at_refused r) = tt
    one (at_key r v (i, x)) = by_key x.key
      where
        by_key : (o : Option ℤ) → IsAscending (λ (k : Key). k.place) (key_of r v (i, record x { key = o }))
        by_key None = tt
        by_key (Some value) = ((λ k i. absurd i), tt)

-- the two tests for a key out of order are one

pub same_tests : (a b : Bool) → (a ≡ true → b ≡ true) → (b ≡ true → a ≡ true) → a ≡ b
same_tests true b f g = sym (f refl)
same_tests false true f g = g refl
same_tests false false f g = refl

pub le_is : (a b : ℤ) → int_le a b ≡ not (int_lt b a)
le_is a b = same_tests (int_le a b) (not (int_lt b a)) (λ e. grind (arith, ints)) (λ e. grind (arith, ints))

same_test : (key k : Key) → is_out_of_order key k ≡ cond key.is_rowid (not (int_lt k.value key.value)) (int_lt key.value k.value)
same_test key k = ap (λ b. cond key.is_rowid b (int_lt key.value k.value)) (le_is key.value k.value)

earlier_longer : (k : ℕ) (a b : Address) → IsOfEarlierStart k a → IsOfEarlierStart k (a ++ b)
earlier_longer k [] b h = absurd h
earlier_longer k (x ∷ a) b h = h

-- the keys of a page are not before it
pub above_itself : (file : List ℕ) (U : List Reference) (r : Reference) → key_above file (U ++ r ∷ []) r.address ≡ key_above file U r.address
unfolding keys
above_itself file U r = ap (λ ks. option_map (λ k. k.value) (top_key ks))
    (ap (filter is_before_it) (flat_map-append (keys_at file) U (r ∷ []))
    ∙ filter-append is_before_it (flat_map (keys_at file) U) (flat_map (keys_at file) (r ∷ []))
    ∙ ap (λ ks. filter is_before_it (flat_map (keys_at file) U) ++ ks)
    (ap (filter is_before_it) (append-nil (keys_at file r)) ∙ filter-none is_before_it (keys_at file r) (in_it (tree_view file r)))
    ∙ append-nil (filter is_before_it (flat_map (keys_at file) U)))
  where
    is_before_it : Key → Bool
    is_before_it k = (start_of k.place == start_of r.address) && is_before k.place r.address

    and_false : (a b : Bool) → b ≡ false → (a && b) ≡ false
    and_false true b e = e
    and_false false b e = refl

    in_it : (o : Option View) (k : Key) → IsIn k (keys_of_view r o) → is_before_it k ≡ false
    in_it None k i = absurd i
    in_it (Some v) k i =
        let m = IsIn-from_flat_map (key_of r v) (cells v) k i in
        and_false (start_of k.place == start_of r.address) (is_before k.place r.address)
        (not_before k.place r.address (subst (λ a. IsBefore r.address a) (sym (key_place r v m.0 k m.2)) (IsBefore-beginning r.address (key_step m.0.0) [])))

module _ (file : List ℕ) (k : ℕ) (W : List Reference) (c : Reference) (at : c.address ≡ k ∷ []) (early : AreOfEarlierStarts k W) where
  pub started : (r : Reference) (s : ℕ) → IsIn r (visited file W c) → start_of (then_step r.address s) ≡ k
  started r s i = let b = below_start file W c k at r i in ap (λ a. start_of (then_step a s)) b.1

  module _ (A B : List (Reported Event)) (t : Reported Event) (split : trace file W c ≡ A ++ (t ∷ B)) (key : Key) (is_at : key.place ≡ t.key)
      (start : start_of key.place ≡ k) where
    abbrev U : List Reference
    U = W ++ visits_in own_visit A

    abbrev is_earlier : Key → Bool
    is_earlier j = (start_of j.place == start_of key.place) && is_before j.place key.place

    -- a key of the visits that is of this tree and comes before the place was reported
    was_reported : (j : Key) → IsIn j (earlier_keys file U key) → IsIn j (keys_reported A)
    unfolding keys
    was_reported j i =
        let f = filter-from is_earlier (keys file U) j i in
        let p = and_parts (start_of j.place == start_of key.place) (is_before j.place key.place) f.1 in
        let m = IsIn-from_flat_map (keys_at file) U j f.0 in
        by_view m.0 m.1 (tree_view file m.0) refl m.2 (eqb-true (start_of j.place) (start_of key.place) p.0 ∙ start)
        (subst (IsBefore j.place) is_at (is_before-means j.place key.place p.1))
      where
        by_view : (r : Reference) → IsIn r U → (o : Option View) → tree_view file r ≡ o → IsIn j (keys_of_view r o) → start_of j.place ≡ k
            → IsBefore j.place t.key → IsIn j (keys_reported A)
        by_view r i None e h s b = absurd h
        by_view r i (Some v) e h s b =
            let m = IsIn-from_flat_map (key_of r v) (cells v) j h in
            let place = key_place r v m.0 j m.2 in elim (IsIn-cases r W (visits_in own_visit A) i) [
              | inl w ↦ absurd (both_ways (start_of j.place == k)
                  (other_start k j.place (subst (IsOfEarlierStart k) (sym place) (earlier_longer k r.address (key_step m.0.0 ∷ []) (early r w))))
                  (eq-eqb (start_of j.place) k s))
              | inr w ↦ IsIn-flat_map (λ t. keys_reported_at t.event) A (record { key = then_step r.address (key_step m.0.0); event = at_key r v m.0 }) j
                  ((before file W c A B t split (record { key = then_step r.address (key_step m.0.0); event = at_key r v m.0 })).1
                  (key_reported file W c r v m.0 ((visited_before file W c A B t split r).0 w).0 e m.1, subst (λ a. IsBefore a t.key) place b))
                  m.2
            ]

    -- and the other way
    was_earlier : (j : Key) → IsIn j (keys_reported A) → IsIn j (earlier_keys file U key)
    unfolding keys
    was_earlier j i =
        let m = IsIn-from_flat_map (λ t. keys_reported_at t.event) A j i in
        let b = (before file W c A B t split m.0).0 m.1 in
        by_event m.0.key m.0.event (reported_as file W c m.0 b.0) b.1 m.2
      where
        by_event : (place : Address) (e : Event) → IsOf file (visited file W c) place e → IsBefore place t.key → IsIn j (keys_reported_at e)
            → IsIn j (earlier_keys file U key)
        by_event place (at_page r) h b l = absurd l
        by_event place (at_refused r) h b l = absurd l
        by_event place (at_key r v x) h b l =
            let stands = key_place r v x j l in
            let b' = subst (λ a. IsBefore a t.key) h.3 b in
            filter-has is_earlier (keys file U) j
            (IsIn-flat_map (keys_at file) U r j (IsIn-right r W (visits_in own_visit A) (page_before file W c A B t split r (key_step x.0) h.0 b'))
            (subst (λ o. IsIn j (keys_of_view r o)) (sym h.1) (IsIn-flat_map (key_of r v) (cells v) x j h.2 l)))
            (and_from (start_of j.place == start_of key.place) (is_before j.place key.place)
            (eq-eqb (start_of j.place) (start_of key.place) (ap start_of stands ∙ started r (key_step x.0) h.0 ∙ sym start))
            (is_before-from j.place key.place (subst (IsBefore j.place) (sym is_at) (subst (λ a. IsBefore a t.key) (sym stands) b'))))

    abbrev top : Option CellKey
    top = greatest_after None (keys_reported A)

    -- by the greatest key so far
    late : list_any (is_out_of_order key) (earlier_keys file U key) ≡ is_out int_lt (key_value top) (key_entry key)
    late = same_tests (list_any (is_out_of_order key) (earlier_keys file U key)) (is_out int_lt (key_value top) (key_entry key))
        (λ e. by_value.1 (exact.1 (there e))) (λ e. back (exact.0 (by_value.0 e)))
      where
        out : Option ℤ → Type 0
        out v = is_out int_lt v (key_entry key) ≡ true

        by_value : out (key_value top) ↔ out (greatest_from int_lt None (map key_entry (keys_reported A)))
        by_value = (subst out (values None (keys_reported A)), subst out (sym (values None (keys_reported A))))

        exact : out (greatest_from int_lt None (map key_entry (keys_reported A))) ↔ IsOut int_lt (map key_entry (keys_reported A)) (key_entry key)
        exact = running_greatest int_lt int_line (map key_entry (keys_reported A)) (key_entry key)

        there : list_any (is_out_of_order key) (earlier_keys file U key) ≡ true → IsOut int_lt (map key_entry (keys_reported A)) (key_entry key)
        there e = let m = any_one (is_out_of_order key) (earlier_keys file U key) e in
            (key_entry m.0, IsIn-map key_entry (keys_reported A) m.0 (was_reported m.0 m.1), sym (same_test key m.0) ∙ m.2)

        back : IsOut int_lt (map key_entry (keys_reported A)) (key_entry key) → list_any (is_out_of_order key) (earlier_keys file U key) ≡ true
        back h = let m = IsIn-from_map key_entry (keys_reported A) h.0 h.1 in
            any_true (is_out_of_order key) (earlier_keys file U key) m.0 (was_earlier m.0 m.1)
            (same_test key m.0 ∙ subst (λ d. IsOutAfter int_lt d (key_entry key)) m.2 h.2)

    -- the reported keys rise by place
    rising : IsAscending (λ (k : Key). k.place) (keys_reported A)
    rising = ascending_keys A (EachPair-left (λ (s : Reported Event) (t : Reported Event). IsBefore s.key t.key) A (t ∷ B)
        (subst (IsAscending (λ (t : Reported Event). t.key)) split (reports file W c).ascending))
        (λ m i j l. at_place m.key m.event (reported_as file W c m ((before file W c A B t split m).0 i).0) j l)
      where
        at_place : (place : Address) (e : Event) → IsOf file (visited file W c) place e → (j : Key) → IsIn j (keys_reported_at e) → j.place ≡ place
        at_place place (at_page r) h j l = absurd l
        at_place place (at_refused r) h j l = absurd l
        at_place place (at_key r v x) h j l = key_place r v x j l ∙ sym h.3

    -- the greatest so far is the one that no earlier key is above
    pub top_is : option_map cell_key (top_key (earlier_keys file U key)) ≡ top
    top_is = top_found (earlier_keys file U key) (keys_reported A) rising (λ j. (was_reported j, was_earlier j))

    pub late_is : key_faults file U key ≡ late_faults top key
    unfolding key_faults
    late_is = ap (λ b. reported_if b (fault T06 key.page key.item key.value)) late

  -- the greatest key before a page is the greatest so far
  pub above_reported : (A B : List (Reported Event)) (t : Reported Event) → trace file W c ≡ A ++ (t ∷ B) → (r : Reference) → t.key ≡ r.address
      → start_of r.address ≡ k → key_above file (W ++ visits_in own_visit A) r.address ≡ key_value (greatest_after None (keys_reported A))
  above_reported A B t split r place start =
      value_of (top_key (earlier_keys file (W ++ visits_in own_visit A) first)) ∙ ap key_value (top_is A B t split first (sym place) start)
    where
      first : Key
      first = record { place = r.address; page = 0; item = 0; value = pos 0; is_rowid = false }

      value_of : (o : Option Key) → option_map (λ k. k.value) o ≡ key_value (option_map cell_key o)
      value_of None = refl
      value_of (Some k) = refl
