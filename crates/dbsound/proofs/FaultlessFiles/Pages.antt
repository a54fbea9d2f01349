-- Every page has one use: the pages of a survey and those of fixed use are all pages, each once. And the pointer map has
-- each of them.
use Rattle.std.proofs.Common.{◌≡◌, ℕ, inl, inr, Bool, true, false, List, [], ◌++◌, map, Option, Some, None, refl, sym, ap, subst, ◌∙◌}
use Rattle.std.specs.Prelude.{◌==◌, IsPermutation, All, IfSome}
use Rattle.std.proofs.lemmas.Bool.{and_parts, eqb-true}
use Rattle.dbsound.proofs.Common.{IsIn, is_fixed, geometry, map_entry, Reference, role_of, from_of, Survey, visit_of, use_fault, page_numbers, use_of}
use Rattle.dbsurvey.proofs.Order.{IsIn-left, IsIn-right, IsIn-cases, EachPair-append}
use Rattle.dbsurvey.proofs.Ordering.{IsIn-map, IsIn-from_map}
use Rattle.dbformat.specs.File.{MapEntry}
use Rattle.dbformat.specs.Reference.{entry_of}
use Rattle.dbformat.specs.EndFaults.{is_same_entry, entry_fault}
use Rattle.dbformat.specs.Sound.{fixed_pages}
use Rattle.dbsurvey.proofs.Lists.{filter-from, filter-has, find-some}
use Rattle.dbformat.proofs.FaultParts.{AllUsed}
use Rattle.dbsurvey.proofs.Elements.{EachPair-filter, range_once, All-from_each, map_once}
use Rattle.dbsurvey.proofs.Rearranged.{rearranged}
use Rattle.dbformat.proofs.Visited.{each_once, visit_is, number_of, allowed}

module _ (file : List ℕ) (V : List Reference) (s : Survey file V) (used : AllUsed file V) where
  unused_is_fixed : (p : ℕ) → use_fault file V p ≡ [] → visit_of V p ≡ None → is_fixed (geometry file) p ≡ true
  unfolding use_fault
  unused_is_fixed p e n = by_case (is_fixed (geometry file) p) refl
    where
      by_case : (b : Bool) → is_fixed (geometry file) p ≡ b → is_fixed (geometry file) p ≡ true
      by_case true f = f
      by_case false f = let h = rw (n, f) at e in cc

  within_uses : (p : ℕ) → IsIn p (page_numbers (geometry file)) → IsIn p (map (λ r. r.page) V ++ fixed_pages (geometry file))
  within_uses p i = by_case (visit_of V p) refl
    where
      by_case : (o : Option Reference) → visit_of V p ≡ o → IsIn p (map (λ r. r.page) V ++ fixed_pages (geometry file))
      by_case None e = IsIn-right p (map (λ r. r.page) V) (fixed_pages (geometry file))
          (filter-has (is_fixed (geometry file)) (page_numbers (geometry file)) p i
          (unused_is_fixed p (used p i) e))
      by_case (Some r) e = let k = find-some (λ q. q.page == p) V r e in
          IsIn-left p (map (λ r. r.page) V) (fixed_pages (geometry file))
          (subst (λ p. IsIn p (map (λ r. r.page) V)) (eqb-true r.page p k.1) (IsIn-map (λ r. r.page) V r k.0))

  pub every_page_once : IsPermutation (map (λ r. r.page) V ++ fixed_pages (geometry file)) (page_numbers (geometry file))
  every_page_once = rearranged (map (λ r. r.page) V ++ fixed_pages (geometry file)) (page_numbers (geometry file))
      (EachPair-append (λ x y. x ≡ y → ⊥) (map (λ r. r.page) V) (fixed_pages (geometry file)) (map_once (λ r. r.page) V (each_once file V s))
      (EachPair-filter (λ x y. x ≡ y → ⊥) (is_fixed (geometry file)) (page_numbers (geometry file)) (range_once 1 (geometry file).pages))
      apart)
      (range_once 1 (geometry file).pages)
      within
      within_uses
    where
      apart : (p q : ℕ) → IsIn p (map (λ r. r.page) V) → IsIn q (fixed_pages (geometry file)) → p ≡ q → ⊥
      apart p q i j e =
          let m = IsIn-from_map (λ r. r.page) V p i in
          let f = (filter-from (is_fixed (geometry file)) (page_numbers (geometry file)) q j).1 in
          let g = sym (allowed file V s m.0 m.1).1 ∙ ap (is_fixed (geometry file)) (sym m.2 ∙ e) ∙ f in cc

      within : (p : ℕ) → IsIn p (map (λ r. r.page) V ++ fixed_pages (geometry file)) → IsIn p (page_numbers (geometry file))
      within p i = elim (IsIn-cases p (map (λ r. r.page) V) (fixed_pages (geometry file)) i) [
        | inl j ↦ (let m = IsIn-from_map (λ r. r.page) V p j in
            subst (λ p. IsIn p (page_numbers (geometry file))) (sym m.2) (number_of file V s m.0 m.1))
        | inr j ↦ (filter-from (is_fixed (geometry file)) (page_numbers (geometry file)) p j).0
      ]

  -- the map has the entry of each visited page
  entry_is : (p : ℕ) (r : Reference) → use_fault file V p ≡ [] → visit_of V p ≡ Some r → IfSome (map_entry file p) (λ e. e ≡ entry_of (role_of r) (from_of r))
  unfolding use_fault
  entry_is p r e v = by_entry (map_entry file p) (let h = rw v at e in h)
    where
      same : (e f : MapEntry) → is_same_entry e f ≡ true → e ≡ f
      same e f t =
          let k = and_parts (e.type == f.type) (e.number == f.number) t in
          ap (λ n. record { type = n; number = e.number }) (eqb-true e.type f.type k.0)
          ∙ ap (λ n. record { type = f.type; number = n }) (eqb-true e.number f.number k.1)

      by_test : (e : MapEntry) (b : Bool) → is_same_entry e (entry_of (role_of r) (from_of r)) ≡ b → entry_fault p (Some e) r ≡ [] → e
          ≡ entry_of (role_of r) (from_of r)
      by_test e true f h = same e (entry_of (role_of r) (from_of r)) f
      by_test e false f h = let k = rw f at h in cc

      by_entry : (o : Option MapEntry) → entry_fault p o r ≡ [] → IfSome o (λ e. e ≡ entry_of (role_of r) (from_of r))
      by_entry None h = tt
      by_entry (Some e) h = by_test e (is_same_entry e (entry_of (role_of r) (from_of r))) refl h

  pub every_page_mapped : All (λ u. IfSome (map_entry file u.page) (λ e. e ≡ u.entry)) (map use_of V)
  every_page_mapped = All-from_each (λ u. IfSome (map_entry file u.page) (λ e. e ≡ u.entry)) (map use_of V) (λ u i.
      let m = IsIn-from_map use_of V u i in
      subst (λ u. IfSome (map_entry file u.page) (λ e. e ≡ u.entry)) (sym m.2)
      (entry_is m.0.page m.0 (used m.0.page (number_of file V s m.0 m.1)) (visit_is file V s m.0 m.1)))
