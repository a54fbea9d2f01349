-- What the marks of a survey say of a page: what it is, and with the starts that were noted, which start it belongs to.
use Rattle.dbscan.proofs.Common.{◌≡◌, ℕ, Bool, true, false, cond, List, Option, Some, None, refl, sym, ap, subst, ◌∙◌, arith, option_map, slice_get, IsIn}
use Rattle.dbscan.proofs.Common.{start_of, freelist_start, visit_of, geometry, is_page, is_fixed, fixed_use, Role, Reference, role_of, from_of, Survey, Mark}
use Rattle.dbscan.proofs.Common.{Unmarked, Fixed, role_mark, visit_mark, mark_of, marks_of, page_mark, start_at, AreTrees, place_by, start_by, option_map_or}
use Rattle.dbscan.proofs.Common.{nat_tests, allowed, start_here, is_on_freelist, page_mark-in, page_mark-out, on_freelist}
use Rattle.dbmarks.proofs.EndMarking.{found_in, survey_visits, visited-mark}
use Rattle.dbscan.specs.declared.place.Place.{Place}
use Rattle.dbscan.specs.Owners.{place_in, place_of}
use Rattle.dbscan.specs.declared.place.Place.TheVariants as place

-- role by role

place_by_role : (role : Role) (from : ℕ) → place_by (Some (role_mark role from)) ≡ place_in role from
place_by_role role from = grind arith

start_by_role : (role : Role) (from k : ℕ) (known : Option ℕ) → (is_on_freelist role ≡ true → k ≡ freelist_start)
    → (is_on_freelist role ≡ false → known ≡ Some k) → start_by (Some (role_mark role from)) known ≡ Some k
start_by_role role from k known f h = grind arith

-- the mark of a page that no visit names
abbrev pub unused : Bool → Bool → Option Mark
unused fixed here = cond fixed (Some Fixed) (cond here (Some Unmarked) None)

unused_start : (b c : Bool) (known : Option ℕ) → start_by (unused b c) known ≡ None
unused_start b c known = grind arith

unused_place : (b c : Bool) → place_by (unused b c) ≡ cond b place.Fixed place.Nowhere
unused_place b c = grind arith

-- what a page is by its visit, or by its fixed use
abbrev by_visit : Option Reference → Bool → Place
by_visit o fixed = cond fixed place.Fixed (option_map_or (λ r. place_in (role_of r) (from_of r)) o place.Nowhere)

module _ (file : List ℕ) (V : List Reference) (s : Survey file V) where
  pub mark_here : (r : Reference) → IsIn r V → page_mark (marks_of (geometry file) V) r.page ≡ Some (visit_mark r)
  mark_here r i =
      let a = (allowed file V s r i).0 in
      let v = visited-mark (geometry file) V r (survey_visits file V s) i in grind (arith, nat_tests, page_mark-in)

  pub no_visit : (p : ℕ) → visit_of V p ≡ None → page_mark (marks_of (geometry file) V) p ≡ unused (is_fixed (geometry file) p) (is_page (geometry file) p)
  unfolding mark_of fixed_use
  no_visit p n = grind (arith, nat_tests, page_mark-in, page_mark-out)

  -- what it is
  pub place_is : (p : ℕ) → place_by (page_mark (marks_of (geometry file) V) p) ≡ place_of file V p
  unfolding place_of
  place_is p = by_case (visit_of V p) refl
    where
      by_case : (o : Option Reference) → visit_of V p ≡ o → place_by (page_mark (marks_of (geometry file) V) p)
          ≡ by_visit (visit_of V p) (is_fixed (geometry file) p)
      by_case None e = ap place_by (no_visit p e) ∙ unused_place (is_fixed (geometry file) p) (is_page (geometry file) p)
          ∙ sym (ap (λ o. by_visit o (is_fixed (geometry file) p)) e)
      by_case (Some r) e =
          let k = found_in V p r e in
          let free : is_fixed (geometry file) p ≡ false = subst (λ p. is_fixed (geometry file) p ≡ false) k.1 (allowed file V s r k.0).1 in
          ap (λ p. place_by (page_mark (marks_of (geometry file) V) p)) (sym k.1) ∙ ap place_by (mark_here r k.0) ∙ place_by_role (role_of r) (from_of r)
          ∙ sym (ap (λ o. by_visit o (is_fixed (geometry file) p)) e ∙ ap (by_visit (Some r)) free)

  -- the start that it belongs to, where the starts of the pages of trees and chains were noted
  pub start_is : (known : List ℕ) → AreTrees V known → (p : ℕ) → start_by (page_mark (marks_of (geometry file) V) p) (slice_get known p) ≡ start_at V p
  start_is known noted p = by_case (visit_of V p) refl
    where
      by_case : (o : Option Reference) → visit_of V p ≡ o → start_by (page_mark (marks_of (geometry file) V) p) (slice_get known p) ≡ start_at V p
      by_case None e = ap (λ m. start_by m (slice_get known p)) (no_visit p e)
          ∙ unused_start (is_fixed (geometry file) p) (is_page (geometry file) p) (slice_get known p)
          ∙ sym (ap (λ o. option_map (λ r. start_of r.address) o) e)
      by_case (Some r) e =
          let k = found_in V p r e in
          ap (λ p. start_by (page_mark (marks_of (geometry file) V) p) (slice_get known p)) (sym k.1)
          ∙ ap (λ m. start_by m (slice_get known r.page)) (mark_here r k.0)
          ∙ start_by_role (role_of r) (from_of r) (start_of r.address) (slice_get known r.page) (on_freelist file V s r k.0) (noted r k.0)
          ∙ sym (start_here file V s r k.0) ∙ ap (start_at V) k.1
