-- The survey of a sound file has no fault at the end.
use Rattle.std.proofs.Common.{arith, ◌≡◌, ◌≢◌, ℕ, ◌+◌, inl, inr, max, Bool, true, false, cond, not, ◌&&◌, Option, Some, None, List, [], ◌∷◌, ◌++◌, map, length}
use Rattle.std.proofs.Common.{refl, sym, ap, subst, ◌∙◌}
use Rattle.std.specs.Prelude.{fold, find, IfSome, pos, ◌==◌}
use Rattle.std.proofs.lemmas.List.{length-map, append-nil}
use Rattle.std.proofs.lemmas.Bool.{eqb-true}
use Rattle.std.proofs.lemmas.Bool.Decides.{nat_tests}
use Rattle.dbsound.proofs.Common.{IsIn, greatest_root, freelist_count, has_pointer_map, geometry, map_entry, is_fixed, fault, freelist_start, Reference}
use Rattle.dbsound.proofs.Common.{role_of, from_of, greatest_root_reached, greatest_root_fault, free_pages, freelist_fault, visit_of, use_fault, page_numbers}
use Rattle.dbsound.proofs.Common.{Sound, with_root, use_of}
use Rattle.dbsurvey.proofs.Ordering.{IsIn-map}
use Rattle.dbformat.specs.File.{MapEntry}
use Rattle.dbformat.specs.Reference.{entry_of}
use Rattle.dbformat.specs.EndFaults.{is_same_entry, entry_fault}
use Rattle.dbformat.specs.declared.FaultCode.TheVariants.{H09, H10, N01, M01}
use Rattle.dbsurvey.proofs.Each.{each_of}
use Rattle.dbsurvey.proofs.Lists.{find-some}
use Rattle.dbsound.proofs.TermVisits.Uses.{freelist_uses}
use Rattle.dbsurvey.proofs.Once.{page_or_fixed}
use Rattle.dbsound.proofs.TermVisits.Roles.{root_pages, root_pages-append, tree_root, forest_roots, freelist_no_root, freelist_free, tree_not_free}
use Rattle.dbsound.proofs.TermVisits.Roles.{forest_not_free, free_pages-append, none_free, all_free}
use Rattle.dbsound.proofs.SoundFiles.Survey.{first_visits, root_visits, free_visits, later_visits, all_visits, all_uses, uses_are, pages_are}
use Rattle.dbformat.proofs.TestsLemmas.{reported_none}

module _ (file : List ℕ) (s : Sound file) where
  abbrev V : List Reference
  V = all_visits file s

  -- roots

  roots_are : root_pages V ≡ 1 ∷ map (λ r. r.root) (with_root s.rows)
  roots_are = root_pages-append (first_visits file s) (later_visits file s)
      ∙ ap (λ l. l ++ root_pages (later_visits file s)) (tree_root s.schema 0 (0 ∷ []) refl)
      ∙ ap (λ l. 1 ∷ l) (root_pages-append (root_visits file s) (free_visits file s)
      ∙ ap (λ l. l ++ root_pages (free_visits file s)) (forest_roots s.trees 1)
      ∙ ap (λ l. map (λ r. r.root) (with_root s.rows) ++ l) (freelist_no_root s.freelist 0 freelist_start (freelist_start ∷ []))
      ∙ append-nil (map (λ r. r.root) (with_root s.rows)))

  greatest_is : greatest_root_reached V ≡ fold max 1 (map (λ r. r.root) (with_root s.rows))
  greatest_is = ap (fold max 1) roots_are

  pub root_none : greatest_root_fault file V ≡ []
  unfolding has_pointer_map
  root_none = reported_none (not (greatest_root file == 0) && not (greatest_root file == greatest_root_reached V))
      (fault H09 1 0 (pos (greatest_root_reached V)))
      (by_map (greatest_root file == 0) refl)
    where
      itself : (n m : ℕ) → n ≡ m → not (n == m) ≡ false
      itself n m e = grind (arith, nat_tests)

      not_zero : (n : ℕ) → (n == 0) ≡ false → n ≢ 0
      not_zero n e = grind (arith, nat_tests)

      by_map : (b : Bool) → (greatest_root file == 0) ≡ b → (not b && not (greatest_root file == greatest_root_reached V)) ≡ false
      by_map true e = refl
      by_map false e = itself (greatest_root file) (greatest_root_reached V) (s.greatest (not_zero (greatest_root file) e) ∙ sym greatest_is)

  -- the freelist

  free_are : free_pages V ≡ length s.free_uses
  free_are = free_pages-append (first_visits file s) (later_visits file s)
      ∙ ap (λ n. n + free_pages (later_visits file s)) (none_free (first_visits file s) (tree_not_free s.schema 0 (0 ∷ [])))
      ∙ ap (λ n. 0 + n) (free_pages-append (root_visits file s) (free_visits file s)
      ∙ ap (λ n. n + free_pages (free_visits file s)) (none_free (root_visits file s) (forest_not_free s.trees 1))
      ∙ ap (λ n. 0 + n) (all_free (free_visits file s) (freelist_free s.freelist 0 freelist_start (freelist_start ∷ [])) ∙ long))
      ∙ zeros (length s.free_uses)
    where
      zeros : (n : ℕ) → 0 + (0 + n) ≡ n
      zeros n = omega arith

      long : length (free_visits file s) ≡ length s.free_uses
      long = sym (length-map (free_visits file s) use_of) ∙ ap (λ l. length l) (freelist_uses s.freelist 0 freelist_start (freelist_start ∷ []))

  pub freelist_none : freelist_fault file V ≡ []
  freelist_none = reported_none (not (freelist_count file == free_pages V)) (fault H10 1 0 (pos (free_pages V)))
      (itself (freelist_count file) (free_pages V) (s.freelist_size ∙ sym free_are))
    where
      itself : (n m : ℕ) → n ≡ m → not (n == m) ≡ false
      itself n m e = grind (arith, nat_tests)

  -- each page

  entry_none : (p : ℕ) (o : Option MapEntry) (r : Reference) → IfSome o (λ e. e ≡ entry_of (role_of r) (from_of r)) → entry_fault p o r ≡ []
  entry_none p None r h = refl
  entry_none p (Some e) r h = reported_none (not (is_same_entry e (entry_of (role_of r) (from_of r)))) (fault M01 p e.type (pos e.number))
      (subst (λ f. not (is_same_entry e f) ≡ false) h (same e))
    where
      itself : (n : ℕ) → (n == n) ≡ true
      itself n = grind (arith, nat_tests)

      same : (e : MapEntry) → not (is_same_entry e e) ≡ false
      same e = rw (itself e.type, itself e.number) refl

  mapped : (r : Reference) → IsIn r V → IfSome (map_entry file r.page) (λ e. e ≡ entry_of (role_of r) (from_of r))
  mapped r i = each_of (λ u. IfSome (map_entry file u.page) (λ e. e ≡ u.entry)) (all_uses file s) s.mapped (use_of r)
      (subst (λ l. IsIn (use_of r) l) (uses_are file s) (IsIn-map use_of V r i))

  found_page : (p : ℕ) (W : List Reference) → IsIn p (map (λ t. t.page) W) → find (λ r. r.page == p) W ≡ None → ⊥
  found_page p [] i e = i
  found_page p (t ∷ W) i e = by_case (t.page == p) refl (found_page p W) i e
    where
      itself : (n : ℕ) → (n == n) ≡ false → ⊥
      itself n e = grind (arith, nat_tests)

      by_case : (b : Bool) → (t.page == p) ≡ b → (IsIn p (map (λ t. t.page) W) → find (λ r. r.page == p) W ≡ None → ⊥) → IsIn p (t.page ∷ map (λ t. t.page) W)
          → cond b (Some t) (find (λ r. r.page == p) W) ≡ None → ⊥
      by_case true f on i e = cc
      by_case false f on (inl g) e = itself p (subst (λ q. (q == p) ≡ false) (sym g) f)
      by_case false f on (inr i) e = on i e

  pub use_none : (p : ℕ) → IsIn p (page_numbers (geometry file)) → use_fault file V p ≡ []
  unfolding use_fault
  use_none p i = by_visit (visit_of V p) refl
    where
      free_of : visit_of V p ≡ None → is_fixed (geometry file) p ≡ true
      free_of e = elim (page_or_fixed (map (λ u. u.page) (all_uses file s)) (is_fixed (geometry file)) (geometry file).pages s.once p i) [
        | inl j ↦ absurd (found_page p V (subst (λ l. IsIn p l) (sym (pages_are file s)) j) e)
        | inr f ↦ f
      ]

      by_visit : (o : Option Reference) → visit_of V p ≡ o → use_fault file V p ≡ []
      by_visit None e = rw e (reported_none (not (is_fixed (geometry file) p)) (fault N01 p 0 (pos 0)) (ap not (free_of e)))
      by_visit (Some r) e =
          let h = find-some (λ r. r.page == p) V r e in
          rw e (entry_none p (map_entry file p) r (subst (λ q. IfSome (map_entry file q) (λ e. e ≡ entry_of (role_of r) (from_of r))) (eqb-true r.page p h.1)
          (mapped r h.0)))
