-- The pages of a sound file have no fault.
use Rattle.std.proofs.Common.{arith, ◌≡◌, ℕ, ◌+◌, ◌≤◌, Bool, true, false, not, ◌&&◌, Option, Some, None, List, [], ◌∷◌, length, refl, sym, subst}
use Rattle.std.specs.Prelude.{find, pos, ◌==◌}
use Rattle.std.specs.Option.{option_map_or}
use Rattle.std.proofs.lemmas.Bool.{and_parts, eqb-true, not-true}
use Rattle.std.proofs.lemmas.Bool.Decides.{nat_tests}
use Rattle.dbsound.proofs.Common.{IsIn, fault, start_of, depth, freelist_start, View, is_interior, Reference, tree_view, is_leaf_of, depth_fault, page_faults}
use Rattle.dbsound.proofs.Common.{Sound, with_root}
use Rattle.dbformat.specs.PageFaults.{leaf_depth}
use Rattle.dbformat.specs.declared.FaultCode.TheVariants.{T05}
use Rattle.dbsurvey.proofs.Each.{Each, Each-append}
use Rattle.dbsurvey.proofs.Lists.{find-some}
use Rattle.dbsound.proofs.TermVisits.OwnFaults.{IsClean, clean_page, tree_clean, forest_clean, freelist_clean}
use Rattle.dbsound.proofs.TermVisits.Starts.{IsStarted, Alike, alike_both, AreGood, tree_good, forest_good, freelist_good, started_under, started_within}
use Rattle.dbsound.proofs.TermVisits.Starts.{tree_started, forest_started, freelist_under}
use Rattle.dbsound.proofs.SoundFiles.Survey.{first_visits, root_visits, free_visits, later_visits, all_visits}
use Rattle.dbformat.proofs.TestsLemmas.{reported_none}

module _ (file : List ℕ) (s : Sound file) where
  abbrev V : List Reference
  V = all_visits file s

  few_starts : 1 + length (with_root s.rows) ≤ freelist_start
  few_starts = let f = s.few_roots in omega arith

  free_started : Each (IsStarted freelist_start (freelist_start + 1)) (free_visits file s)
  free_started = started_under freelist_start (freelist_start + 1) (free_visits file s) (omega arith)
      (freelist_under s.freelist 0 freelist_start (freelist_start ∷ []))

  roots_started : Each (IsStarted 1 freelist_start) (root_visits file s)
  roots_started = started_within 1 1 (1 + length (with_root s.rows)) freelist_start (root_visits file s) (omega arith) few_starts (forest_started s.trees 1)

  later_started : Each (IsStarted 1 (freelist_start + 1)) (later_visits file s)
  later_started = Each-append (IsStarted 1 (freelist_start + 1)) (root_visits file s) (free_visits file s)
      (started_within 1 1 freelist_start (freelist_start + 1) (root_visits file s) (omega arith) (omega arith) roots_started)
      (started_within freelist_start 1 (freelist_start + 1) (freelist_start + 1) (free_visits file s) (omega arith) (omega arith) free_started)

  first_started : Each (IsStarted 0 1) (first_visits file s)
  first_started = tree_started s.schema 0 0

  pub all_started : Each (IsStarted 0 (freelist_start + 1)) V
  all_started = Each-append (IsStarted 0 (freelist_start + 1)) (first_visits file s) (later_visits file s)
      (started_within 0 0 1 (freelist_start + 1) (first_visits file s) (omega arith) (omega arith) first_started)
      (started_within 1 0 (freelist_start + 1) (freelist_start + 1) (later_visits file s) (omega arith) (omega arith) later_started)

  pub all_good : Alike (AreGood file) V
  all_good = alike_both (AreGood file) 0 1 (freelist_start + 1) (first_visits file s) (later_visits file s) first_started later_started (tree_good s.schema 0 0)
      (alike_both (AreGood file) 1 freelist_start (freelist_start + 1) (root_visits file s) (free_visits file s) roots_started free_started
      (forest_good s.trees 1) (freelist_good s.freelist 0 freelist_start (freelist_start ∷ [])))

  pub all_clean : Each (IsClean file) V
  all_clean = Each-append (IsClean file) (first_visits file s) (later_visits file s) (tree_clean s.schema 0 (0 ∷ []))
      (Each-append (IsClean file) (root_visits file s) (free_visits file s) (forest_clean s.trees 1)
      (freelist_clean s.freelist 0 freelist_start (freelist_start ∷ [])))

  -- a leaf
  pub is_leaf : (k : ℕ) (r : Reference) → is_leaf_of file k r ≡ true
      → (start_of r.address ≡ k) × ((v : View) × (tree_view file r ≡ Some v) × (is_interior v.kind ≡ false))
  is_leaf k r e =
      let p = and_parts (start_of r.address == k) (option_map_or (λ v. not (is_interior v.kind)) (tree_view file r) false) e in
      (eqb-true (start_of r.address) k p.0, by_view (tree_view file r) refl p.1)
    where
      by_view : (o : Option View) → tree_view file r ≡ o → option_map_or (λ v. not (is_interior v.kind)) o false ≡ true
          → (v : View) × (tree_view file r ≡ Some v) × (is_interior v.kind ≡ false)
      by_view None f e = cc
      by_view (Some v) f e = (v, f, not-true (is_interior v.kind) e)

  depth_none : (r : Reference) → IsIn r V → depth_fault file V r ≡ []
  unfolding depth_fault
  depth_none r i = reported_none (is_leaf_of file (start_of r.address) r && not (depth r.address == leaf_depth file V (start_of r.address) (depth r.address)))
      (fault T05 r.page 0 (pos (depth r.address))) (by_leaf (is_leaf_of file (start_of r.address) r) refl)
    where
      itself : (n : ℕ) → not (n == n) ≡ false
      itself n = grind (arith, nat_tests)

      by_found : is_leaf_of file (start_of r.address) r ≡ true → (o : Option Reference) → find (is_leaf_of file (start_of r.address)) V ≡ o
          → not (depth r.address == option_map_or (λ r. depth r.address) o (depth r.address)) ≡ false
      by_found e None f = itself (depth r.address)
      by_found e (Some t) f =
          let h = find-some (is_leaf_of file (start_of r.address)) V t f in
          let lr = is_leaf (start_of r.address) r e in
          let lt = is_leaf (start_of r.address) t h.1 in
          let same = (all_good r t i h.0 (sym lt.0)).level.level lr.1.0 lt.1.0 lr.1.1 lr.1.2 lt.1.1 lt.1.2 in
          subst (λ n. not (depth r.address == n) ≡ false) same (itself (depth r.address))

      by_leaf : (b : Bool) → is_leaf_of file (start_of r.address) r ≡ b
          → (b && not (depth r.address == leaf_depth file V (start_of r.address) (depth r.address))) ≡ false
      by_leaf true e = by_found e (find (is_leaf_of file (start_of r.address)) V) refl
      by_leaf false e = refl

  pub pages_none : (r : Reference) → IsIn r V → page_faults file V r ≡ []
  pages_none r i = clean_page file V r (all_clean r i) (depth_none r i)
