-- The depth of the first leaf is a fold over the visits, and the faults of a page follow from it.
use Rattle.std.proofs.Common.{◌≡◌, ℕ, inl, inr, Bool, true, false, cond, not, ◌&&◌, List, [], ◌∷◌, ◌++◌, Option, Some, None, refl, sym, ap, arith, ◌∙◌, subst}
use Rattle.std.specs.Prelude.{find, option_map, ◌==◌, pos}
use Rattle.std.specs.Option.{option_map_or, option_or}
use Rattle.std.proofs.lemmas.Bool.{eq-eqb}
use Rattle.std.proofs.lemmas.Bool.Decides.{nat_tests}
use Rattle.std.proofs.lemmas.List.{append-nil}
use Rattle.std.proofs.lemmas.List.Folds.{find-append}
use Rattle.dbtrace.proofs.Common.{IsIn, Address, reported_if, fault, start_of, is_interior, Role, root, child, first_overflow, later_overflow, trunk, free_leaf}
use Rattle.dbtrace.proofs.Common.{Reference, role_of, tree_view, depth_fault, page_faults, Fault, FaultCode, leaf_at, leaf_cause, first_leaf, rowids_of}
use Rattle.dbtrace.proofs.Common.{reported_fault, reported_by, leaf_after, depth_faults, Cause, RowidBounds, IsOfEarlierStart, AreOfEarlierStarts}
use Rattle.dbformat.specs.Address.{depth}
use Rattle.dbformat.specs.PageFaults.{is_leaf_of, leaf_depth, role_faults}
use Rattle.dbformat.specs.declared.FaultCode.TheVariants.{T05}
use Rattle.dbtrace.specs.Progress.{depth_of}
use Rattle.dbtrace.specs.declared.TreeLeaf.{TreeLeaf}

-- where two readings agree on a code, they report its fault alike
pub reported_same : (why other : FaultCode → Cause) (b : Bool) (f : Fault) → why f.code ≡ other f.code
    → reported_by why (reported_if b f) ≡ reported_by other (reported_if b f)
reported_same why other true f e = ap (λ c. reported_fault f c ∷ []) e
reported_same why other false f e = refl

-- the first leaf after some visits, by the rowids of each
abbrev pub leaf_from : List ℕ → (Reference → RowidBounds) → Option TreeLeaf → List Reference → Option TreeLeaf
leaf_from file rowids leaf [] = leaf
leaf_from file rowids leaf (r ∷ X) = leaf_from file rowids (leaf_after file leaf (rowids r) r) X

pub other_start : (k : ℕ) (a : Address) → IsOfEarlierStart k a → (start_of a == k) ≡ false
other_start k [] h = absurd h
other_start k (x ∷ a) h = grind (arith, nat_tests)

module _ (file : List ℕ) (k : ℕ) where
  abbrev AreOfStart : List Reference → Type 0
  AreOfStart X = (u : Reference) → IsIn u X → start_of u.address ≡ k

  -- earlier starts have no leaf of this one
  past_earlier : (W X : List Reference) → AreOfEarlierStarts k W → find (is_leaf_of file k) (W ++ X) ≡ find (is_leaf_of file k) X
  past_earlier [] X early = refl
  past_earlier (u ∷ W) X early = ap (λ b. cond (b && option_map_or (λ v. not (is_interior v.kind)) (tree_view file u) false) (Some u)
      (find (is_leaf_of file k) (W ++ X))) (other_start k u.address (early u (inl refl)))
      ∙ past_earlier W X (λ w i. early w (inr i))

  module _ (rowids : Reference → RowidBounds) where
    abbrev as_leaf : Reference → TreeLeaf
    as_leaf u = leaf_at (rowids u) u

    leaf_kept : (d : TreeLeaf) (X : List Reference) → leaf_from file rowids (Some d) X ≡ Some d
    leaf_kept d [] = refl
    leaf_kept d (r ∷ X) = leaf_kept d X

    after : (x : Reference) → start_of x.address ≡ k → leaf_after file None (rowids x) x ≡ cond (is_leaf_of file k x) (Some (as_leaf x)) None
    after x e = ap (λ s. cond (is_leaf_of file s x) (Some (as_leaf x)) None) e

    -- the first leaf that is found is that of the fold
    found_is : (X : List Reference) → AreOfStart X → option_map as_leaf (find (is_leaf_of file k) X) ≡ leaf_from file rowids None X
    found_is [] same = refl
    found_is (x ∷ X) same = by_leaf (is_leaf_of file k x) refl (found_is X (λ u i. same u (inr i)))
      where
        by_leaf : (b : Bool) → is_leaf_of file k x ≡ b → option_map as_leaf (find (is_leaf_of file k) X) ≡ leaf_from file rowids None X
            → option_map as_leaf (find (is_leaf_of file k) (x ∷ X)) ≡ leaf_from file rowids None (x ∷ X)
        by_leaf true f h = ap (λ b. option_map as_leaf (cond b (Some x) (find (is_leaf_of file k) X))) f
            ∙ sym (ap (λ o. leaf_from file rowids o X) (after x (same x (inl refl)) ∙ ap (λ b. cond b (Some (as_leaf x)) None) f) ∙ leaf_kept (as_leaf x) X)
        by_leaf false f h = ap (λ b. option_map as_leaf (cond b (Some x) (find (is_leaf_of file k) X))) f
            ∙ h ∙ sym (ap (λ o. leaf_from file rowids o X) (after x (same x (inl refl)) ∙ ap (λ b. cond b (Some (as_leaf x)) None) f))

  -- at a visit, as the definitions have it
  module _ (W X : List Reference) (r : Reference) (early : AreOfEarlierStarts k W) (same : AreOfStart X) (at : start_of r.address ≡ k) where
    abbrev U : List Reference
    U = W ++ (X ++ r ∷ [])

    abbrev rowids : Reference → RowidBounds
    rowids = rowids_of file U

    -- the first leaf so far is found first, and else the visit itself
    first_found : find (is_leaf_of file (start_of r.address)) U ≡ option_or (find (is_leaf_of file k) X) (find (is_leaf_of file k) (r ∷ []))
    first_found = ap (λ s. find (is_leaf_of file s) U) at ∙ past_earlier W (X ++ r ∷ []) early ∙ find-append (is_leaf_of file k) X (r ∷ [])

    -- the depth and the cause, by the first leaf so far
    pub depth_reported : (own : RowidBounds) (why : FaultCode → Cause) → why T05 ≡ leaf_cause own (first_leaf file U r)
        → (why' : FaultCode → Cause) → why' T05 ≡ leaf_cause own (leaf_from file rowids None X)
        → reported_by why' (depth_faults file (leaf_from file rowids None X) r) ≡ reported_by why (depth_fault file U r)
    unfolding depth_fault
    depth_reported own why e why' e' = by_leaf (is_leaf_of file (start_of r.address) r) refl (find (is_leaf_of file k) X) refl
      where
        d : ℕ
        d = depth r.address

        Same : Bool → Option TreeLeaf → Option Reference → Type 0
        Same b leaf o = reported_by why' (reported_if (b && not (d == depth_of leaf d)) (fault T05 r.page 0 (pos d)))
            ≡ reported_by why (reported_if (b && not (d == option_map_or (λ r. depth r.address) o d)) (fault T05 r.page 0 (pos d)))

        by_leaf : (b : Bool) → is_leaf_of file (start_of r.address) r ≡ b → (o : Option Reference) → find (is_leaf_of file k) X ≡ o
            → Same (is_leaf_of file (start_of r.address) r) (leaf_from file rowids None X) (find (is_leaf_of file (start_of r.address)) U)
        by_leaf false f o g = subst (λ b. Same b (leaf_from file rowids None X) (find (is_leaf_of file (start_of r.address)) U)) (sym f) refl
        by_leaf true f (Some u) g =
            let first : find (is_leaf_of file (start_of r.address)) U ≡ Some u = first_found ∙ ap (λ o. option_or o (find (is_leaf_of file k) (r ∷ []))) g in
            let kept : leaf_from file rowids None X ≡ Some (leaf_at (rowids u) u) = sym (found_is rowids X same) ∙ ap (option_map (as_leaf rowids)) g in
            let causes : why' T05 ≡ why T05 = e' ∙ ap (leaf_cause own) kept
            ∙ sym (e ∙ ap (λ o. leaf_cause own (option_map_or (λ u. Some (leaf_at (rowids u) u)) o None)) first) in
            subst (λ l. Same (is_leaf_of file (start_of r.address) r) l (find (is_leaf_of file (start_of r.address)) U)) (sym kept)
            (subst (λ o. Same (is_leaf_of file (start_of r.address) r) (Some (leaf_at (rowids u) u)) o) (sym first)
            (reported_same why' why (is_leaf_of file (start_of r.address) r && not (d == depth u.address)) (fault T05 r.page 0 (pos d)) causes))
        by_leaf true f None g =
            let itself : find (is_leaf_of file k) (r ∷ []) ≡ Some r = ap (λ b. cond b (Some r) None) (subst (λ s. is_leaf_of file s r ≡ true) at f) in
            let first : find (is_leaf_of file (start_of r.address)) U ≡ Some r = first_found ∙ ap (λ o. option_or o (find (is_leaf_of file k) (r ∷ []))) g
            ∙ itself in
            let kept : leaf_from file rowids None X ≡ None = sym (found_is rowids X same) ∙ ap (option_map (as_leaf rowids)) g in
            subst (λ l. Same (is_leaf_of file (start_of r.address) r) l (find (is_leaf_of file (start_of r.address)) U)) (sym kept)
            (subst (λ o. Same (is_leaf_of file (start_of r.address) r) None o) (sym first)
            (none why' ∙ sym (none why)))
          where
            none : (w : FaultCode → Cause) → reported_by w (reported_if (is_leaf_of file (start_of r.address) r && not (d == d)) (fault T05 r.page 0 (pos d)))
                ≡ []
            none w = ap (λ b. reported_by w (reported_if (b && not (d == d)) (fault T05 r.page 0 (pos d)))) f
                ∙ ap (λ b. reported_by w (reported_if (not b) (fault T05 r.page 0 (pos d)))) (eq-eqb d d refl)

-- the faults of a page for itself, and that of its depth
module _ (file : List ℕ) where
  pub no_depth : (r : Reference) → depth_fault file [] r ≡ []
  unfolding depth_fault
  no_depth r = by_leaf (is_leaf_of file (start_of r.address) r)
    where
      by_leaf : (b : Bool) → reported_if (b && not (depth r.address == depth r.address)) (fault T05 r.page 0 (pos (depth r.address))) ≡ []
      by_leaf true = ap (λ b. reported_if (not b) (fault T05 r.page 0 (pos (depth r.address)))) (eq-eqb (depth r.address) (depth r.address) refl)
      by_leaf false = refl

  pub not_leaf : (k : ℕ) (r : Reference) → tree_view file r ≡ None → is_leaf_of file k r ≡ false
  not_leaf k r e = by_start (start_of r.address == k)
    where
      by_start : (b : Bool) → (b && option_map_or (λ v. not (is_interior v.kind)) (tree_view file r) false) ≡ false
      by_start true = rw e refl
      by_start false = refl

  pub no_leaf : (V : List Reference) (r : Reference) → tree_view file r ≡ None → depth_fault file V r ≡ []
  unfolding depth_fault
  no_leaf V r e = ap (λ b. reported_if (b && not (depth r.address == leaf_depth file V (start_of r.address) (depth r.address)))
      (fault T05 r.page 0 (pos (depth r.address)))) (not_leaf (start_of r.address) r e)

  pub page_parts : (V : List Reference) (r : Reference) → page_faults file V r ≡ page_faults file [] r ++ depth_fault file V r
  unfolding page_faults tree_view
  page_parts V r = by_role (role_of r) refl
    where
      tree_page : (fs : List Fault) → fs ++ depth_fault file V r ≡ (fs ++ depth_fault file [] r) ++ depth_fault file V r
      tree_page fs = ap (λ l. l ++ depth_fault file V r) (sym (ap (λ l. fs ++ l) (no_depth r) ∙ append-nil fs))

      other : (fs : List Fault) → tree_view file r ≡ None → fs ≡ fs ++ depth_fault file V r
      other fs e = sym (ap (λ l. fs ++ l) (no_leaf V r e) ∙ append-nil fs)

      by_role : (role : Role) → role_of r ≡ role → role_faults role file V r ≡ role_faults role file [] r ++ depth_fault file V r
      by_role (root kind) e = tree_page _
      by_role (child kind) e = tree_page _
      by_role (first_overflow left) e = other _ (rw e refl)
      by_role (later_overflow left) e = other _ (rw e refl)
      by_role trunk e = other _ (rw e refl)
      by_role free_leaf e = other _ (rw e refl)
