-- Below a page that is in no tree there is no page of a tree; so what is reported there leaves the progress as it is.
use Rattle.std.proofs.Common.{◌≡◌, ℕ, zero, suc, ◌<◌, inl, inr, cond, not, ◌&&◌, List, [], ◌∷◌, ◌++◌, map, length, Option, Some, None, refl, sym, ap, arith}
use Rattle.std.proofs.Common.{◌∙◌, append_assoc}
use Rattle.std.specs.Prelude.{option_to_list, pos, ◌==◌}
use Rattle.std.proofs.lemmas.List.{append-nil, length-append, map-append}
use Rattle.dbtrace.proofs.Common.{IsIn, Address, run, Reported, read_back, reported_if, fault, start_of, Reference, role_of, tree_kind, tree_view, page_faults}
use Rattle.dbtrace.proofs.Common.{event_faults, event_row, Event, at_page, at_key, at_refused, own_visit, rules_of, FaultCode, TreeKind, leaf_at, refusal_of}
use Rattle.dbtrace.proofs.Common.{rowids_of, cause_of, reported_row, reported_by, reported_at, RowidBounds, rows_at_event, leaf_after, depth_faults, Walk}
use Rattle.dbtrace.proofs.Common.{machine, advance}
use Rattle.dbsurvey.specs.Run.{up_to}
use Rattle.dbsurvey.specs.Survey.{IsNamed, children}
use Rattle.dbsurvey.proofs.Composing.{named_at-step}
use Rattle.dbformat.proofs.Visited.{kind_of_view}
use Rattle.dbformat.specs.Address.{depth}
use Rattle.dbformat.specs.ReferenceFaults.{reference_faults}
use Rattle.dbformat.specs.declared.FaultCode.TheVariants.{T05}
use Rattle.dbtrace.specs.Causes.{key_up_to}
use Rattle.dbtrace.specs.declared.TreeLeaf.{TreeLeaf}
use Rattle.dbtrace.specs.Item.{found, given, faults_at, items_at}
use Rattle.dbtrace.specs.Progress.{Progress, cause_by, rowids_by, depth_of, step}
use Rattle.dbtrace.specs.Steps.{AreAside}
use Rattle.dbtrace.proofs.Depths.{page_parts, not_leaf, no_leaf}
use Rattle.dbtrace.proofs.Causing.{AgreeOn, page_codes, page_same}
use Rattle.dbtrace.proofs.SchemaOrder.{parent_inside}
use Rattle.dbtrace.proofs.Reported.{visited, trace, part, reports, IsOf, IsReportedBelow, refused_as, reported_as}

module _ (file : List ℕ) where
  no_view : (r : Reference) → tree_kind (role_of r) ≡ None → tree_view file r ≡ None
  unfolding tree_view
  no_view r e = rw e refl

  -- an event of no page of a tree
  abbrev pub IsOff : Event → Type 0
  IsOff (at_page r) = tree_kind (role_of r) ≡ None
  IsOff (at_key r v x) = ⊥
  IsOff (at_refused r) = tree_kind (role_of r) ≡ None

  pub step_off : (U : List Reference) (p : Progress) (e : Event) → IsOff e → step file U p e ≡ p
  step_off U p (at_page r) h = ap (λ leaf. record { greatest = p.greatest; leaf = leaf }) (kept p.leaf)
    where
      rowids : RowidBounds
      rowids = rowids_by p (key_up_to file U r)

      kept : (leaf : Option TreeLeaf) → leaf_after file leaf rowids r ≡ leaf
      kept None = ap (λ b. cond b (Some (leaf_at rowids r)) None) (not_leaf file (start_of r.address) r (no_view r h))
      kept (Some d) = refl
  step_off U p (at_key r v x) h = absurd h
  step_off U p (at_refused r) h = refl

  faults_off : (U : List Reference) (p : Progress) (e : Event) → IsOff e → reported_by (cause_by file U p e) (faults_at file U p e)
      ≡ reported_by (cause_of file U e) (event_faults file U e)
  faults_off U p (at_page r) h = ap (λ l. reported_by (cause_by file U p (at_page r)) (page_faults file [] r ++ l)) quiet
      ∙ ap (reported_by (cause_by file U p (at_page r))) (append-nil (page_faults file [] r))
      ∙ page_same (cause_by file U p (at_page r)) (cause_of file U (at_page r)) file refl refl r in_tree
      ∙ ap (reported_by (cause_of file U (at_page r))) (sym (page_parts file U r ∙ ap (λ l. page_faults file [] r ++ l) (no_leaf file U r (no_view r h))
      ∙ append-nil (page_faults file [] r)))
    where
      quiet : depth_faults file p.leaf r ≡ []
      quiet = ap (λ b. reported_if (b && not (depth r.address == depth_of p.leaf (depth r.address))) (fault T05 r.page 0 (pos (depth r.address))))
          (not_leaf file (start_of r.address) r (no_view r h))

      in_tree : (kind : TreeKind) → tree_kind (role_of r) ≡ Some kind → AgreeOn page_codes (cause_by file U p (at_page r)) (cause_of file U (at_page r))
      in_tree kind e = let f = sym h ∙ e in cc
  faults_off U p (at_key r v x) h = absurd h
  faults_off U p (at_refused r) h = ap (λ why. reported_by why (reference_faults file U r)) same
    where
      same : cause_by file U p (at_refused r) ≡ cause_of file U (at_refused r)
      same = ap (λ kind. λ (code : FaultCode). refusal_of file U r (rowids_by p (key_up_to file U r)) kind) h
          ∙ sym (ap (λ kind. λ (code : FaultCode). refusal_of file U r (rowids_of file U r) kind) h)

  rows_off : (U : List Reference) (e : Event) → IsOff e → rows_at_event file U e ≡ []
  rows_off U (at_page r) h = refl
  rows_off U (at_key r v x) h = absurd h
  rows_off U (at_refused r) h = refl

  -- along a trace of such events
  state_off : (now : Walk) (L : List (Reported Event)) → ((t : Reported Event) → IsIn t L → IsOff t.event) → (run (machine file) now L).state ≡ now.state
  state_off now [] h = refl
  state_off now (t ∷ L) h = state_off (advance file now t.event) L (λ u i. h u (inr i))
      ∙ step_off (advance file now t.event).visits now.state t.event (h t (inl refl))

  pub item_off : (U : List Reference) (p : Progress) (e : Event) → IsOff e → items_at file U p e ≡ map found (reported_at file U e)
  item_off U p e h = ap (λ rows. map given rows ++ map found
      (map reported_row (option_to_list (event_row file e)) ++ reported_by (cause_by file U p e) (faults_at file U p e))) (rows_off U e h)
      ∙ ap (λ fs. map found (map reported_row (option_to_list (event_row file e)) ++ fs)) (faults_off U p e h)

  items_off : (now : Walk) (L : List (Reported Event)) → ((t : Reported Event) → IsIn t L → IsOff t.event) → (run (machine file) now L).items ≡ now.items
      ++ map found (read_back own_visit (reported_at file) now.visits L)
  items_off now [] h = sym (append-nil now.items)
  items_off now (t ∷ L) h =
      let U = up_to (machine file) now t.event in
      items_off (advance file now t.event) L (λ u i. h u (inr i))
      ∙ ap (λ l. now.items ++ l ++ map found (read_back own_visit (reported_at file) U L)) (item_off U now.state t.event (h t (inl refl)))
      ∙ append_assoc now.items (map found (reported_at file U t.event)) (map found (read_back own_visit (reported_at file) U L))
      ∙ ap (λ l. now.items ++ l) (sym (map-append found (reported_at file U t.event) (read_back own_visit (reported_at file) U L)))

module _ (file : List ℕ) (W : List Reference) (c : Reference) (none : tree_kind (role_of c) ≡ None) where
  -- a page that is in no tree has no reference to one that is
  none_of : (p r : Reference) → IsIn r (children (rules_of file) p) → tree_kind (role_of p) ≡ None → tree_kind (role_of r) ≡ None
  none_of p r h f = by_kind (tree_kind (role_of r)) refl
    where
      by_kind : (o : Option TreeKind) → tree_kind (role_of r) ≡ o → tree_kind (role_of r) ≡ None
      by_kind None e = e
      by_kind (Some kind) e = let v = parent_inside file p r kind h e in let k = kind_of_view file p v.0 v.1 in let g = sym f ∙ k.1 in cc

  no_tree_below : (r : Reference) → IsIn r (visited file W c) → tree_kind (role_of r) ≡ None
  no_tree_below r i = go (suc (length r.address)) r i (omega arith)
    where
      go : (n : ℕ) (r : Reference) → IsIn r (visited file W c) → length r.address < n → tree_kind (role_of r) ≡ None
      go zero r i l = absurd (omega arith)
      go (suc n) r i l = elim (((part file W c).exact r).0 i).0 [
        | inl m ↦ (elim m [ inl e ↦ ap (λ c. tree_kind (role_of c)) e ∙ none | inr f ↦ absurd f ])
        | inr m ↦ (let s = named_at-step m.0.address ((rules_of file).links m.0.page m.0.role) r m.2 in
            let z = ap length s.1 ∙ length-append m.0.address (s.0 ∷ []) in
            none_of m.0 r m.2 (go n m.0 m.1 (omega arith)))
      ]

  no_tree_named : (r : Reference) → IsNamed (rules_of file) (c ∷ []) (visited file W c) r → tree_kind (role_of r) ≡ None
  no_tree_named r n = elim n [
    | inl m ↦ (elim m [ inl e ↦ ap (λ c. tree_kind (role_of c)) e ∙ none | inr f ↦ absurd f ])
    | inr m ↦ none_of m.0 r m.2 (no_tree_below m.0 m.1)
  ]

  off : (t : Reported Event) → IsIn t (trace file W c) → IsOff file t.event
  off t i = by_event t.key t.event refl (reported_as file W c t reported)
    where
      reported : IsReportedBelow file W c t
      reported = ((reports file W c).exact t).0 i

      by_event : (place : Address) (e : Event) → t.event ≡ e → IsOf file (visited file W c) place e → IsOff file e
      by_event place (at_page r) f h = no_tree_below r h.0
      by_event place (at_key r v x) f h = let e = sym (no_view file r (no_tree_below r h.0)) ∙ h.1 in cc
      by_event place (at_refused r) f h = no_tree_named r (refused_as file W c t reported r f)

pub are_aside : (file : List ℕ) → AreAside file
are_aside file now c none = record {
  state = state_off file now (trace file now.visits c) (off file now.visits c none);
  items = items_off file now (trace file now.visits c) (off file now.visits c none);
}
