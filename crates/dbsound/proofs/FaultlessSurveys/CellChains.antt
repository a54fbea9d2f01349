-- The payload of each cell of a visited page: its chain is what is below the page at the cell's step.
use Rattle.std.proofs.Common.{◌≡◌, ℕ, ◌⊎◌, inl, inr, Bool, true, List, [], ◌∷◌, ◌++◌, map, Option, Some, None, refl, sym, ap, subst, ◌∙◌, arith, append-nil}
use Rattle.std.specs.Prelude.{flat_map, nat_eq, option_map, option_to_list}
use Rattle.std.specs.List.{starts_with}
use Rattle.dbsound.proofs.Common.{IsIn, Address, Link, children, overflow_step, child_step, View, Cell, cells, count, overflow_size, right_child, Role}
use Rattle.dbsound.proofs.Common.{first_overflow, child, Way, Reference, link, cell_links, right_links, page_links, payload, held_bytes, Survey, rules_of}
use Rattle.dbsound.proofs.Common.{walk_faults, Payload, whole, split, TreeKind, below, use_of, cell_payload, leaf_payloads}
use Rattle.dbsurvey.proofs.Order.{IsIn-left, IsIn-cases, IsLeftOf-steps}
use Rattle.dbsurvey.proofs.Ordering.{IsIn-flat_map, IsIn-from_flat_map}
use Rattle.dbsurvey.proofs.Composing.{named_at-step, named_at-from, IsIn-named}
use Rattle.dbsurvey.proofs.Beginnings.{begins-apart, begins-longer, begins-shorter, not_begins}
use Rattle.dbsurvey.proofs.Lists.{filter-none, filter-from, filter-has}
use Rattle.dbformat.proofs.Cells.{one_cell}
use Rattle.dbsound.proofs.FaultlessSurveys.Followed.{by_its_links, child_visited}
use Rattle.dbsound.proofs.FaultlessSurveys.Chains.{whole_chain}
use Rattle.dbsound.proofs.FaultlessSurveys.TreePages.{IsTreePage}
use Rattle.std.proofs.lemmas.Bool.{cases_order}
use Rattle.dbformat.proofs.Places.{same_front}

-- what is below a page at a step
abbrev pub at_step : List Reference → Address → ℕ → List Reference
at_step V a step = below V (a ++ (step ∷ []))

one_link : (p step item : ℕ) (role : Role) (o : Option ℕ) (l : Link Way) → IsIn l (option_to_list (option_map (link p step item role) o))
    → (q : ℕ) × (o ≡ Some q) × (l.step ≡ step)
one_link p step item role None l j = absurd j
one_link p step item role (Some q) l (inl e) = (q, refl, ap (λ l. l.step) e)
one_link p step item role (Some q) l (inr j) = absurd j

-- the step of a link of a page is that of a cell's chain, or of a child
link_step : (p : ℕ) (kind : TreeKind) (v : View) (l : Link Way) → IsIn l (page_links p kind (Some v))
    → ((x : ℕ × Cell) × IsIn x (cells v) × (first : ℕ) × (x.1.overflow ≡ Some first) × (l.step ≡ overflow_step x.0)) ⊎ ((n : ℕ) × (l.step ≡ child_step n))
link_step p kind v l j = elim (IsIn-cases l (flat_map (cell_links p kind) (cells v)) (right_links p kind v) j) [
  | inl k ↦ (let y = IsIn-from_flat_map (cell_links p kind) (cells v) l k in of_cell y.0 y.1 y.2)
  | inr k ↦ (let q = one_link p (child_step (count v)) (count v) (child kind) (right_child v) l k in inr (count v, q.2))
]
  where
    of_cell : (x : ℕ × Cell) → IsIn x (cells v) → IsIn l (cell_links p kind x)
        → ((x : ℕ × Cell) × IsIn x (cells v) × (first : ℕ) × (x.1.overflow ≡ Some first) × (l.step ≡ overflow_step x.0)) ⊎ ((n : ℕ) × (l.step ≡ child_step n))
    of_cell (i, c) j k = elim (IsIn-cases l (option_to_list (option_map (link p (overflow_step i) i (first_overflow (overflow_size c))) c.overflow))
        (option_to_list (option_map (link p (child_step i) i (child kind)) c.left)) k) [
          | inl m ↦ (let q = one_link p (overflow_step i) i (first_overflow (overflow_size c)) c.overflow l m in inl ((i, c), j, q.0, q.1, q.2))
          | inr m ↦ (let q = one_link p (child_step i) i (child kind) c.left l m in inr (i, q.2))
        ]

module _ (file : List ℕ) (V : List Reference) (s : Survey file V) (none : walk_faults file V ≡ []) (r : Reference) (i : IsIn r V) where
  -- at a step that leads nowhere is nothing
  nothing_at : (step : ℕ) → ((d : Reference) → IsIn d (children (rules_of file) r) → d.address ≡ r.address ++ (step ∷ []) → ⊥) → at_step V r.address step ≡ []
  nothing_at step h = filter-none (λ t. starts_with nat_eq t.address (r.address ++ (step ∷ []))) V
      (λ t j. not_begins t.address (r.address ++ (step ∷ [])) (λ k. in_part t j k))
    where
      in_child : (t d : Reference) → IsIn d (children (rules_of file) r) → starts_with nat_eq t.address (r.address ++ (step ∷ [])) ≡ true
          → starts_with nat_eq t.address d.address ≡ true → ⊥
      in_child t d j k l =
          let n = named_at-step r.address ((rules_of file).links r.page r.role) d j in
          let m : starts_with nat_eq t.address (r.address ++ (n.0 ∷ [])) ≡ true = subst (λ a. starts_with nat_eq t.address a ≡ true) n.1 l in
          elim (cases_order n.0 step) [
            | inl e ↦ h d j (n.1 ∙ ap (λ x. r.address ++ (x ∷ [])) e)
            | inr o ↦ (elim o [
              | inl lt ↦ begins-apart (r.address ++ (n.0 ∷ [])) (r.address ++ (step ∷ [])) t.address (IsLeftOf-steps r.address n.0 step lt) m k
              | inr lt ↦ begins-apart (r.address ++ (step ∷ [])) (r.address ++ (n.0 ∷ [])) t.address (IsLeftOf-steps r.address step n.0 lt) k m
            ])
          ]

      in_part : (t : Reference) → IsIn t V → starts_with nat_eq t.address (r.address ++ (step ∷ [])) ≡ true → ⊥
      in_part t j k =
          let l : IsIn t (r ∷ flat_map (λ d. below V d.address) (children (rules_of file) r)) =
          subst (IsIn t) (by_its_links file V s none r i) (filter-has (λ t. starts_with nat_eq t.address r.address) V t j
          (begins-shorter r.address (step ∷ []) t.address k)) in
          elim l [
            | inl e ↦ begins-longer r.address step [] (subst (λ t. starts_with nat_eq t.address (r.address ++ (step ∷ [])) ≡ true) e k)
            | inr m ↦ (let d = IsIn-from_flat_map (λ d. below V d.address) (children (rules_of file) r) t m in
                in_child t d.0 d.1 k (filter-from (λ t. starts_with nat_eq t.address d.0.address) V t d.2).1)
          ]

  module _ (kind : TreeKind) (is_child : Bool) (v : View) (page : IsTreePage file V r kind is_child v) where
    -- the link at an overflow step is its cell's
    overflow_link : (x : ℕ × Cell) → IsIn x (cells v) → x.1.overflow ≡ None → (d : Reference) → IsIn d (children (rules_of file) r)
        → d.address ≡ r.address ++ (overflow_step x.0 ∷ []) → ⊥
    overflow_link x j e d k f =
        let l = named_at-from r.address (page_links r.page kind (Some v)) d (subst (IsIn d) page.links_are k) in
        let g : l.0.step ≡ overflow_step x.0 = (same_front r.address r.address l.0.step (overflow_step x.0) (sym (ap (λ d. d.address) l.2) ∙ f)).1 in
        elim (link_step r.page kind v l.0 l.1) [
          | inl y ↦ (let h : y.0.0 ≡ x.0 = omega (arith, y.4) in let m = one_cell v y.0 x y.1 j h in let n = sym y.3 ∙ ap (λ c. c.overflow) m ∙ e in cc)
          | inr n ↦ omega (arith, n.1)
        ]

    pub no_chain : (x : ℕ × Cell) → IsIn x (cells v) → x.1.overflow ≡ None → at_step V r.address (overflow_step x.0) ≡ []
    no_chain x j e = nothing_at (overflow_step x.0) (overflow_link x j e)

    -- the first overflow page of a cell
    first_page : ℕ × Cell → ℕ → Reference
    first_page x first = record {
      address = r.address ++ (overflow_step x.0 ∷ []);
      page = first;
      role =
          record { role = first_overflow (overflow_size x.1); from = r.page; item = x.0 };
    }

    has_first : (x : ℕ × Cell) (first : ℕ) → IsIn x (cells v) → x.1.overflow ≡ Some first → IsIn (first_page x first) V
    unfolding first_page
    has_first x first j e = child_visited file V s none r (first_page x first) i
        (subst (IsIn (first_page x first)) (sym page.links_are) (IsIn-named r.address (page_links r.page kind (Some v)) (l x)
        (IsIn-left (l x) (flat_map (cell_links r.page kind) (cells v)) (right_links r.page kind v)
        (IsIn-flat_map (cell_links r.page kind) (cells v) x (l x) j (in_cell x e)))))
      where
        l : ℕ × Cell → Link Way
        l x = link r.page (overflow_step x.0) x.0 (first_overflow (overflow_size x.1)) first

        in_cell : (x : ℕ × Cell) → x.1.overflow ≡ Some first → IsIn (l x) (cell_links r.page kind x)
        in_cell (n, c) e = rw e (inl refl)

    -- the payload of a cell, and its chain's pages
    pub payload_at : (x : ℕ × Cell) → IsIn x (cells v)
        → Payload file r.page x.1 (map use_of (at_step V r.address (overflow_step x.0))) (cell_payload file V r x)
        × (flat_map (leaf_payloads file V) (at_step V r.address (overflow_step x.0)) ≡ [])
    unfolding payload first_page
    payload_at x j = by_case x.1.overflow refl
      where
        by_case : (o : Option ℕ) → x.1.overflow ≡ o
            → Payload file r.page x.1 (map use_of (at_step V r.address (overflow_step x.0)))
            (x.1.local ++ flat_map (held_bytes file) (at_step V r.address (overflow_step x.0)))
            × (flat_map (leaf_payloads file V) (at_step V r.address (overflow_step x.0)) ≡ [])
        by_case None e = let f = no_chain x j e in (
          subst (λ l. Payload file r.page x.1 (map use_of l) (x.1.local ++ flat_map (held_bytes file) l)) (sym f)
              (subst (Payload file r.page x.1 []) (sym (append-nil x.1.local)) (whole e)),
          ap (flat_map (leaf_payloads file V)) f,
        )
        by_case (Some first) e =
            let c = whole_chain file V s none (first_page x first) (overflow_size x.1) refl (has_first x first j e) in
            (split e c.0, c.1)
