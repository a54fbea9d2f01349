-- What is reported at an event of the tree of a start, and what was visited and reported before it.
use Rattle.std.proofs.Common.{◌≡◌, ℕ, ◌↔◌, inl, inr, List, [], ◌∷◌, ◌++◌, map, Option, Some, None, refl, sym, ap, subst, ◌∙◌}
use Rattle.std.specs.Prelude.{flat_map}
use Rattle.dbtrace.proofs.Common.{IsIn, Address, IsBefore, IsAscending, Reported, Go, reporting_of, visits_in, usable_size, geometry, page_bytes, then_step}
use Rattle.dbtrace.proofs.Common.{key_step, View, Cell, cells, Role, root, child, first_overflow, later_overflow, trunk, free_leaf, Way, Reference, role_of}
use Rattle.dbtrace.proofs.Common.{tree_view, rules_of, Event, at_page, at_key, at_refused, own_visit, story_of, TreeKind}
use Rattle.dbsurvey.specs.Survey.{IsNamed, IsPart}
use Rattle.dbsurvey.specs.Traverse.{part_of}
use Rattle.dbsurvey.specs.Story.{PageStep, Follow, Place, Errand, Due, goes, reported_own, IsReported, of_errand, of_page, of_place, of_refused}
use Rattle.dbsurvey.specs.Story.{IsReporting}
use Rattle.dbsurvey.proofs.Order.{IsIn-cases, IsIn-right, EachPair-right, IsBefore-trans, IsBefore-beginning}
use Rattle.dbsurvey.proofs.Ordering.{IsIn-from_flat_map}
use Rattle.dbsurvey.proofs.Composing.{part_below}
use Rattle.dbsurvey.proofs.ReportingLaws.{reporting_is}
use Rattle.dbsurvey.proofs.Reportings.{reported_before}
use Rattle.dbsurvey.proofs.Traversal.{traverse_part, free_at_most}
use Rattle.dbsurvey.proofs.Visits.{visits-from, visits-has, own_of}
use Rattle.dbformat.specs.Head.{undamaged}
use Rattle.dbformat.specs.Reference.{cell_links, right_links}
use Rattle.dbformat.specs.Reference.{overflow_links, trunk_links}
use Rattle.dbformat.specs.Story.{cell_items, page_items, role_items}
use Rattle.dbformat.proofs.Theory.{are_rules, is_story, shows_visits, no_place}
use Rattle.dbformat.proofs.LookBack.{key_at}
use Rattle.dbformat.proofs.NoFaults.{placed, cell_in_items}

module _ (file : List ℕ) where
  -- an item of a page that is reported at a step: a readable cell, at the step of its key
  abbrev IsOfPage : Reference → PageStep Way Event → Type 0
  IsOfPage u (Follow l) = Unit {0}
  IsOfPage u (Place step (at_page r)) = ⊥
  IsOfPage u (Place step (at_key r v x)) = (r ≡ u) × (tree_view file u ≡ Some v) × IsIn x (cells v) × (step ≡ key_step x.0)
  IsOfPage u (Place step (at_refused r)) = ⊥

  of_view : (u : Reference) (kind : TreeKind) (o : Option View) → tree_view file u ≡ o → (step : ℕ) (event : Event)
      → IsIn (Place step event) (page_items u kind o) → IsOfPage u (Place step event)
  of_view u kind None e step event h = absurd h
  of_view u kind (Some v) e step event h = elim (IsIn-cases (Place step event) (flat_map (cell_items u kind v) (cells v))
      (map Follow (right_links u.page kind v)) h) [
        | inr i ↦ absurd (no_place (right_links u.page kind v) step event i)
        | inl i ↦ (let m = IsIn-from_flat_map (cell_items u kind v) (cells v) (Place step event) i in of_cell m.0 m.1 m.2)
      ]
    where
      of_cell : (x : ℕ × Cell) → IsIn x (cells v) → IsIn (Place step event) (cell_items u kind v x) → IsOfPage u (Place step event)
      of_cell (i, c) j h = elim (IsIn-cases (Place step event) (map Follow (cell_links u.page kind (i, c))) _ h) [
        | inl k ↦ absurd (no_place (cell_links u.page kind (i, c)) step event k)
        | inr k ↦ (elim k [ inl f ↦ subst (IsOfPage u) (sym f) (refl, e, j, refl) | inr n ↦ absurd n ])
      ]

  of_items : (u : Reference) (step : ℕ) (event : Event) → IsIn (Place step event) ((story_of file).items u) → IsOfPage u (Place step event)
  unfolding story_of tree_view
  of_items u step event h = by_role (role_of u) refl h
    where
      by_role : (role : Role) → role_of u ≡ role → IsIn (Place step event) (role_items role u (usable_size file) (page_bytes file u.page))
          → IsOfPage u (Place step event)
      by_role (root kind) e h = of_view u kind (undamaged kind u.page (usable_size file) (page_bytes file u.page)) (rw e refl) step event h
      by_role (child kind) e h = of_view u kind (undamaged kind u.page (usable_size file) (page_bytes file u.page)) (rw e refl) step event h
      by_role (first_overflow left) e h = absurd (no_place (overflow_links u.page (usable_size file) left (page_bytes file u.page)) step event h)
      by_role (later_overflow left) e h = absurd (no_place (overflow_links u.page (usable_size file) left (page_bytes file u.page)) step event h)
      by_role trunk e h = absurd (no_place (trunk_links u.page (usable_size file) (page_bytes file u.page)) step event h)
      by_role free_leaf e h = absurd h

  -- what an event has to do with its place and the visits
  abbrev pub IsOf : List Reference → Address → Event → Type 0
  IsOf V place (at_page r) = IsIn r V × (place ≡ r.address)
  IsOf V place (at_key r v x) = IsIn r V × (tree_view file r ≡ Some v) × IsIn x (cells v) × (place ≡ then_step r.address (key_step x.0))
  IsOf V place (at_refused r) = place ≡ r.address

  of_place_at : (V : List Reference) (u : Reference) (step : ℕ) (event : Event) → IsIn u V → IsOfPage u (Place step event)
      → IsOf V (then_step u.address step) event
  of_place_at V u step (at_page r) i h = absurd h
  of_place_at V u step (at_key r v x) i h = (
    subst (λ w. IsIn w V) (sym h.0) i,
    ap (tree_view file) h.0 ∙ h.1,
    h.2,
    ap (then_step u.address) h.3 ∙ ap (λ w. then_step w.address (key_step x.0)) (sym h.0),
  )
  of_place_at V u step (at_refused r) i h = absurd h

  -- of what is reported below errands that are all references
  pub reported_of : (errands : List (Errand Way Event)) (V : List Reference) → ((e : Reported Event) → IsIn (Due e) errands → ⊥) → (e : Reported Event)
      → IsReported (rules_of file) (story_of file) errands V e → IsOf V e.key e.event
  unfolding story_of
  reported_of errands V none e (of_errand i) = absurd (none e i)
  reported_of errands V none e (of_page r i f) = subst (λ e. IsOf V e.key e.event) (sym f) (i, refl)
  reported_of errands V none e (of_place u i j) =
      let m = key_at u.address ((story_of file).items u) e j in
      subst (λ a. IsOf V a e.event) (sym m.2) (of_place_at V u m.0 e.event i (of_items u m.0 e.event m.1))
  reported_of errands V none e (of_refused r n out f) = subst (λ e. IsOf V e.key e.event) (sym f) refl

  -- a reference that is refused is one of them, or a page that was visited has it
  pub refused_of : (errands : List (Errand Way Event)) (V : List Reference) → ((e : Reported Event) → IsIn (Due e) errands → ⊥) → (e : Reported Event)
      → IsReported (rules_of file) (story_of file) errands V e → (r : Reference) → e.event ≡ at_refused r → IsNamed (rules_of file) (goes errands) V r
  unfolding story_of
  refused_of errands V none e (of_errand i) r k = absurd (none e i)
  refused_of errands V none e (of_page u i f) r k = let g = sym (ap (λ e. e.event) f) ∙ k in cc
  refused_of errands V none e (of_place u i j) r k =
      let m = key_at u.address ((story_of file).items u) e j in
      absurd (subst (λ event. IsOfPage u (Place m.0 event)) k (of_items u m.0 e.event m.1))
  refused_of errands V none e (of_refused u n out f) r k =
      subst (λ r. IsNamed (rules_of file) (goes errands) V r) (ap refused_in (sym (ap (λ e. e.event) f) ∙ k)) n
    where
      refused_in : Event → Reference
      refused_in (at_refused r) = r
      refused_in _ = u

-- the tree of a start, after W
module _ (file : List ℕ) (W : List Reference) (c : Reference) where
  abbrev pub visited : List Reference
  visited = part_of (rules_of file) (geometry file).pages W (c ∷ [])

  abbrev pub trace : List (Reported Event)
  trace = reporting_of (rules_of file) (story_of file) (geometry file).pages W (Go c ∷ [])

  abbrev pub IsReportedBelow : Reported Event → Type 0
  IsReportedBelow e = IsReported (rules_of file) (story_of file) (Go c ∷ []) visited e

  pub part : IsPart (rules_of file) W (c ∷ []) visited
  part = traverse_part (rules_of file) (geometry file).pages (are_rules file) (geometry file).pages W (c ∷ []) (free_at_most (geometry file).pages W)
      ((λ y i. absurd i), tt)

  pub reports : IsReporting (rules_of file) (story_of file) (Go c ∷ []) visited trace
  reports = reporting_is (rules_of file) (story_of file) (geometry file).pages (are_rules file) (is_story file) (geometry file).pages W (Go c ∷ [])
      (free_at_most (geometry file).pages W) ((λ y i. absurd i), tt)

  pub below_start : (k : ℕ) → c.address ≡ k ∷ [] → (r : Reference) → IsIn r visited → (a : Address) × (r.address ≡ k ∷ a)
  below_start k at r i =
      let b = part_below (rules_of file) W (c ∷ []) visited part r i in
      (b.2.0, b.2.1 ∙ ap (λ a. a ++ b.2.0) (elim b.1 [ inl e ↦ ap (λ c. c.address) e ∙ at | inr n ↦ absurd n ]))

  pub reported_as : (e : Reported Event) → IsReportedBelow e → IsOf file visited e.key e.event
  reported_as e t = reported_of file (Go c ∷ []) visited (λ e j. elim j [ inl f ↦ cc | inr n ↦ n ]) e t

  -- a reference that is refused there is the root, or one of a page that was visited there
  pub refused_as : (e : Reported Event) → IsReportedBelow e → (r : Reference) → e.event ≡ at_refused r → IsNamed (rules_of file) (c ∷ []) visited r
  refused_as e t r k = refused_of file (Go c ∷ []) visited (λ e j. elim j [ inl f ↦ cc | inr n ↦ n ]) e t r k

  pub key_reported : (r : Reference) (v : View) (x : ℕ × Cell) → IsIn r visited → tree_view file r ≡ Some v → IsIn x (cells v)
      → IsReportedBelow (record { key = then_step r.address (key_step x.0); event = at_key r v x })
  unfolding story_of
  key_reported r v x i e j = of_place r i (placed r.address ((story_of file).items r) (key_step x.0) (at_key r v x) (cell_in_items file r v e x j))

  -- at an event of the trace
  module _ (A B : List (Reported Event)) (t : Reported Event) (split : trace ≡ A ++ (t ∷ B)) where
    pub before : (d : Reported Event) → IsIn d A ↔ (IsReportedBelow d × IsBefore d.key t.key)
    before = reported_before (rules_of file) (story_of file) (Go c ∷ []) visited A B t
        (subst (IsReporting (rules_of file) (story_of file) (Go c ∷ []) visited) split reports)

    -- the visits before it
    pub visited_before : (r : Reference) → IsIn r (visits_in own_visit A) ↔ (IsIn r visited × IsBefore r.address t.key)
    visited_before r = (there, back)
      where
        there : IsIn r (visits_in own_visit A) → IsIn r visited × IsBefore r.address t.key
        there i =
            let m = visits-from own_visit A r i in
            let b = (before m.0).0 m.1 in
            let o = own_of (rules_of file) (story_of file) own_visit (shows_visits file) (Go c ∷ []) (λ e j. elim j [ inl f ↦ cc | inr n ↦ absurd n ]) visited
            m.0 r b.0 m.2 in
            (o.0, subst (λ a. IsBefore a t.key) o.1 b.1)

        back : IsIn r visited × IsBefore r.address t.key → IsIn r (visits_in own_visit A)
        back h = visits-has own_visit A r (reported_own (story_of file) r) ((before (reported_own (story_of file) r)).1 (of_page r h.0 refl, h.1))
            ((shows_visits file).of_page r)

    -- the page of a key that was reported before it was visited before it
    pub page_before : (r : Reference) (s : ℕ) → IsIn r visited → IsBefore (then_step r.address s) t.key → IsIn r (visits_in own_visit A)
    page_before r s i b = (visited_before r).1 (i, IsBefore-trans r.address (then_step r.address s) t.key (IsBefore-beginning r.address s []) b)

    -- and those after it
    pub visited_after : (r : Reference) → IsIn r (visits_in own_visit B) → IsBefore t.key r.address
    visited_after r i =
        let m = visits-from own_visit B r i in
        let here = subst (IsIn m.0) (sym split) (IsIn-right m.0 A (t ∷ B) (inr m.1)) in
        let o = own_of (rules_of file) (story_of file) own_visit (shows_visits file) (Go c ∷ []) (λ e j. elim j [ inl f ↦ cc | inr n ↦ absurd n ]) visited m.0 r
        (((reports.exact) m.0).0 here) m.2 in
        subst (IsBefore t.key) o.1 (after m.0 m.1)
      where
        after : (e : Reported Event) → IsIn e B → IsBefore t.key e.key
        after = (EachPair-right (λ x y. IsBefore x.key y.key) A (t ∷ B) (subst (IsAscending (λ e. e.key)) split reports.ascending)).0
