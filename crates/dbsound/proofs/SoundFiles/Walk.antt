-- The survey of a sound file has no fault at a page, a reference or a key.
use Rattle.std.proofs.Common.{◌≡◌, ℕ, inl, inr, Option, Some, None, List, [], ◌∷◌, ◌++◌, map, refl, sym, ap, subst, ◌∙◌}
use Rattle.std.specs.Prelude.{option_and_then, flat_map}
use Rattle.dbsound.proofs.Common.{IsIn, Address, named_at, geometry, page_bytes, key_step, View, undamaged, Cell, cells, Role, root, child, first_overflow}
use Rattle.dbsound.proofs.Common.{later_overflow, trunk, free_leaf, Way, Reference, role_of, tree_kind, tree_view, cell_links, right_links, overflow_links}
use Rattle.dbsound.proofs.Common.{usable_size, schema_link, later_starts, starts, Survey, rules_of, story_of, reporting, key_of, key_faults, walk_faults, Sound}
use Rattle.dbsound.proofs.Common.{TreeKind}
use Rattle.dbsurvey.specs.Survey.{IsNamed}
use Rattle.dbsurvey.specs.Story.{Reported, PageStep, Follow, Place, Errand, Go, Due, errands_at, goes, IsReported, of_errand, of_page, of_place, of_refused}
use Rattle.dbsurvey.proofs.Order.{IsIn-cases}
use Rattle.dbsurvey.proofs.Ordering.{IsIn-from_flat_map}
use Rattle.dbsurvey.proofs.Unfolding.{whole_none_refused}
use Rattle.dbsurvey.proofs.Starting.{survey_from_first}
use Rattle.dbsurvey.proofs.Reportings.{goes-errands}
use Rattle.dbformat.specs.Reference.{trunk_links}
use Rattle.dbformat.specs.Story.{Event, at_key, cell_items, page_items, role_items, start_errands}
use Rattle.dbformat.specs.KeyFaults.{cell_place_faults}
use Rattle.dbformat.specs.Report.{event_faults}
use Rattle.dbformat.proofs.Theory.{are_rules, reported_in_order, links-follows, no_place, no_due}
use Rattle.dbformat.proofs.Rising.{starts_rise}
use Rattle.dbsurvey.proofs.Lists.{flat_map-none}
use Rattle.dbsound.proofs.SoundFiles.Survey.{first_visits, all_visits, first_is, all_whole}
use Rattle.dbsound.proofs.SoundFiles.Pages.{pages_none}
use Rattle.dbsound.proofs.SoundFiles.Keys.{keys_none}
use Rattle.dbsound.proofs.SoundFiles.Rows.{rows_none}

module _ (file : List ℕ) (s : Sound file) (survey : Survey file (all_visits file s)) where
  places_none : (r : Reference) (v : View) (x : ℕ × Cell) → IsIn r (all_visits file s) → tree_view file r ≡ Some v → IsIn x (cells v)
      → cell_place_faults file (all_visits file s) r v x ≡ []
  places_none r v x i e j = ap (λ l. l ++ flat_map (key_faults file (all_visits file s)) (key_of r v x)) (rows_none file s survey r v x i e j)
      ∙ keys_none file s r v x i e j

  -- no reference is refused
  starts_are : named_at [] (starts file (all_visits file s)) ≡ named_at [] (schema_link ∷ later_starts file (first_visits file s))
  starts_are = ap (λ U. named_at [] (schema_link ∷ later_starts file U))
      (survey_from_first (rules_of file) (geometry file).pages (are_rules file) schema_link (later_starts file) (starts_rise file) (all_visits file s) survey
      ∙ first_is file s)

  none_refused : (c : Reference) → IsNamed (rules_of file) (goes (start_errands file (all_visits file s))) (all_visits file s) c → IsIn c (all_visits file s)
  none_refused c n = whole_none_refused (rules_of file) (named_at [] (schema_link ∷ later_starts file (first_visits file s))) (all_visits file s)
      (all_whole file s) c
      (subst (λ cs. IsNamed (rules_of file) cs (all_visits file s) c)
      (goes-errands [] (map Follow (starts file (all_visits file s))) ∙ ap (named_at []) (links-follows (starts file (all_visits file s))) ∙ starts_are) n)

-- an event at a place is a key of a cell
key_of_cell : (r : Reference) (kind : TreeKind) (v : View) (x : ℕ × Cell) (step : ℕ) (event : Event) → IsIn (Place step event) (cell_items r kind v x)
    → event ≡ at_key r v x
key_of_cell r kind v (i, c) step event h = elim (IsIn-cases (Place step event) (map Follow (cell_links r.page kind (i, c)))
    (Place (key_step i) (at_key r v (i, c)) ∷ []) h) [
      | inl k ↦ absurd (no_place (cell_links r.page kind (i, c)) step event k)
      | inr k ↦ (elim k [ inl e ↦ ap event_in e | inr n ↦ absurd n ])
    ]
  where
    event_in : PageStep Way Event → Event
    event_in (Follow l) = event
    event_in (Place step e) = e

key_of_page : (r : Reference) (kind : TreeKind) (o : Option View) (step : ℕ) (event : Event) → IsIn (Place step event) (page_items r kind o)
    → (v : View) × (x : ℕ × Cell) × (o ≡ Some v) × IsIn x (cells v) × (event ≡ at_key r v x)
key_of_page r kind None step event h = absurd h
key_of_page r kind (Some v) step event h = elim (IsIn-cases (Place step event) (flat_map (cell_items r kind v) (cells v))
    (map Follow (right_links r.page kind v)) h) [
      | inl k ↦ (let m = IsIn-from_flat_map (cell_items r kind v) (cells v) (Place step event) k in
          (v, m.0, refl, m.1, key_of_cell r kind v m.0 step event m.2))
      | inr k ↦ absurd (no_place (right_links r.page kind v) step event k)
    ]

key_of_role : (file : List ℕ) (r : Reference) (role : Role) (step : ℕ) (event : Event) → role_of r ≡ role
    → IsIn (Place step event) (role_items role r (usable_size file) (page_bytes file r.page))
    → (v : View) × (x : ℕ × Cell) × (tree_view file r ≡ Some v) × IsIn x (cells v) × (event ≡ at_key r v x)
unfolding tree_view
key_of_role file r role step event e h = by_role role e h
  where
    view_in : Role → Option View
    view_in role = option_and_then (λ kind. undamaged kind r.page (usable_size file) (page_bytes file r.page)) (tree_kind role)

    by_role : (role : Role) → role_of r ≡ role → IsIn (Place step event) (role_items role r (usable_size file) (page_bytes file r.page))
        → (v : View) × (x : ℕ × Cell) × (view_in (role_of r) ≡ Some v) × IsIn x (cells v) × (event ≡ at_key r v x)
    by_role (root kind) e h = let k = key_of_page r kind (undamaged kind r.page (usable_size file) (page_bytes file r.page)) step event h in
        (k.0, k.1, ap view_in e ∙ k.2, k.3, k.4)
    by_role (child kind) e h = let k = key_of_page r kind (undamaged kind r.page (usable_size file) (page_bytes file r.page)) step event h in
        (k.0, k.1, ap view_in e ∙ k.2, k.3, k.4)
    by_role (first_overflow left) e h = absurd (no_place (overflow_links r.page (usable_size file) left (page_bytes file r.page)) step event h)
    by_role (later_overflow left) e h = absurd (no_place (overflow_links r.page (usable_size file) left (page_bytes file r.page)) step event h)
    by_role trunk e h = absurd (no_place (trunk_links r.page (usable_size file) (page_bytes file r.page)) step event h)
    by_role free_leaf e h = absurd h

placed_in : (a : Address) (items : List (PageStep Way Event)) (e : Reported Event) → IsIn (Due e) (errands_at a items) → (step : ℕ)
    × IsIn (Place step e.event) items
placed_in a [] e h = absurd h
placed_in a (Follow l ∷ is) e (inl k) = cc
placed_in a (Follow l ∷ is) e (inr h) = let m = placed_in a is e h in (m.0, inr m.1)
placed_in a (Place step event ∷ is) e (inl k) = (step, inl (ap (λ x. Place step (event_in x)) k))
  where
    event_in : Errand Way Event → Event
    event_in (Go c) = event
    event_in (Due x) = x.event
placed_in a (Place step event ∷ is) e (inr h) = let m = placed_in a is e h in (m.0, inr m.1)

module _ (file : List ℕ) (s : Sound file) (survey : Survey file (all_visits file s)) where
  reported_none_at : (e : Reported Event) → IsReported (rules_of file) (story_of file) (start_errands file (all_visits file s)) (all_visits file s) e
      → event_faults file (all_visits file s) e.event ≡ []
  unfolding story_of
  reported_none_at e (of_errand i) = absurd (no_due [] (starts file (all_visits file s)) e i)
  reported_none_at e (of_page r i f) = subst (λ x. event_faults file (all_visits file s) x.event ≡ []) (sym f) (pages_none file s r i)
  reported_none_at e (of_place r i j) =
      let p = placed_in r.address (role_items (role_of r) r (usable_size file) (page_bytes file r.page)) e j in
      let k = key_of_role file r (role_of r) p.0 e.event refl p.1 in
      subst (λ x. event_faults file (all_visits file s) x ≡ []) (sym k.4) (places_none file s survey r k.0 k.1 i k.2 k.3)
  reported_none_at e (of_refused c n out f) = absurd (out (none_refused file s survey c n))

  pub walk_none : walk_faults file (all_visits file s) ≡ []
  unfolding walk_faults
  walk_none = flat_map-none (λ t. event_faults file (all_visits file s) t.event) (reporting file (all_visits file s))
      (λ t i. reported_none_at t (((reported_in_order file (all_visits file s) survey).0.exact t).0 i))
