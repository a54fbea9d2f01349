-- The rows of the schema are those of the events, in their order; and those at smaller places are those of the events before.
use Rattle.std.proofs.Common.{◌≡◌, ℕ, inl, inr, Bool, true, false, cond, not, ◌&&◌, List, [], ◌∷◌, ◌++◌, map, Some, None, refl, sym, ap, subst, ◌∙◌}
use Rattle.std.proofs.Common.{append_assoc}
use Rattle.std.specs.Prelude.{flat_map, filter, option_to_list, ◌==◌}
use Rattle.std.specs.List.{cons_option}
use Rattle.std.proofs.lemmas.List.{append-nil}
use Rattle.std.proofs.lemmas.List.Elements.{filter-append, filter_map-append}
use Rattle.std.proofs.lemmas.Grind.{flat_map-append}
use Rattle.dbtrace.proofs.Common.{IsIn, Address, IsBefore, IsAscending, Reported, Go, is_before, visits_in, read_back, geometry, start_of, then_step, key_step}
use Rattle.dbtrace.proofs.Common.{schema_start, View, is_interior, Cell, cells, Reference, tree_view, SchemaCell, schema_cell, schema, rules_of, Event, at_page}
use Rattle.dbtrace.proofs.Common.{at_key, at_refused, own_visit, story_of, rows_at_event}
use Rattle.dbsurvey.specs.Address.{EachPair}
use Rattle.dbsurvey.proofs.Determined.{same_elements}
use Rattle.dbsurvey.proofs.Elements.{each_list, each_within}
use Rattle.dbsurvey.proofs.Lists.{filter-all, filter-none}
use Rattle.dbsurvey.proofs.Order.{IsIn-right, EachPair-right}
use Rattle.dbsurvey.proofs.Ordering.{is_before-from, is_before-itself, IsIn-map, IsIn-flat_map, IsIn-from_flat_map}
use Rattle.dbsurvey.proofs.Parting.{visits_of}
use Rattle.dbsurvey.proofs.ReadBack.{read_as}
use Rattle.dbformat.specs.Schema.{leaf_rows, rows_at}
use Rattle.dbformat.proofs.Theory.{are_rules, is_story, shows_visits}
use Rattle.dbformat.proofs.LookBack.{not_before, cell_front, schema_front}
use Rattle.dbtrace.specs.Progress.{rows_of}
use Rattle.dbtrace.proofs.SchemaOrder.{IsRowOf, row_from, schema_ascends}
use Rattle.dbtrace.proofs.Reported.{visited, trace, reports, IsReportedBelow, IsOf, reported_as, key_reported, before, visited_after}

-- the rows of what was reported, after the visits of W
abbrev pub rows_reported : List ℕ → List Reference → List (Reported Event) → List SchemaCell
rows_reported file W A = read_back own_visit (rows_at_event file) W A

-- a row is at the place of its event
row_place : (file : List ℕ) (V X : List Reference) (place : Address) (e : Event) → IsOf file V place e → (d : SchemaCell) → IsIn d (rows_at_event file X e)
    → d.place ≡ place
row_place file V X place (at_page r) h d i = absurd i
row_place file V X place (at_refused r) h d i = absurd i
row_place file V X place (at_key r v x) h d i = by_test ((start_of r.address == schema_start) && not (is_interior v.kind)) i
  where
    by_test : (b : Bool) → IsIn d (cond b (schema_cell file X r x ∷ []) []) → d.place ≡ place
    by_test true (inl e) = ap (λ d. d.place) e ∙ sym h.3
    by_test true (inr n) = absurd n
    by_test false n = absurd n

-- the row of an event is one of its page, and the other way
in_page : (file : List ℕ) (V : List Reference) (r : Reference) (v : View) (x : ℕ × Cell) (d : SchemaCell) → tree_view file r ≡ Some v → IsIn x (cells v)
    → IsIn d (rows_of file V r v x) → IsIn d (rows_at file V r)
in_page file V r v x d e j i = subst (λ o. IsIn d (cond (start_of r.address == schema_start) (leaf_rows file V r o) [])) (sym e)
    (by_test (start_of r.address == schema_start) (is_interior v.kind) i)
  where
    by_test : (a b : Bool) → IsIn d (cond (a && not b) (schema_cell file V r x ∷ []) []) → IsIn d (cond a (cond b [] (map (schema_cell file V r) (cells v))) [])
    by_test true false (inl f) = subst (λ d. IsIn d (map (schema_cell file V r) (cells v))) (sym f) (IsIn-map (schema_cell file V r) (cells v) x j)
    by_test true false (inr n) = absurd n
    by_test true true n = absurd n
    by_test false b n = absurd n

in_event : (file : List ℕ) (V : List Reference) (r : Reference) (d : SchemaCell) (h : IsRowOf file V r d) → IsIn d (rows_of file V r h.view h.cell)
in_event file V r d h = subst (λ b. IsIn d (cond (b && not (is_interior h.view.kind)) (schema_cell file V r h.cell ∷ []) [])) (sym h.start)
    (subst (λ b. IsIn d (cond (not b) (schema_cell file V r h.cell ∷ []) [])) (sym h.leaf) (inl h.is_row))

-- the tree of the schema
module _ (file : List ℕ) (c : Reference) (at : c.address ≡ schema_start ∷ []) where
  abbrev V : List Reference
  V = visited file [] c

  abbrev L : List (Reported Event)
  L = trace file [] c

  abbrev at_event : Reported Event → List SchemaCell
  at_event t = rows_at_event file V t.event

  reported_in : (t : Reported Event) → IsIn t L → IsReportedBelow file [] c t
  reported_in t i = ((reports file [] c).exact t).0 i

  row_key : (t : Reported Event) → IsIn t L → (d : SchemaCell) → IsIn d (at_event t) → d.place ≡ t.key
  row_key t i d j = row_place file V V t.key t.event (reported_as file [] c t (reported_in t i)) d j

  all_visits : visits_in own_visit L ≡ V
  all_visits = visits_of (rules_of file) (story_of file) (geometry file).pages (are_rules file) (is_story file) own_visit (shows_visits file) [] (Go c ∷ [])
      (λ e j. elim j [ inl f ↦ cc | inr n ↦ absurd n ])

  rows_ascend : IsAscending (λ d. d.place) (flat_map at_event L)
  rows_ascend = each_list (λ d e. IsBefore d.place e.place) at_event L (λ t. of_event t.event)
      (each_within (λ t u. IsBefore t.key u.key) (λ t u. (d e : SchemaCell) → IsIn d (at_event t) → IsIn e (at_event u) → IsBefore d.place e.place) L
      (λ t u i j l d e m n. subst (λ p. IsBefore p e.place) (sym (row_key t i d m)) (subst (IsBefore t.key) (sym (row_key u j e n)) l))
      (reports file [] c).ascending)
    where
      one : (b : Bool) (d : SchemaCell) → EachPair (λ d e. IsBefore d.place e.place) (cond b (d ∷ []) [])
      one true d = ((λ y i. absurd i), tt)
      one false d = tt

      of_event : (e : Event) → EachPair (λ d e. IsBefore d.place e.place) (rows_at_event file V e)
      of_event (at_page r) = tt
      of_event (at_key r v x) = one ((start_of r.address == schema_start) && not (is_interior v.kind)) (schema_cell file V r x)
      of_event (at_refused r) = tt

  schema_is : schema file V ≡ flat_map at_event L
  unfolding schema
  schema_is = same_elements (λ d. d.place) (schema file V) (flat_map at_event L) (schema_ascends file schema_start [] c at) rows_ascend (λ d. (there d, back d))
    where
      there : (d : SchemaCell) → IsIn d (schema file V) → IsIn d (flat_map at_event L)
      there d i =
          let m = IsIn-from_flat_map (rows_at file V) V d i in
          let h = row_from file V m.0 d m.2 in
          let t : Reported Event = record { key = then_step m.0.address (key_step h.cell.0); event = at_key m.0 h.view h.cell } in
          IsIn-flat_map at_event L t d (((reports file [] c).exact t).1 (key_reported file [] c m.0 h.view h.cell m.1 h.is_view h.readable))
          (in_event file V m.0 d h)

      back : (d : SchemaCell) → IsIn d (flat_map at_event L) → IsIn d (schema file V)
      back d i = let m = IsIn-from_flat_map at_event L d i in by_event m.0.key m.0.event (reported_as file [] c m.0 (reported_in m.0 m.1)) m.2
        where
          by_event : (place : Address) (e : Event) → IsOf file V place e → IsIn d (rows_at_event file V e) → IsIn d (schema file V)
          by_event place (at_page r) h i = absurd i
          by_event place (at_refused r) h i = absurd i
          by_event place (at_key r v x) h i = IsIn-flat_map (rows_at file V) V r d h.0 (in_page file V r v x d h.1 h.2 i)

  -- at an event
  module _ (A B : List (Reported Event)) (t : Reported Event) (split : L ≡ A ++ (t ∷ B)) where
    parted : (e : Event) → t.event ≡ e → visits_in own_visit A ++ cons_option (own_visit e) (visits_in own_visit B) ≡ V
    parted e f = ap (λ e. visits_in own_visit A ++ cons_option (own_visit e) (visits_in own_visit B)) (sym f)
        ∙ sym (filter_map-append (λ u. own_visit u.event) A (t ∷ B)) ∙ ap (visits_in own_visit) (sym split) ∙ all_visits

    -- the row that the visits so far spell is that of all visits
    row_is : (e : Event) → t.event ≡ e → IsOf file V t.key e → rows_at_event file (visits_in own_visit A ++ option_to_list (own_visit e)) e
        ≡ rows_at_event file V e
    row_is (at_page r) f h = refl
    row_is (at_refused r) f h = refl
    row_is (at_key r v x) f h = ap (λ d. cond ((start_of r.address == schema_start) && not (is_interior v.kind)) (d ∷ []) [])
        (ap (λ U. schema_cell file U r x) (append-nil (visits_in own_visit A))
        ∙ sym (cell_front file (visits_in own_visit A) (visits_in own_visit B) t.key (visited_after file [] c A B t split) r x (inl (sym h.3)))
        ∙ ap (λ U. schema_cell file U r x) (parted (at_key r v x) f))

  rows_are : (A B : List (Reported Event)) → L ≡ A ++ B → rows_reported file [] A ≡ flat_map at_event A
  rows_are A B split = read_as own_visit (rows_at_event file) (rows_at_event file V) [] A (λ C D t e.
      let whole : L ≡ C ++ (t ∷ (D ++ B)) = split ∙ ap (λ l. l ++ B) e ∙ append_assoc C (t ∷ D) B in
      row_is C (D ++ B) t whole t.event refl (reported_as file [] c t (reported_in t (subst (IsIn t) (sym whole) (IsIn-right t C (t ∷ (D ++ B)) (inl refl))))))

  -- the schema, by the events
  pub schema_reported : schema file V ≡ rows_reported file [] L
  schema_reported = schema_is ∙ sym (rows_are L [] (sym (append-nil L)))

  -- and its rows at places before that of an event
  pub rows_before : (A B : List (Reported Event)) (t : Reported Event) → L ≡ A ++ (t ∷ B) → own_visit t.event ≡ None
      → filter (λ d. is_before d.place t.key) (schema file (visits_in own_visit A)) ≡ rows_reported file [] A
  rows_before A B t split quiet = sym (schema_front file (visits_in own_visit A) (visits_in own_visit B) t.key (visited_after file [] c A B t split))
      ∙ ap (λ U. filter is_earlier (schema file U)) (ap (λ o. visits_in own_visit A ++ cons_option o (visits_in own_visit B)) (sym quiet)
      ∙ parted A B t split t.event refl)
      ∙ ap (filter is_earlier) (schema_is ∙ ap (flat_map at_event) split ∙ flat_map-append at_event A (t ∷ B))
      ∙ filter-append is_earlier (flat_map at_event A) (flat_map at_event (t ∷ B))
      ∙ ap (λ l. l ++ filter is_earlier (flat_map at_event (t ∷ B))) (filter-all is_earlier (flat_map at_event A) front)
      ∙ ap (λ l. flat_map at_event A ++ l) (filter-none is_earlier (flat_map at_event (t ∷ B)) back)
      ∙ append-nil (flat_map at_event A) ∙ sym (rows_are A (t ∷ B) split)
    where
      is_earlier : SchemaCell → Bool
      is_earlier d = is_before d.place t.key

      front : (d : SchemaCell) → IsIn d (flat_map at_event A) → is_before d.place t.key ≡ true
      front d i =
          let m = IsIn-from_flat_map at_event A d i in
          let b = (before file [] c A B t split m.0).0 m.1 in
          is_before-from d.place t.key (subst (λ p. IsBefore p t.key) (sym (row_place file V V m.0.key m.0.event (reported_as file [] c m.0 b.0) d m.2)) b.1)

      back : (d : SchemaCell) → IsIn d (flat_map at_event (t ∷ B)) → is_before d.place t.key ≡ false
      back d i =
          let m = IsIn-from_flat_map at_event (t ∷ B) d i in
          ap (λ p. is_before p t.key) (row_key m.0 (subst (IsIn m.0) (sym split) (IsIn-right m.0 A (t ∷ B) m.1)) d m.2) ∙ (elim m.1 [
            | inl e ↦ ap (λ u. is_before u.key t.key) e ∙ is_before-itself t.key
            | inr j ↦ not_before m.0.key t.key ((EachPair-right (λ x y. IsBefore x.key y.key) A (t ∷ B)
                (subst (IsAscending (λ e. e.key)) split (reports file [] c).ascending)).0 m.0 j)
          ])
