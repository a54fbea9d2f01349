-- What is reported of a start follows from the progress of its walk.
use Rattle.std.proofs.Common.{◌≡◌, ℕ, ◌+◌, inl, inr, Bool, true, false, cond, not, ◌&&◌, List, [], ◌∷◌, ◌++◌, map, length, ℤ, Option, Some, None, refl, sym}
use Rattle.std.proofs.Common.{ap, ap₂}
use Rattle.std.proofs.Common.{subst, arith, ◌∙◌, append_assoc}
use Rattle.std.specs.Prelude.{flat_map, option_map, option_to_list, nat_le, ◌==◌}
use Rattle.std.specs.Option.{option_map_or}
use Rattle.std.proofs.lemmas.Bool.{and_parts, eqb-true}
use Rattle.std.proofs.lemmas.List.{append-nil, length-append}
use Rattle.std.proofs.lemmas.List.Elements.{filter_map-append}
use Rattle.dbtrace.proofs.Common.{IsIn, Address, IsBefore, run, Reported, Go, visits_in, read_back, geometry, start_of, then_step, key_step, schema_start, View}
use Rattle.dbtrace.proofs.Common.{is_interior, Cell, Reference, role_of, tree_kind, SchemaCell, schema_cell, schema, rules_of, page_faults, depth_fault, Key}
use Rattle.dbtrace.proofs.Common.{key_of, Event, at_page, at_key, at_refused, own_visit, story_of, event_faults, event_row, Fault, FaultCode, T06, cell_key}
use Rattle.dbtrace.proofs.Common.{first_leaf, leaf_cause, refusal_of, rowids_of, cause_of, Finding, reported_row, reported_by, reported_at, Cause, RowidBounds}
use Rattle.dbtrace.proofs.Common.{rows_at_event, key_value, leaf_after, depth_faults, IsOfEarlierStart, AreOfEarlierStarts, Walk, machine, advance}
use Rattle.dbsurvey.specs.Run.{up_to}
use Rattle.dbsurvey.proofs.Composing.{named_at-step}
use Rattle.dbsurvey.proofs.Advancing.{run_visits, run_below_visits}
use Rattle.dbsurvey.proofs.Lists.{flat_map-same, flat_map-none}
use Rattle.dbsurvey.proofs.Order.{IsIn-left, IsIn-right}
use Rattle.dbsurvey.proofs.ReadBack.{read_as}
use Rattle.dbformat.specs.Address.{last_root_start}
use Rattle.dbformat.specs.Schema.{rooted, rooted_rows}
use Rattle.dbformat.specs.KeyFaults.{earlier_roots, key_faults, row_faults_if, row_faults, row_faults_at, cell_place_faults}
use Rattle.dbformat.specs.ReferenceFaults.{reference_faults}
use Rattle.dbformat.proofs.LookBack.{visits-append}
use Rattle.dbformat.proofs.Places.{key_place}
use Rattle.dbformat.proofs.Theory.{are_rules, is_story, shows_visits}
use Rattle.dbtrace.specs.Causes.{key_above, key_up_to, left_rows, top_before, visit_cause}
use Rattle.dbtrace.specs.Finding.{reported_alone, visited_below}
use Rattle.dbtrace.specs.declared.Cause.TheVariants as cause
use Rattle.dbtrace.specs.Fold.{IsFold}
use Rattle.dbtrace.specs.Item.{Item, found, given, given_cell, given_cells, roots_in, counted_findings, faults_at, items_at}
use Rattle.dbtrace.specs.Progress.{Progress, cause_by, rowids_by, rows_of, late_faults}
use Rattle.dbtrace.specs.Walk.{begin, run_below}
use Rattle.dbtrace.proofs.Causing.{AgreeOn, alone, page_codes, row_codes, reported_by-append, page_same, rows_alone}
use Rattle.dbtrace.proofs.Depths.{leaf_from, reported_same, depth_reported, page_parts}
use Rattle.dbtrace.proofs.LookBack.{rowids_front}
use Rattle.dbtrace.proofs.Keys.{greatest_is, started, top_is, above_itself, above_reported, late_is}
use Rattle.dbtrace.proofs.RowsReported.{rows_reported, schema_reported, rows_before}
use Rattle.dbtrace.proofs.Reported.{visited, trace, reports, IsOf, IsReportedBelow, refused_as, reported_as, below_start, visited_before, visited_after}

-- which codes have a cause at an event

pub row_of_progress : (file : List ℕ) (U : List Reference) (p : Progress) (r : Reference) (v : View) (x : ℕ × Cell)
    → AgreeOn row_codes (cause_by file U p (at_key r v x)) alone
row_of_progress file U p r v x = refl

pub row_of_visits : (file : List ℕ) (U : List Reference) (r : Reference) (v : View) (x : ℕ × Cell) → AgreeOn row_codes (cause_of file U (at_key r v x)) alone
row_of_visits file U r v x = refl

-- items, by what they are for

counted_found : (roots : ℕ) (fs : List Finding) → counted_findings roots (map found fs) ≡ fs
counted_found roots [] = refl
counted_found roots (f ∷ fs) = ap (λ l. f ∷ l) (counted_found roots fs)

cells_found : (fs : List Finding) → given_cells (map found fs) ≡ []
cells_found [] = refl
cells_found (f ∷ fs) = cells_found fs

cells_given : (rows : List SchemaCell) → given_cells (map given rows) ≡ rows
cells_given [] = refl
cells_given (d ∷ rows) = ap (λ l. d ∷ l) (cells_given rows)

-- one list of items, and then another
pub counted-append : (roots : ℕ) (L M : List Item) → counted_findings roots (L ++ M) ≡ counted_findings roots L ++ counted_findings (roots + roots_in L) M
counted-append roots [] M = let z : roots ≡ roots + 0 = omega arith in ap (λ n. counted_findings n M) z
counted-append roots (found f ∷ L) M = ap (λ l. f ∷ l) (counted-append roots L M)
counted-append roots (given d ∷ L) M =
    let here = map reported_alone (row_faults_if (nat_le last_root_start roots) d) in
    let one = length (rooted_rows (d ∷ [])) in
    let both : length (rooted_rows (d ∷ given_cells L)) ≡ one + roots_in L = ap length (filter_map-append (λ c. rooted c.row) (d ∷ []) (given_cells L))
    ∙ length-append (rooted_rows (d ∷ [])) (rooted_rows (given_cells L)) in
    let sum : roots + one + roots_in L ≡ roots + length (rooted_rows (d ∷ given_cells L)) = omega (arith, both) in
    ap (λ l. here ++ l) (counted-append (roots + one) L M ∙ ap (λ n. counted_findings (roots + one) L ++ counted_findings n M) sum)
    ∙ sym (append_assoc here (counted_findings (roots + one) L) (counted_findings (roots + roots_in (given d ∷ L)) M))

module _ (file : List ℕ) where
  -- the faults of an event, where this many rows with a root page came before
  abbrev counted_faults : ℕ → List Reference → Progress → Event → List Fault
  counted_faults roots U p (at_page r) = faults_at file U p (at_page r)
  counted_faults roots U p (at_key r v x) = flat_map (row_faults_if (nat_le last_root_start roots)) (rows_of file U r v x)
      ++ flat_map (late_faults p.greatest) (key_of r v x)
  counted_faults roots U p (at_refused r) = faults_at file U p (at_refused r)

  findings_at : (roots : ℕ) (U : List Reference) (p : Progress) (e : Event)
      → counted_findings roots (items_at file U p e) ≡ map reported_row (option_to_list (event_row file e))
      ++ reported_by (cause_by file U p e) (counted_faults roots U p e)
  findings_at roots U p (at_page r) = counted_found roots _
  findings_at roots U p (at_refused r) = counted_found roots _
  findings_at roots U p (at_key r v x) =
      let why = cause_by file U p (at_key r v x) in
      let R = rows_of file U r v x in
      let K = flat_map (late_faults p.greatest) (key_of r v x) in
      counted-append roots (map given R) (map found (reported_by why K))
      ∙ ap (λ l. counted_findings roots (map given R) ++ l) (counted_found (roots + roots_in (map given R)) (reported_by why K))
      ∙ ap (λ l. l ++ reported_by why K) (one_row ((start_of r.address == schema_start) && not (is_interior v.kind)) (schema_cell file U r x)
      ∙ sym (rows_alone why (row_of_progress file U p r v x) (nat_le last_root_start roots) R))
      ∙ sym (reported_by-append why (flat_map (row_faults_if (nat_le last_root_start roots)) R) K)
    where
      one_row : (b : Bool) (d : SchemaCell) → counted_findings roots (map given (cond b (d ∷ []) []))
          ≡ map reported_alone (flat_map (row_faults_if (nat_le last_root_start roots)) (cond b (d ∷ []) []))
      one_row true d = append-nil (map reported_alone (row_faults_if (nat_le last_root_start roots) d))
          ∙ ap (map reported_alone) (sym (append-nil (row_faults_if (nat_le last_root_start roots) d)))
      one_row false d = refl

  rows_at_item : (U : List Reference) (p : Progress) (e : Event) → given_cells (items_at file U p e) ≡ rows_at_event file U e
  rows_at_item U p e =
      let rows = rows_at_event file U e in
      let fs = map reported_row (option_to_list (event_row file e)) ++ reported_by (cause_by file U p e) (faults_at file U p e) in
      filter_map-append given_cell (map given rows) (map found fs) ∙ ap (λ l. given_cells (map given rows) ++ l) (cells_found fs)
      ∙ append-nil (given_cells (map given rows)) ∙ cells_given rows

  -- the rows that were given
  given_are : (now : Walk) (A : List (Reported Event)) → given_cells (run (machine file) now A).items ≡ given_cells now.items ++ rows_reported file now.visits A
  given_are now [] = sym (append-nil (given_cells now.items))
  given_are now (t ∷ A) =
      let U = up_to (machine file) now t.event in
      let R = rows_at_event file U t.event in
      given_are (advance file now t.event) A
      ∙ ap (λ l. l ++ rows_reported file U A) (filter_map-append given_cell now.items (items_at file U now.state t.event)
      ∙ ap (λ l. given_cells now.items ++ l) (rows_at_item U now.state t.event))
      ∙ append_assoc (given_cells now.items) R (rows_reported file U A)

  -- what is reported of the items, event after event
  abbrev IsReadAt : Walk → Event → Type 0
  IsReadAt now e = counted_findings (roots_in now.items) (items_at file (up_to (machine file) now e) now.state e)
      ≡ reported_at file (up_to (machine file) now e) e

  reads : (now : Walk) (L : List (Reported Event)) → ((A B : List (Reported Event)) (t : Reported Event) → L ≡ A ++ (t ∷ B)
      → IsReadAt (run (machine file) now A) t.event)
      → counted_findings 0 (run (machine file) now L).items ≡ counted_findings 0 now.items ++ read_back own_visit (reported_at file) now.visits L
  reads now [] h = sym (append-nil (counted_findings 0 now.items))
  reads now (t ∷ L) h =
      let U = up_to (machine file) now t.event in
      let items = items_at file U now.state t.event in
      let z : 0 + roots_in now.items ≡ roots_in now.items = omega arith in
      reads (advance file now t.event) L (λ A B u e. h (t ∷ A) B u (ap (λ l. t ∷ l) e))
      ∙ ap (λ l. l ++ read_back own_visit (reported_at file) U L)
      (counted-append 0 now.items items ∙ ap (λ n. counted_findings 0 now.items ++ counted_findings n items) z
      ∙ ap (λ l. counted_findings 0 now.items ++ l) (h [] L t refl))
      ∙ append_assoc (counted_findings 0 now.items) (reported_at file U t.event) (read_back own_visit (reported_at file) U L)

  -- The rowids of each page of A are these.
  abbrev HasRowids : (Reference → RowidBounds) → Walk → List (Reported Event) → Type 0
  HasRowids rowids now A = (M N : List (Reported Event)) (t : Reported Event) (r : Reference) → A ≡ M ++ (t ∷ N) → t.event ≡ at_page r
      → rowids_by (run (machine file) now M).state (key_up_to file (up_to (machine file) (run (machine file) now M) (at_page r)) r) ≡ rowids r

  -- the first leaf
  leaf_is : (rowids : Reference → RowidBounds) (now : Walk) (A : List (Reported Event)) → HasRowids rowids now A
      → (run (machine file) now A).state.leaf ≡ leaf_from file rowids now.state.leaf (visits_in own_visit A)
  leaf_is rowids now [] h = refl
  leaf_is rowids now (t ∷ A) h = by_event t.event refl (leaf_is rowids (advance file now t.event) A (λ M N u r e. h (t ∷ M) N u r (ap (λ l. t ∷ l) e)))
    where
      by_event : (e : Event) → t.event ≡ e → (run (machine file) (advance file now e) A).state.leaf
          ≡ leaf_from file rowids (advance file now e).state.leaf (visits_in own_visit A)
          → (run (machine file) (advance file now e) A).state.leaf
          ≡ leaf_from file rowids now.state.leaf (visits_in own_visit (record { key = t.key; event = e } ∷ A))
      by_event (at_page r) f i = i ∙ ap (λ w. leaf_from file rowids (leaf_after file now.state.leaf w r) (visits_in own_visit A)) (h [] A t r refl f)
      by_event (at_key r v x) f i = i
      by_event (at_refused r) f i = i

-- a cell has one key at most
one_key : (r : Reference) (v : View) (x : ℕ × Cell) (key other : Key) (ks : List Key) → key_of r v x ≡ key ∷ other ∷ ks → ⊥
one_key r v (i, x) key other ks e = by_key x.key e
  where
    by_key : (o : Option ℤ) → key_of r v (i, record x { key = o }) ≡ key ∷ other ∷ ks → ⊥
    by_key None e = cc
    by_key (Some value) e = cc

-- no start is before the schema's
none_earlier : (W : List Reference) → AreOfEarlierStarts schema_start W → W ≡ []
none_earlier [] early = refl
none_earlier (u ∷ W) early = absurd (none u.address (early u (inl refl)))
  where
    none : (a : Address) → IsOfEarlierStart schema_start a → ⊥
    none [] h = h
    none (x ∷ a) h = omega arith

module _ (file : List ℕ) (k : ℕ) (W : List Reference) (c : Reference) (at : c.address ≡ k ∷ []) (early : AreOfEarlierStarts k W) where
  abbrev after : List (Reported Event) → Walk
  after A = run (machine file) (begin W) A

  abbrev visits_at : List (Reported Event) → Event → List Reference
  visits_at A e = up_to (machine file) (after A) e

  visits_after : (A : List (Reported Event)) → (after A).visits ≡ W ++ visits_in own_visit A
  visits_after A = run_visits (machine file) (begin W) A

  at_start : (r : Reference) → IsIn r (visited file W c) → start_of r.address ≡ k
  at_start r i = ap start_of (below_start file W c k at r i).1

  is_of : (A B : List (Reported Event)) (t : Reported Event) → trace file W c ≡ A ++ (t ∷ B) → IsOf file (visited file W c) t.key t.event
  is_of A B t split = reported_as file W c t (((reports file W c).exact t).0 (subst (IsIn t) (sym split) (IsIn-right t A (t ∷ B) (inl refl))))

  -- the greatest key before a page
  above_is : (A B : List (Reported Event)) (t : Reported Event) → trace file W c ≡ A ++ (t ∷ B) → (r : Reference) → IsIn r (visited file W c)
      → t.key ≡ r.address
      → key_value (after A).state.greatest ≡ key_above file (visits_at A (at_page r)) r.address
  above_is A B t split r i place =
      ap key_value (greatest_is file (begin W) A)
      ∙ sym (above_reported file k W c at early A B t split r place (at_start r i))
      ∙ sym (above_itself file (W ++ visits_in own_visit A) r)
      ∙ ap (λ U. key_above file (U ++ r ∷ []) r.address) (sym (visits_after A))

  -- Of a page that was visited before another, the rowids by the progress then are those by all visits up to the other.
  module _ (M N B : List (Reported Event)) (u t : Reported Event) (split : trace file W c ≡ (M ++ (u ∷ N)) ++ (t ∷ B)) (s r : Reference)
      (first : u.event ≡ at_page s) (other : t.event ≡ at_page r) where
    abbrev between : List Reference
    between = visits_in own_visit N ++ r ∷ []

    first_split : trace file W c ≡ M ++ (u ∷ (N ++ (t ∷ B)))
    first_split = split ∙ append_assoc M (u ∷ N) (t ∷ B)

    first_is : IsOf file (visited file W c) u.key (at_page s)
    first_is = subst (IsOf file (visited file W c) u.key) first (is_of M (N ++ (t ∷ B)) u first_split)

    all_between : between ++ visits_in own_visit B ≡ visits_in own_visit (N ++ (t ∷ B))
    all_between = append_assoc (visits_in own_visit N) (r ∷ []) (visits_in own_visit B)
        ∙ ap (λ e. visits_in own_visit N ++ visits_in own_visit (record { key = t.key; event = e } ∷ B)) (sym other)
        ∙ sym (visits-append N (t ∷ B))

    is_after : (w : Reference) → IsIn w between → IsBefore s.address w.address
    is_after w i = subst (λ a. IsBefore a w.address) first_is.1
        (visited_after file W c M (N ++ (t ∷ B)) u first_split w (subst (IsIn w) all_between (IsIn-left w between (visits_in own_visit B) i)))

    all_up_to : visits_at M (at_page s) ++ between ≡ W ++ (visits_in own_visit (M ++ (u ∷ N)) ++ r ∷ [])
    all_up_to =
        let m = visits_in own_visit M in
        let n = visits_in own_visit N in
        ap (λ V. (V ++ s ∷ []) ++ between) (visits_after M)
        ∙ append_assoc (W ++ m) (s ∷ []) between ∙ append_assoc W m (s ∷ between)
        ∙ ap (λ l. W ++ l) (sym (append_assoc m (s ∷ n) (r ∷ [])))
        ∙ ap (λ l. W ++ (l ++ r ∷ [])) (ap (λ e. m ++ visits_in own_visit (record { key = u.key; event = e } ∷ N)) (sym first) ∙ sym (visits-append M (u ∷ N)))

    rowids_kept : rowids_by (after M).state (key_up_to file (visits_at M (at_page s)) s)
        ≡ rowids_of file (W ++ (visits_in own_visit (M ++ (u ∷ N)) ++ r ∷ [])) s
    rowids_kept = ap bounds (above_is M (N ++ (t ∷ B)) u first_split s first_is.0 first_is.1)
        ∙ sym (rowids_front file (visits_at M (at_page s)) between s is_after)
        ∙ ap (λ V. rowids_of file V s) all_up_to
      where
        bounds : Option ℤ → RowidBounds
        bounds above = record { above = above; up_to = key_up_to file (visits_at M (at_page s)) s }

  module _ (A B : List (Reported Event)) (t : Reported Event) (split : trace file W c ≡ A ++ (t ∷ B)) where
    abbrev X : List Reference
    X = visits_in own_visit A

    visits_so_far : (after A).visits ≡ W ++ X
    visits_so_far = visits_after A

    here : IsOf file (visited file W c) t.key t.event
    here = is_of A B t split

    abbrev at_event : Event → List Reference
    at_event e = visits_at A e

    -- what is reported at an event, by the progress and by the definitions
    abbrev by_progress : Event → List Fault → List Finding
    by_progress e fs = reported_by (cause_by file (at_event e) (after A).state e) fs

    abbrev by_visits : Event → List Fault → List Finding
    by_visits e fs = reported_by (cause_of file (at_event e) e) fs

    -- the start of a reference that is refused, and the greatest key before it
    refused_start : (r : Reference) → t.event ≡ at_refused r → start_of r.address ≡ k
    refused_start r f = elim (refused_as file W c t reported_here r f) [
      | inl i ↦ (elim i [ inl e ↦ ap (λ r. start_of r.address) e ∙ ap start_of at | inr n ↦ absurd n ])
      | inr m ↦ (let s = named_at-step m.0.address ((rules_of file).links m.0.page m.0.role) r m.2 in
          ap start_of s.1 ∙ started file k W c at early m.0 s.0 m.1)
    ]
      where
        reported_here : IsReportedBelow file W c t
        reported_here = ((reports file W c).exact t).0 (subst (IsIn t) (sym split) (IsIn-right t A (t ∷ B) (inl refl)))

    refused_above : (r : Reference) → t.event ≡ at_refused r → t.key ≡ r.address
        → key_value (after A).state.greatest ≡ key_above file (at_event (at_refused r)) r.address
    refused_above r f place =
        ap key_value (greatest_is file (begin W) A)
        ∙ sym (above_reported file k W c at early A B t split r place (refused_start r f))
        ∙ ap (λ U. key_above file U r.address) (sym (append-nil (after A).visits ∙ visits_so_far))

    -- such a reference
    refused : (r : Reference) → t.event ≡ at_refused r → t.key ≡ r.address
        → by_progress (at_refused r) (reference_faults file (at_event (at_refused r)) r)
        ≡ by_visits (at_refused r) (reference_faults file (at_event (at_refused r)) r)
    refused r f place =
        ap (λ above. reported_by (λ code. refusal_of file (at_event (at_refused r)) r (bounds above) (tree_kind (role_of r)))
        (reference_faults file (at_event (at_refused r)) r)) (refused_above r f place)
      where
        bounds : Option ℤ → RowidBounds
        bounds above = record { above = above; up_to = key_up_to file (at_event (at_refused r)) r }

    -- a page: by the first leaf
    page : (r : Reference) → t.event ≡ at_page r → IsIn r (visited file W c) → t.key ≡ r.address
        → by_progress (at_page r) (faults_at file (at_event (at_page r)) (after A).state (at_page r))
        ≡ by_visits (at_page r) (page_faults file (at_event (at_page r)) r)
    page r f i place =
        reported_by-append (cause_by file (at_event (at_page r)) (after A).state (at_page r)) (page_faults file [] r) (depth_faults file (after A).state.leaf r)
        ∙ ap (λ l. l ++ by_progress (at_page r) (depth_faults file (after A).state.leaf r))
        (page_same (cause_by file (at_event (at_page r)) (after A).state (at_page r)) (cause_of file (at_event (at_page r)) (at_page r)) file refl refl r
        (λ kind in_tree. ap (λ above. map (visit_cause (bounds above) file r) page_codes) (above_is A B t split r i place)))
        ∙ ap (λ l. by_visits (at_page r) (page_faults file [] r) ++ l) depths
        ∙ sym (reported_by-append (cause_of file (at_event (at_page r)) (at_page r)) (page_faults file [] r) (depth_fault file (at_event (at_page r)) r))
        ∙ ap (by_visits (at_page r)) (sym (page_parts file (at_event (at_page r)) r))
      where
        bounds : Option ℤ → RowidBounds
        bounds above = record { above = above; up_to = key_up_to file (at_event (at_page r)) r }

        all : at_event (at_page r) ≡ W ++ (X ++ r ∷ [])
        all = ap (λ U. U ++ r ∷ []) visits_so_far ∙ append_assoc W X (r ∷ [])

        own : RowidBounds
        own = rowids_of file (at_event (at_page r)) r

        rowids : Reference → RowidBounds
        rowids = rowids_of file (W ++ (X ++ r ∷ []))

        leaf : (after A).state.leaf ≡ leaf_from file rowids None X
        leaf = leaf_is file rowids (begin W) A
            (λ M N u s e g. rowids_kept M N B u t (split ∙ ap (λ A. A ++ (t ∷ B)) e) s r g f
            ∙ ap (λ A. rowids_of file (W ++ (visits_in own_visit A ++ r ∷ [])) s) (sym e))

        depths : by_progress (at_page r) (depth_faults file (after A).state.leaf r) ≡ by_visits (at_page r) (depth_fault file (at_event (at_page r)) r)
        depths = ap (λ l. by_progress (at_page r) (depth_faults file l r)) leaf
            ∙ depth_reported file k W X r early (λ u j. at_start u ((visited_before file W c A B t split u).0 j).0) (at_start r i) own
            (cause_of file (at_event (at_page r)) (at_page r))
            (ap (λ U. leaf_cause own (first_leaf file U r)) all)
            (cause_by file (at_event (at_page r)) (after A).state (at_page r))
            (ap₂ (λ l above. leaf_cause (bounds above) l) leaf (above_is A B t split r i place))
            ∙ ap (λ U. by_visits (at_page r) (depth_fault file U r)) (sym all)

    -- a key: by the greatest
    keys : (r : Reference) (v : View) (x : ℕ × Cell) → IsIn r (visited file W c) → t.key ≡ then_step r.address (key_step x.0)
        → flat_map (late_faults (after A).state.greatest) (key_of r v x) ≡ flat_map (key_faults file (W ++ X)) (key_of r v x)
    keys r v x i place = flat_map-same (late_faults (after A).state.greatest) (key_faults file (W ++ X)) (key_of r v x) (λ key j.
        let stands = key_place r v x key j in
        ap (λ top. late_faults top key) (greatest_is file (begin W) A)
        ∙ sym (late_is file k W c at early A B t split key (stands ∙ sym place) (ap start_of stands ∙ started file k W c at early r (key_step x.0) i)))

    -- its cause
    key_cause : (r : Reference) (v : View) (x : ℕ × Cell) → IsIn r (visited file W c) → t.key ≡ then_step r.address (key_step x.0)
        → (key : Key) → key_of r v x ≡ key ∷ [] → option_map cell_key (top_before file (W ++ X) (key_of r v x)) ≡ (after A).state.greatest
    key_cause r v x i place key e =
        let stands = key_place r v x key (subst (IsIn key) (sym e) (inl refl)) in
        ap (λ ks. option_map cell_key (top_before file (W ++ X) ks)) e
        ∙ top_is file k W c at early A B t split key (stands ∙ sym place) (ap start_of stands ∙ started file k W c at early r (key_step x.0) i)
        ∙ sym (greatest_is file (begin W) A)

    -- a row of the schema: by how many have a root
    full : k ≡ schema_start → own_visit t.event ≡ None → earlier_roots file (W ++ X) t.key ≡ roots_in (after A).items
    full e quiet =
        let none : W ≡ [] = none_earlier W (subst (λ k. AreOfEarlierStarts k W) e early) in
        ap (λ W. earlier_roots file (W ++ X) t.key) none
        ∙ ap (λ l. length (rooted_rows l)) (rows_before file c (at ∙ ap (λ k. k ∷ []) e) A B t (subst (λ W. trace file W c ≡ A ++ (t ∷ B)) none split) quiet)
        ∙ ap (λ l. length (rooted_rows l)) (ap (λ W. rows_reported file W A) (sym none) ∙ sym (given_are file (begin W) A))

    rows : (r : Reference) (v : View) (x : ℕ × Cell) → t.event ≡ at_key r v x → IsIn r (visited file W c) → t.key ≡ then_step r.address (key_step x.0)
        → flat_map (row_faults_if (nat_le last_root_start (roots_in (after A).items))) (rows_of file (W ++ X) r v x) ≡ row_faults_at file (W ++ X) r v x
    unfolding row_faults
    rows r v x e i place = by_test ((start_of r.address == schema_start) && not (is_interior v.kind)) refl
      where
        d : SchemaCell
        d = schema_cell file (W ++ X) r x

        roots : (start_of r.address == schema_start) ≡ true → earlier_roots file (W ++ X) d.place ≡ roots_in (after A).items
        roots f = ap (earlier_roots file (W ++ X)) (sym place) ∙ full (sym (at_start r i) ∙ eqb-true (start_of r.address) schema_start f) (ap own_visit e)

        by_test : (b : Bool) → ((start_of r.address == schema_start) && not (is_interior v.kind)) ≡ b
            → flat_map (row_faults_if (nat_le last_root_start (roots_in (after A).items))) (cond b (d ∷ []) []) ≡ cond b (row_faults file (W ++ X) d) []
        by_test false f = refl
        by_test true f = append-nil (row_faults_if (nat_le last_root_start (roots_in (after A).items)) d)
            ∙ ap (λ n. row_faults_if (nat_le last_root_start n) d) (sym (roots (and_parts (start_of r.address == schema_start) (not (is_interior v.kind)) f).0))

    -- rows and keys, with their causes
    cell_reported : (r : Reference) (v : View) (x : ℕ × Cell) → t.event ≡ at_key r v x → IsIn r (visited file W c) → t.key ≡ then_step r.address (key_step x.0)
        → reported_by (cause_by file (W ++ X) (after A).state (at_key r v x))
        (flat_map (row_faults_if (nat_le last_root_start (roots_in (after A).items))) (rows_of file (W ++ X) r v x)
        ++ flat_map (late_faults (after A).state.greatest) (key_of r v x))
        ≡ reported_by (cause_of file (W ++ X) (at_key r v x)) (cell_place_faults file (W ++ X) r v x)
    unfolding key_faults
    cell_reported r v x f i place =
        reported_by-append why' R K ∙ ap (λ l. l ++ reported_by why' K) row_reported
        ∙ ap (λ l. reported_by why R ++ l) (ap (reported_by why') (keys r v x i place) ∙ by_keys (key_of r v x) refl)
        ∙ ap (λ l. reported_by why l ++ reported_by why K') (rows r v x f i place) ∙ sym (reported_by-append why (row_faults_at file (W ++ X) r v x) K')
      where
        why : FaultCode → Cause
        why = cause_of file (W ++ X) (at_key r v x)

        why' : FaultCode → Cause
        why' = cause_by file (W ++ X) (after A).state (at_key r v x)

        R : List Fault
        R = flat_map (row_faults_if (nat_le last_root_start (roots_in (after A).items))) (rows_of file (W ++ X) r v x)

        K : List Fault
        K = flat_map (late_faults (after A).state.greatest) (key_of r v x)

        K' : List Fault
        K' = flat_map (key_faults file (W ++ X)) (key_of r v x)

        row_reported : reported_by why' R ≡ reported_by why R
        row_reported = rows_alone why' (row_of_progress file (W ++ X) (after A).state r v x) (nat_le last_root_start (roots_in (after A).items))
            (rows_of file (W ++ X) r v x)
            ∙ sym (rows_alone why (row_of_visits file (W ++ X) r v x) (nat_le last_root_start (roots_in (after A).items)) (rows_of file (W ++ X) r v x))

        causes : (key : Key) → key_of r v x ≡ key ∷ [] → why' T06 ≡ why T06
        causes key e = ap (λ top. option_map_or (λ k. cause.Key k (left_rows v x)) top cause.Itself) (sym (key_cause r v x i place key e))
            ∙ mapped (top_before file (W ++ X) (key_of r v x))
          where
            mapped : (o : Option Key) → option_map_or (λ k. cause.Key k (left_rows v x)) (option_map cell_key o) cause.Itself
                ≡ option_map_or (λ k. cause.Key (cell_key k) (left_rows v x)) o cause.Itself
            mapped None = refl
            mapped (Some k) = refl

        by_keys : (ks : List Key) → key_of r v x ≡ ks → reported_by why' (flat_map (key_faults file (W ++ X)) (key_of r v x))
            ≡ reported_by why (flat_map (key_faults file (W ++ X)) (key_of r v x))
        by_keys [] e = subst (λ ks. reported_by why' (flat_map (key_faults file (W ++ X)) ks)
            ≡ reported_by why (flat_map (key_faults file (W ++ X)) ks)) (sym e) refl
        by_keys (key ∷ []) e = subst (λ ks. reported_by why' (flat_map (key_faults file (W ++ X)) ks)
            ≡ reported_by why (flat_map (key_faults file (W ++ X)) ks))
            (sym e)
            (ap (reported_by why') (append-nil (key_faults file (W ++ X) key)) ∙ reported_same why' why _ _ (causes key e)
            ∙ sym (ap (reported_by why) (append-nil (key_faults file (W ++ X) key))))
        by_keys (key ∷ other ∷ ks) e = absurd (one_key r v x key other ks e)

    faults : (e : Event) → t.event ≡ e → IsOf file (visited file W c) t.key e
        → by_progress e (counted_faults file (roots_in (after A).items) (at_event e) (after A).state e) ≡ by_visits e (event_faults file (at_event e) e)
    faults (at_page r) f h = page r f h.0 h.1
    faults (at_refused r) f h = refused r f h
    faults (at_key r v x) f h = subst (λ U. reported_by (cause_by file U (after A).state (at_key r v x))
        (flat_map (row_faults_if (nat_le last_root_start (roots_in (after A).items))) (rows_of file U r v x)
        ++ flat_map (late_faults (after A).state.greatest) (key_of r v x))
        ≡ reported_by (cause_of file U (at_key r v x)) (cell_place_faults file U r v x))
        (sym (append-nil (after A).visits ∙ visits_so_far))
        (cell_reported r v x f h.0 h.3)

    reported : IsReadAt file (after A) t.event
    reported = findings_at file (roots_in (after A).items) (at_event t.event) (after A).state t.event
        ∙ ap (λ fs. map reported_row (option_to_list (event_row file t.event)) ++ fs) (faults t.event refl here)

  -- the rows of the schema are given at the schema's start alone
  no_rows : (k == schema_start) ≡ false → rows_reported file W (trace file W c) ≡ []
  no_rows other = read_as own_visit (rows_at_event file) (λ e. []) W (trace file W c) (λ A B t split. by_event A t.key t.event (here A B t split))
      ∙ flat_map-none (λ t. []) (trace file W c) (λ t i. refl)
    where
      by_event : (A : List (Reported Event)) (place : Address) (e : Event) → IsOf file (visited file W c) place e
          → rows_at_event file ((W ++ visits_in own_visit A) ++ option_to_list (own_visit e)) e ≡ []
      by_event A place (at_page r) h = refl
      by_event A place (at_refused r) h = refl
      by_event A place (at_key r v x) h = ap (λ b. cond (b && not (is_interior v.kind)) (schema_cell file ((W ++ visits_in own_visit A) ++ []) r x ∷ []) [])
          (ap (λ s. s == schema_start) (ap start_of (below_start file W c k at r h.0).1) ∙ other)

  all_rows : given_cells (run_below file (begin W) (Go c ∷ [])).items ≡ cond (k == schema_start) (schema file (W ++ visited_below file W (Go c ∷ []))) []
  all_rows = given_are file (begin W) (trace file W c) ∙ by_start (k == schema_start) refl
    where
      by_start : (b : Bool) → (k == schema_start) ≡ b → rows_reported file W (trace file W c) ≡ cond b (schema file (W ++ visited file W c)) []
      by_start false e = no_rows e
      by_start true e =
          let f : k ≡ schema_start = eqb-true k schema_start e in
          let none : W ≡ [] = none_earlier W (subst (λ k. AreOfEarlierStarts k W) f early) in
          ap (λ W. rows_reported file W (trace file W c)) none
          ∙ sym (schema_reported file c (at ∙ ap (λ k. k ∷ []) f))
          ∙ ap (λ W. schema file (W ++ visited file W c)) (sym none)

pub is_fold : (file : List ℕ) → IsFold file
is_fold file = record {
  findings_are = λ k W c at early. reads file (begin W) (trace file W c) (reported file k W c at early);
  rows_are = λ k W c at early. all_rows file k W c at early;
  visits_are = λ k W c at early. run_below_visits (rules_of file) (story_of file) (geometry file).pages (are_rules file) (machine file) (is_story file)
      (shows_visits file) (begin W) (Go c ∷ [])
      (λ e i. elim i [ inl f ↦ cc | inr n ↦ absurd n ]);
}
