-- Causes look back alone: the cause of a fault rests on the pages that were visited before it.
use Rattle.std.proofs.Common.{◌≡◌, ℕ, zero, suc, ◌+◌, ◌-◌, inl, inr, Bool, true, false, cond, not, ◌&&◌, List, [], ◌∷◌, ◌++◌, map, length, take, ℤ, Option}
use Rattle.std.proofs.Common.{Some, None, refl, sym, ap, ap₂, subst, ◌∙◌, append_assoc}
use Rattle.std.specs.Prelude.{find, flat_map, option_and_then, option_map, option_to_list, pos, ◌==◌}
use Rattle.std.specs.Option.{option_map_or}
use Rattle.dbtrace.proofs.Common.{IsIn, Address, IsBefore, IsAscending, is_before, visits_in, read_back, Reported, page_bytes, usable_size, start_of, then_step}
use Rattle.dbtrace.proofs.Common.{key_step, Cell, View, Key, key_of, event_row, depth_fault, page_faults, Reference, role_of, tree_kind, event_faults, Event}
use Rattle.dbtrace.proofs.Common.{at_page, at_key, at_refused, own_visit, Fault, FaultCode, T06, TreeKind, cell_key, leaf_at, top_key, first_leaf, leaf_cause}
use Rattle.dbtrace.proofs.Common.{refusal_of, rowids_of, cause_of, Finding, reported_row, reported_fault, reported_by, reported_at, Cause, RowidBounds}
use Rattle.dbsurvey.proofs.Lists.{find-some}
use Rattle.dbsurvey.proofs.Order.{IsIn-right, EachPair-across}
use Rattle.dbsurvey.proofs.Ordering.{is_before-from}
use Rattle.dbformat.specs.PageFaults.{is_leaf_of}
use Rattle.dbformat.specs.Reference.{bytes_left}
use Rattle.dbformat.specs.Story.{start_errands, reporting}
use Rattle.dbformat.specs.Survey.{Survey}
use Rattle.dbformat.proofs.LookBack.{find_front, keys_front, reports, all_of, later, here, listed, one_of, visits-append}
use Rattle.dbformat.proofs.Places.{key_place}
use Rattle.dbformat.proofs.Theory.{no_due, reported_in_order}
use Rattle.dbformat.specs.Schema.{starts}
use Rattle.dbtrace.specs.Causes.{top_before, chain_number, head_address, is_same, chain_head, chain_of}
use Rattle.dbtrace.specs.Causes.{chain_cause, seen_from, seen_bytes, key_from, left_rows, refusal_cause, visit_cause}
use Rattle.dbtrace.specs.LookBack.{visits_up_to, CausesLookBack, FindingsLookBack}
use Rattle.dbtrace.specs.declared.SeenBytes.{SeenBytes}
use Rattle.dbtrace.specs.declared.Cause.TheVariants as cause
use Rattle.dbtrace.proofs.Causing.{page_codes, reported_by-append, page_same}
use Rattle.dbtrace.proofs.Depths.{reported_same, page_parts}
use Rattle.dbtrace.proofs.Reported.{IsOf, reported_of}

-- lists

-- no element of the second list passes the test
none_after : {X : Type 0} (p : X → Bool) (xs ys : List X) → ((y : X) → IsIn y ys → p y ≡ false) → find p (xs ++ ys) ≡ find p xs
none_after p [] [] h = refl
none_after p [] (y ∷ ys) h = ap (λ b. cond b (Some y) (find p ys)) (h y (inl refl)) ∙ none_after p [] ys (λ z i. h z (inr i))
none_after p (x ∷ xs) ys h = ap (cond (p x) (Some x)) (none_after p xs ys h)

-- two readings of the codes that agree
same_by : (why other : FaultCode → Cause) → ((code : FaultCode) → why code ≡ other code) → (fs : List Fault) → reported_by why fs ≡ reported_by other fs
same_by why other h [] = refl
same_by why other h (f ∷ fs) = ap₂ (λ c l. reported_fault f c ∷ l) (h f.code) (same_by why other h fs)

-- the cause that a fault is reported with
abbrev cause_in : Cause → List Finding → Cause
cause_in none (reported_fault f why ∷ fs) = why
cause_in none fs = none

abbrev rest_of : List Finding → List Finding
rest_of [] = []
rest_of (f ∷ fs) = fs

same_causes : (why other : FaultCode → Cause) (fs : List Fault) → reported_by why fs ≡ reported_by other fs → (f : Fault) → IsIn f fs
    → why f.code ≡ other f.code
same_causes why other [] e f i = absurd i
same_causes why other (g ∷ fs) e f (inl h) = subst (λ f. why f.code ≡ other f.code) (sym h) (ap (cause_in (why g.code)) e)
same_causes why other (g ∷ fs) e f (inr i) = same_causes why other fs (ap rest_of e) f i

-- addresses

-- a beginning of an address is before all that the address is before
begins_before : (n : ℕ) (a b : Address) → IsBefore a b → IsBefore (take n a) b
begins_before n a [] h = absurd h
begins_before zero a (y ∷ b) h = tt
begins_before (suc n) [] (y ∷ b) h = h
begins_before (suc n) (x ∷ a) (y ∷ b) (inl l) = inl l
begins_before (suc n) (x ∷ a) (y ∷ b) (inr h) = inr (h.0, begins_before n a b h.1)

not_same : (a b : Address) → IsBefore b a → is_same a b ≡ false
not_same a b h = by_other (not (is_before a b)) (not (is_before b a)) (ap not (is_before-from b a h))
  where
    by_other : (x y : Bool) → y ≡ false → (x && y) ≡ false
    by_other true y e = e
    by_other false y e = refl

-- the keys before a page, and the cells above it, where all pages of T are after it
pub rowids_front : (file : List ℕ) (U T : List Reference) (r : Reference) → ((t : Reference) → IsIn t T → IsBefore r.address t.address)
    → rowids_of file (U ++ T) r ≡ rowids_of file U r
rowids_front file U T r after = ap₂ (λ above up_to. bounds above up_to)
    (ap (λ ks. option_map (λ k. k.value) (top_key ks)) (keys_front file U T r.address after (at_place r.address) refl))
    (ap (λ root. option_and_then (λ u. key_from file u r) root)
    (none_after (λ u. is_same u.address (take 1 r.address)) U T
    (λ t i. not_same t.address (take 1 r.address) (begins_before 1 r.address t.address (after t i)))))
  where
    at_place : Address → Key
    at_place a = record { place = a; page = 0; item = 0; value = pos 0; is_rowid = false }

    bounds : Option ℤ → Option ℤ → RowidBounds
    bounds above up_to = record { above = above; up_to = up_to }

-- Beyond a place nothing counts: T has pages at greater addresses.
module _ (file : List ℕ) (U T : List Reference) (place : Address) (after : (t : Reference) → IsIn t T → IsBefore place t.address) where
  top_front : (ks : List Key) → ((k : Key) → IsIn k ks → k.place ≡ place) → top_before file (U ++ T) ks ≡ top_before file U ks
  top_front [] h = refl
  top_front (k ∷ ks) h = ap top_key (keys_front file U T place after k (h k (inl refl)))

  -- the first page of a chain is at a beginning of the address
  head_front : (r : Reference) → r.address ≡ place → chain_head (U ++ T) r ≡ chain_head U r
  head_front r e = ap (cond (chain_number r.address == 0) (Some r)) (none_after (λ u. is_same u.address (head_address r.address)) U T
      (λ t i. not_same t.address (head_address r.address)
      (begins_before (length r.address - chain_number r.address) r.address t.address (subst (λ a. IsBefore a t.address) (sym e) (after t i)))))

  rowids_at : (r : Reference) → r.address ≡ place → rowids_of file (U ++ T) r ≡ rowids_of file U r
  rowids_at r e = rowids_front file U T r (λ t i. subst (λ a. IsBefore a t.address) (sym e) (after t i))

  chain_front : (r : Reference) → r.address ≡ place → (left : Option ℕ) (more : ℕ) (seen : SeenBytes) → chain_cause file (U ++ T) r left more seen
      ≡ chain_cause file U r left more seen
  chain_front r e None more seen = refl
  chain_front r e (Some left) more seen =
      ap (λ head. option_map_or (λ head. cause.Chain (chain_of file head (chain_number r.address) left (chain_number r.address + more) seen)) head
      cause.Itself) (head_front r e)

  refusal_front : (r : Reference) → r.address ≡ place → refusal_cause file (U ++ T) r ≡ refusal_cause file U r
  refusal_front r e = by_kind (tree_kind (role_of r))
    where
      by_kind : (kind : Option TreeKind) → refusal_of file (U ++ T) r (rowids_of file (U ++ T) r) kind ≡ refusal_of file U r (rowids_of file U r) kind
      by_kind (Some kind) = ap cause.Rows (rowids_at r e)
      by_kind None = chain_front r e (bytes_left (role_of r)) 0 (seen_from file r)

  -- all pages of U are before them
  abbrev AreBefore : Type 0
  AreBefore = (u t : Reference) → IsIn u U → IsIn t T → IsBefore u.address t.address

  abbrev by_all : Event → FaultCode → Cause
  by_all e = cause_of file (U ++ T) e

  abbrev by_front : Event → FaultCode → Cause
  by_front e = cause_of file U e

  -- the first leaf, with its rowids
  leaf_front : (r : Reference) → IsIn r U → AreBefore → is_leaf_of file (start_of r.address) r ≡ true → first_leaf file (U ++ T) r ≡ first_leaf file U r
  leaf_front r i before e = ap (λ o. option_map_or (λ u. Some (leaf_at (rowids_of file (U ++ T) u) u)) o None)
      (find_front (is_leaf_of file (start_of r.address)) U T r i e)
      ∙ by_first (find (is_leaf_of file (start_of r.address)) U) refl
    where
      by_first : (o : Option Reference) → find (is_leaf_of file (start_of r.address)) U ≡ o
          → option_map_or (λ u. Some (leaf_at (rowids_of file (U ++ T) u) u)) (find (is_leaf_of file (start_of r.address)) U) None ≡ first_leaf file U r
      by_first None f = ap (λ o. option_map_or (λ u. Some (leaf_at (rowids_of file (U ++ T) u) u)) o None) f
          ∙ ap (λ o. option_map_or (λ u. Some (leaf_at (rowids_of file U u) u)) o None) (sym f)
      by_first (Some u) f = ap (λ o. option_map_or (λ u. Some (leaf_at (rowids_of file (U ++ T) u) u)) o None) f
          ∙ ap (λ rowids. Some (leaf_at rowids u))
          (rowids_front file U T u (λ t. before u t (find-some (is_leaf_of file (start_of r.address)) U u f).0))
          ∙ ap (λ o. option_map_or (λ u. Some (leaf_at (rowids_of file U u) u)) o None) (sym f)

  -- a page has the fault of its depth only where it is a leaf
  depth_front : (r : Reference) → r.address ≡ place → IsIn r U → AreBefore → reported_by (by_all (at_page r)) (depth_fault file U r)
      ≡ reported_by (by_front (at_page r)) (depth_fault file U r)
  unfolding depth_fault
  depth_front r at i before = by_leaf (is_leaf_of file (start_of r.address) r) refl
    where
      by_leaf : (b : Bool) → is_leaf_of file (start_of r.address) r ≡ b → reported_by (by_all (at_page r)) (depth_fault file U r)
          ≡ reported_by (by_front (at_page r)) (depth_fault file U r)
      by_leaf true e = reported_same (by_all (at_page r)) (by_front (at_page r)) _ _
          (ap₂ leaf_cause (rowids_at r at) (leaf_front r i before e))
      by_leaf false e = rw e refl

  page_front : (r : Reference) → r.address ≡ place → IsIn r U → AreBefore → reported_by (by_all (at_page r)) (page_faults file U r)
      ≡ reported_by (by_front (at_page r)) (page_faults file U r)
  page_front r e i before =
      ap (reported_by (by_all (at_page r))) (page_parts file U r)
      ∙ reported_by-append (by_all (at_page r)) (page_faults file [] r) (depth_fault file U r)
      ∙ ap₂ (λ a b. a ++ b)
      (page_same (by_all (at_page r)) (by_front (at_page r)) file (chain_front r e (bytes_left (role_of r)) 1
      (seen_bytes (usable_size file) (page_bytes file r.page))) refl r
      (λ kind in_tree. ap (λ rowids. map (visit_cause rowids file r) page_codes) (rowids_at r e)))
      (depth_front r e i before)
      ∙ sym (ap (reported_by (by_front (at_page r))) (page_parts file U r)
      ∙ reported_by-append (by_front (at_page r)) (page_faults file [] r) (depth_fault file U r))

  key_front : (r : Reference) (v : View) (x : ℕ × Cell) → then_step r.address (key_step x.0) ≡ place → (code : FaultCode) → by_all (at_key r v x) code
      ≡ by_front (at_key r v x) code
  key_front r v x e T06 = ap (λ k. option_map_or (λ k. cause.Key (cell_key k) (left_rows v x)) k cause.Itself) (top_front (key_of r v x)
      (λ k i. key_place r v x k i ∙ e))
  key_front r v x e _ = refl

  event_front : (V : List Reference) (e : Event) → IsOf file V place e → ((r : Reference) → own_visit e ≡ Some r → IsIn r U) → AreBefore
      → reported_by (by_all e) (event_faults file U e) ≡ reported_by (by_front e) (event_faults file U e)
  event_front V (at_page r) h own before = page_front r (sym h.1) (own r refl) before
  event_front V (at_key r v x) h own before = same_by (by_all (at_key r v x)) (by_front (at_key r v x)) (key_front r v x (sym h.3))
      (event_faults file U (at_key r v x))
  event_front V (at_refused r) h own before = same_by (by_all (at_refused r)) (by_front (at_refused r))
      (λ code. refusal_front r (sym h)) (event_faults file U (at_refused r))

-- at an event of all that is reported

module _ (file : List ℕ) (V : List Reference) (s : Survey file V) where
  -- its faults with their causes
  reported_here : (A : List (Reported Event)) (t : Reported Event) (L : List (Reported Event)) → A ++ t ∷ L ≡ reporting file V
      → reported_by (cause_of file V t.event) (event_faults file V t.event)
      ≡ reported_by (cause_of file (visits_up_to A t) t.event) (event_faults file (visits_up_to A t) t.event)
  reported_here A t L e =
      ap (reported_by (cause_of file V t.event)) (here file V s A t L e)
      ∙ ap (λ X. reported_by (cause_of file X t.event) (event_faults file (visits_up_to A t) t.event)) (sym (all_of file V s A t L e))
      ∙ event_front file (visits_up_to A t) (visits_in own_visit L) t.key (later file V s A t L e) V t.event
      (reported_of file (start_errands file V) V (no_due [] (starts file V)) t
      (((reports file V s).exact t).0 (subst (λ l. IsIn t l) e (IsIn-right t A (t ∷ L) (inl refl)))))
      (λ r f. IsIn-right r (visits_in own_visit A) (option_to_list (own_visit t.event)) (listed (own_visit t.event) r f))
      (λ u w i j. EachPair-across (λ (u : Reference) (w : Reference). IsBefore u.address w.address) (visits_up_to A t) (visits_in own_visit L)
      (subst (IsAscending (λ (u : Reference). u.address)) (sym (all_of file V s A t L e)) s.ascending) u w i j)

  -- its row, and these
  pub findings_here : (A : List (Reported Event)) (t : Reported Event) (L : List (Reported Event)) → A ++ t ∷ L ≡ reporting file V → reported_at file V t.event
      ≡ reported_at file (visits_up_to A t) t.event
  findings_here A t L e = ap (λ fs. map reported_row (option_to_list (event_row file t.event)) ++ fs) (reported_here A t L e)

  -- the visits before the rest
  pub visits_more : (A : List (Reported Event)) (t : Reported Event) → visits_in own_visit (A ++ t ∷ []) ≡ visits_up_to A t
  visits_more A t = visits-append A (t ∷ []) ∙ ap (λ l. visits_in own_visit A ++ l) (one_of (own_visit t.event))

  from_here : (A L : List (Reported Event)) → A ++ L ≡ reporting file V → flat_map (λ t. reported_at file V t.event) L
      ≡ read_back own_visit (reported_at file) (visits_in own_visit A) L
  from_here A [] e = refl
  from_here A (t ∷ L) e =
      ap (λ l. l ++ flat_map (λ t. reported_at file V t.event) L) (findings_here A t L e)
      ∙ ap (λ l. reported_at file (visits_up_to A t) t.event ++ l)
      (from_here (A ++ t ∷ []) L (append_assoc A (t ∷ []) L ∙ e) ∙ ap (λ X. read_back own_visit (reported_at file) X L) (visits_more A t))

pub causes_look_back : (file : List ℕ) → CausesLookBack file
causes_look_back file V s A L t e f i =
    same_causes (cause_of file V t.event) (cause_of file (visits_up_to A t) t.event) (event_faults file V t.event)
    (reported_here file V s A t L e ∙ ap (reported_by (cause_of file (visits_up_to A t) t.event)) (sym (here file V s A t L e))) f i

pub findings_look_back : (file : List ℕ) → FindingsLookBack file
findings_look_back file V s = from_here file V s [] (reporting file V) refl ∙ ap (read_back own_visit (reported_at file) []) (reported_in_order file V s).1
