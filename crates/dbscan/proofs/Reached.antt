-- A fault that is reported at a start is of a page that was reached from it, and each such start is one of the file's.
use Rattle.dbscan.proofs.Common.{arith, ◌≡◌, ℕ, inl, inr, Bool, true, false, cond, List, [], ◌∷◌, ◌++◌, map, take, length, Some, refl, sym, ap, subst, ◌∙◌}
use Rattle.dbscan.proofs.Common.{◌==◌, Address, IsIn, Reported, Follow, goes, start_of, schema_start, last_root_start, freelist_start, end_faults, page_bytes}
use Rattle.dbscan.proofs.Common.{first_trunk, usable_size, header_faults, Way, Reference, role_of, from_of, trunk, event_faults, schema, root_start}
use Rattle.dbscan.proofs.Common.{rooted_rows, start, freelist_starts, later_starts, starts, Event, at_page, at_key, at_refused, start_errands, reporting}
use Rattle.dbscan.proofs.Common.{Survey, rules_of, Fault, cause_of, Part, start_at, at_start, of_file, reported_faults, walk_reported, enumerate_from, under}
use Rattle.dbscan.proofs.Common.{IsIn-cases, IsIn-from_flat_map, has_address, start_here, Link, children, named_at, IsIn-map, IsIn-from_map, goes-errands}
use Rattle.dbscan.proofs.Common.{common_steps, role_links, root_starts, TracedFault, one_below, start_of-step, start_visited, IsOfStart}
use Rattle.dbsurvey.proofs.Composing.{named_at-from}
use Rattle.dbformat.proofs.Theory.{links-follows, no_due, reported_in_order}
use Rattle.dbtrace.proofs.Reported.{IsOf, refused_of, reported_of}
use Rattle.dbformat.proofs.Ways.{of_role}
use Rattle.dbscan.proofs.FaultPages.{page_of_event, event_of_page}
use Rattle.dbtrace.specs.declared.Part.TheVariants as part

-- starts are from no page
free_from : (file : List ℕ) (l : Link Way) → IsIn l (freelist_starts file) → l.role.from ≡ 0
free_from file l i = by_case (first_trunk file == 0) i
  where
    by_case : (b : Bool) → IsIn l (cond b [] (start freelist_start trunk (first_trunk file) ∷ [])) → l.role.from ≡ 0
    by_case true i = absurd i
    by_case false (inl e) = ap (λ (l : Link Way). l.role.from) e
    by_case false (inr i) = absurd i

start_from : (file : List ℕ) (V : List Reference) (l : Link Way) → IsIn l (starts file V) → l.role.from ≡ 0
unfolding later_starts
start_from file V l (inl e) = ap (λ (l : Link Way). l.role.from) e
start_from file V l (inr i) =
    let rows = rooted_rows (schema file (under schema_start V)) in
    elim (IsIn-cases l (root_starts file rows) (freelist_starts file) i) [
      | inl j ↦ ap (λ (l : Link Way). l.role.from) (IsIn-from_map (root_start file) (enumerate_from 1 (take last_root_start rows)) l j).2
      | inr j ↦ free_from file l j
    ]

module _ (file : List ℕ) (V : List Reference) (s : Survey file V) where
  abbrev steps : List ℕ
  steps = map (λ l. l.step) (starts file V)

  -- which is a start of the file
  visit_step : (r : Reference) → IsIn r V → IsIn (start_of r.address) steps
  visit_step r i =
      let u = start_visited file V s r i in
      elim ((s.exact u.0).0 u.1).0 [
        | inl j ↦ (let m = named_at-from [] (starts file V) u.0 j in
            let same : m.0.step ≡ start_of r.address = ap start_of (sym (ap (λ (r : Reference). r.address) m.2) ∙ u.2) in
            subst (λ k. IsIn k steps) same (IsIn-map (λ l. l.step) (starts file V) m.0 m.1))
        | inr w ↦ (let m = named_at-from w.0.address ((rules_of file).links w.0.page w.0.role) u.0 w.2 in
            absurd (has_address file V s w.0 w.1 (no_more w.0.address m.0.step (start_of r.address) (sym (ap (λ (r : Reference). r.address) m.2) ∙ u.2))))
      ]
    where
      no_more : (a : Address) (x k : ℕ) → a ++ x ∷ [] ≡ k ∷ [] → a ≡ []
      no_more a x k e = grind (arith, common_steps)

  -- an event's place begins with a start of the file, from which its page was reached, if it has one
  record IsPlaced (place : Address) (p : ℕ) : Type 0 where
    pub step : IsIn (start_of place) steps
    pub reached : (p ≡ 0 → ⊥) → start_at V p ≡ Some (start_of place)

  of_visit : (r : Reference) (place : Address) → IsIn r V → start_of place ≡ start_of r.address → IsPlaced place r.page
  of_visit r place i e = record { step = subst (λ k. IsIn k steps) (sym e) (visit_step r i); reached = λ d. start_here file V s r i ∙ ap Some (sym e) }

  of_event : (place : Address) (e : Event) → IsOf file V place e → ((r : Reference) → e ≡ at_refused r → IsPlaced r.address (from_of r))
      → IsPlaced place (page_of_event e)
  of_event place (at_page r) h refusal = of_visit r place h.0 (ap start_of h.1)
  of_event place (at_key r v x) h refusal = of_visit r place h.0 (ap start_of h.3 ∙ start_of-step r.address _ (has_address file V s r h.0))
  of_event place (at_refused r) h refusal = subst (λ a. IsPlaced a (from_of r)) (sym h) (refusal r refl)

  -- a reference that is refused is found at a start, or on a visited page
  of_start : (r : Reference) → IsIn r (goes (start_errands file V)) → IsPlaced r.address (from_of r)
  of_start r i =
      let named = subst (IsIn r) (goes-errands [] (map Follow (starts file V)) ∙ ap (named_at []) (links-follows (starts file V))) i in
      let m = named_at-from [] (starts file V) r named in
      let none : from_of r ≡ 0 = ap from_of m.2 ∙ start_from file V m.0 m.1 in
      let k : start_of r.address ≡ m.0.step = ap (λ (r : Reference). start_of r.address) m.2 in
      record { step = subst (λ k. IsIn k steps) (sym k) (IsIn-map (λ l. l.step) (starts file V) m.0 m.1); reached = λ d. absurd (d none) }

  of_child : (u r : Reference) → IsIn u V → IsIn r (children (rules_of file) u) → IsPlaced r.address (from_of r)
  unfolding rules_of
  of_child u r i c =
      let m = named_at-from u.address (role_links (role_of u) u.page (usable_size file) (page_bytes file u.page)) r c in
      let from : from_of r ≡ u.page = ap from_of m.2 ∙ of_role (role_of u) u.page (usable_size file) (page_bytes file u.page) m.0 m.1 in
      subst (IsPlaced r.address) (sym from) (of_visit u r.address i (one_below file V s u r i c).0)

  -- all that is reported is placed so
  placed : (t : Reported Event) → IsIn t (reporting file V) → IsPlaced t.key (page_of_event t.event)
  placed t i =
      let reported = ((reported_in_order file V s).0.exact t).0 i in
      let due = no_due [] (starts file V) in
      of_event t.key t.event (reported_of file (start_errands file V) V due t reported)
      (λ r e. elim (refused_of file (start_errands file V) V due t reported r e) [ inl i ↦ of_start r i | inr w ↦ of_child w.0 r w.1 w.2 ])

  -- so are the faults of the walk
  of_walk : (x : TracedFault) → IsIn x (walk_reported file V) → IsOfStart file V x
  of_walk x i =
      let m = IsIn-from_flat_map (λ t. map (λ f. at_start (start_of t.key) f (cause_of file V t.event f.code)) (event_faults file V t.event))
      (reporting file V) x
      i in
      let t = m.0 in
      let n = IsIn-from_map (λ f. at_start (start_of t.key) f (cause_of file V t.event f.code)) (event_faults file V t.event) x m.2 in
      let at = placed t m.1 in
      let page : n.0.page ≡ page_of_event t.event = event_of_page file V t.event n.0 n.1 in
      subst (IsOfStart file V) (sym n.2) (λ k e. let same : start_of t.key ≡ k = cc in record {
        start = subst (λ k. IsIn k steps) same at.step;
        reached = λ d. ap (start_at V) page ∙ at.reached (λ z. d (page ∙ z)) ∙ ap Some same;
      })

  of_others : (p : Part) → ((k : ℕ) → p ≡ part.Start k → ⊥) → (fs : List Fault) → (x : TracedFault) → IsIn x (map (of_file p) fs) → IsOfStart file V x
  of_others p none fs x i =
      let m = IsIn-from_map (of_file p) fs x i in
      subst (IsOfStart file V) (sym m.2) (λ k e. absurd (none k e))

  pub of_starts : (x : TracedFault) → IsIn x (reported_faults file V) → IsOfStart file V x
  of_starts x i =
      let first = map (of_file part.Header) (header_faults file (length file)) in
      let last = map (of_file part.End) (end_faults file V) in
      elim (IsIn-cases x (first ++ walk_reported file V) last i) [
        | inr j ↦ of_others part.End (λ k e. cc) (end_faults file V) x j
        | inl j ↦ (elim (IsIn-cases x first (walk_reported file V) j) [
          | inl l ↦ of_others part.Header (λ k e. cc) (header_faults file (length file)) x l
          | inr l ↦ of_walk x l
        ])
      ]
