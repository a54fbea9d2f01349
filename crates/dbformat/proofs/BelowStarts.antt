-- The starts of a survey, and what is visited below each of them.
use Rattle.std.proofs.Common.{◌≡◌, ℕ, zero, suc, ◌+◌, ◌<◌, ◌≤◌, ◌⊎◌, inl, inr, Bool, true, false, cond, not, ◌&&◌, List, [], ◌∷◌, ◌++◌, length, map, take}
use Rattle.std.proofs.Common.{Option, Some, None, refl, sym, ap, subst, ◌∙◌, arith, append_assoc, length-append}
use Rattle.std.specs.Prelude.{find, is_some, nat_lt, option_map, ◌==◌}
use Rattle.std.specs.List.{enumerate_from}
use Rattle.std.proofs.lemmas.Bool.Decides.{nat_tests}
use Rattle.std.proofs.lemmas.Bool.{cases_Bool, and_parts, and_from, eqb-true, eq-eqb, both_ways}
use Rattle.dbsurvey.specs.Address.{IsIn, Address, IsBefore, IsAscending}
use Rattle.dbsurvey.specs.From.{under}
use Rattle.dbsurvey.specs.Survey.{Link, IsRising, children}
use Rattle.dbsurvey.proofs.Composing.{named_at-from, named_at-step, IsIn-named}
use Rattle.dbsurvey.proofs.Elements.{one_by}
use Rattle.dbsurvey.proofs.Lists.{find-none, find-some}
use Rattle.dbsurvey.proofs.Order.{IsIn-cases, IsIn-right, IsBefore-beginning, earlier}
use Rattle.dbsurvey.proofs.Ordering.{one_at_key}
use Rattle.dbsurvey.proofs.Rearranged.{parted}
use Rattle.dbformat.specs.Address.{start_of, depth, schema_start, last_root_start, freelist_start}
use Rattle.dbformat.specs.File.{geometry}
use Rattle.dbformat.specs.FixedPages.{is_page, is_fixed}
use Rattle.dbformat.specs.Header.{first_trunk}
use Rattle.dbformat.specs.Reference.{Role, trunk, Way, Reference, role_of, tree_kind, is_root, is_on_freelist}
use Rattle.dbformat.specs.Schema.{schema, start, root_start, root_starts, rooted_rows, freelist_starts, later_starts, starts}
use Rattle.dbformat.specs.SchemaRow.{SchemaRow}
use Rattle.dbformat.specs.Survey.{Survey, rules_of, is_too_deep}
use Rattle.dbformat.proofs.Rising.{rows_end, starts_rise}
use Rattle.dbformat.proofs.Roles.{root_off, child_leads}
use Rattle.dbformat.proofs.Visited.{allowed, each_once, has_address, visit_is}
use Rattle.dbformat.specs.Starts.{start_at, is_start, first_start}

-- what a start is: the freelist's leads to a trunk, and the others to roots
abbrev pub IsAtStart : ℕ → Role → Type 0
IsAtStart k role = ((role ≡ trunk) × (k ≡ freelist_start)) ⊎ ((is_root role ≡ true) × (k < freelist_start))

pub rows_start : (file : List ℕ) (k : ℕ) (rows : List SchemaRow) (l : Link Way) → IsIn l (map (root_start file) (enumerate_from k rows))
    → (is_root l.role.role ≡ true) × (l.step < k + length rows)
rows_start file k [] l i = absurd i
rows_start file k (row ∷ rows) l (inl e) = (ap (λ l. is_root l.role.role) e, let d : l.step ≡ k = ap (λ l. l.step) e in omega arith)
rows_start file k (row ∷ rows) l (inr i) = let h = rows_start file (k + 1) rows l i in let d = h.1 in (h.0, omega arith)

free_start : (file : List ℕ) (l : Link Way) → IsIn l (freelist_starts file) → (l.role.role ≡ trunk) × (l.step ≡ freelist_start)
free_start file l i = by_case (first_trunk file == 0) i
  where
    by_case : (b : Bool) → IsIn l (cond b [] (start freelist_start trunk (first_trunk file) ∷ [])) → (l.role.role ≡ trunk) × (l.step ≡ freelist_start)
    by_case true i = absurd i
    by_case false (inl e) = (ap (λ l. l.role.role) e, ap (λ l. l.step) e)
    by_case false (inr i) = absurd i

pub before_freelist : (k n : ℕ) → k < 1 + n → 1 + n ≤ freelist_start → k < freelist_start
before_freelist k n h few = omega arith

each_start : (file : List ℕ) (V : List Reference) (l : Link Way) → IsIn l (starts file V) → IsAtStart l.step l.role.role
unfolding later_starts
each_start file V l (inl e) = inr (
  ap (λ l. is_root l.role.role) e,
  subst (λ k. k < freelist_start) (sym (ap (λ l. l.step) e)) (before_freelist 0 0 (omega arith) (omega arith)),
)
each_start file V l (inr i) =
    let rows = rooted_rows (schema file (under schema_start V)) in
    elim (IsIn-cases l (root_starts file rows) (freelist_starts file) i) [
      | inl j ↦ (let h = rows_start file 1 (take last_root_start rows) l j in
          inr (h.0, before_freelist l.step (length (take last_root_start rows)) h.1 (rows_end rows)))
      | inr j ↦ inl (free_start file l j)
    ]

pub start_of-step : (a : Address) (s : ℕ) → (a ≡ [] → ⊥) → start_of (a ++ s ∷ []) ≡ start_of a
start_of-step [] s h = absurd (h refl)
start_of-step (x ∷ a) s h = refl

one_step : (a : Address) (k : ℕ) → start_of a ≡ k → length a ≡ 1 → a ≡ k ∷ []
one_step [] k e d = cc
one_step (x ∷ []) k e d = ap (λ x. x ∷ []) e
one_step (x ∷ y ∷ a) k e d = absurd (let f : ⊥ = omega arith in f)

-- the first link with a page comes no later than any other
found_first : (p : ℕ) (ls : List (Link Way)) (l m : Link Way) → IsRising ls → find (λ l. l.page == p) ls ≡ Some l → IsIn m ls → (m.page == p) ≡ true → l.step
    ≤ m.step
found_first p [] l m h e i f = absurd i
found_first p (x ∷ ls) l m h e i f = by_case (x.page == p) refl e i (λ d j. found_first p ls l m h.1 d j f)
  where
    by_case : (b : Bool) → (x.page == p) ≡ b → cond b (Some x) (find (λ l. l.page == p) ls) ≡ Some l → IsIn m (x ∷ ls)
        → (find (λ l. l.page == p) ls ≡ Some l → IsIn m ls → l.step ≤ m.step) → l.step ≤ m.step
    by_case true d k (inl j) deeper = let a : l ≡ x = cc in let b : l.step ≡ m.step = ap (λ l. l.step) (a ∙ sym j) in omega arith
    by_case true d k (inr j) deeper = let a : l ≡ x = cc in let b : l.step ≡ x.step = ap (λ l. l.step) a in let c = h.0 m j in omega arith
    by_case false d k (inl j) deeper = absurd (both_ways (x.page == p) d (ap (λ m. m.page == p) (sym j) ∙ f))
    by_case false d k (inr j) deeper = deeper k j

module _ (file : List ℕ) (V : List Reference) (s : Survey file V) where
  -- what holds of the visits at starts, and of a page's where it holds of the page's own visit, holds of each visit
  each_visit : (P : Reference → Type 0) → ((r : Reference) → IsIn r V → (l : Link Way) → IsIn l (starts file V) → r
      ≡ record { address = l.step ∷ []; page = l.page; role = l.role } → P r)
      → ((u r : Reference) → IsIn u V → IsIn r (children (rules_of file) u) → P u → P r) → (r : Reference) → IsIn r V → P r
  each_visit P at_start below r i = let p = parted r V i in up (suc (length p.0)) p.0 r p.1 (sym p.2) (omega arith)
    where
      up : (n : ℕ) (A : List Reference) (r : Reference) (B : List Reference) → A ++ r ∷ B ≡ V → length A < n → P r
      up zero A r B e l = absurd (let f : ⊥ = omega arith in f)
      up (suc n) A r B e l =
          let i : IsIn r V = subst (IsIn r) e (IsIn-right r A (r ∷ B) (inl refl)) in
          elim ((s.exact r).0 i).0 [
            | inl j ↦ (let k = named_at-from [] (starts file V) r j in at_start r i k.0 k.1 k.2)
            | inr w ↦ (let u : Reference = w.0 in
                let step = named_at-step u.address ((rules_of file).links u.page u.role) r w.2 in
                let front = (earlier (λ t. t.address) A B r (subst (λ W. IsAscending (λ t. t.address) W) (sym e) s.ascending) u).1
                (subst (IsIn u) (sym e) w.1, subst (IsBefore u.address) (sym step.1) (IsBefore-beginning u.address step.0 [])) in
                let p = parted u A front in
                let at : p.0 ++ u ∷ (p.1 ++ r ∷ B) ≡ V = sym (append_assoc p.0 (u ∷ p.1) (r ∷ B)) ∙ ap (λ W. W ++ r ∷ B) (sym p.2) ∙ e in
                let long : length A ≡ length p.0 + suc (length p.1) = ap length p.2 ∙ length-append p.0 (u ∷ p.1) in
                below u r w.1 w.2 (up n p.0 u (p.1 ++ r ∷ B) at (omega arith)))
          ]

  -- the page of a visit belongs to its start
  pub start_here : (r : Reference) → IsIn r V → start_at V r.page ≡ Some (start_of r.address)
  start_here r i = ap (λ o. option_map (λ (r : Reference). start_of r.address) o) (visit_is file V s r i)

  -- a page is below the start of the page that it is of, one step deeper
  pub one_below : (u r : Reference) → IsIn u V → IsIn r (children (rules_of file) u) → (start_of r.address ≡ start_of u.address)
      × (depth r.address ≡ depth u.address + 1)
  one_below u r i c =
      let step = named_at-step u.address ((rules_of file).links u.page u.role) r c in
      let long : length (u.address ++ step.0 ∷ []) ≡ length u.address + 1 = length-append u.address (step.0 ∷ []) in
      (ap start_of step.1 ∙ start_of-step u.address step.0 (has_address file V s u i), ap length step.1 ∙ long)

  -- what is on the freelist is below its start
  pub on_freelist : (r : Reference) → IsIn r V → is_on_freelist (role_of r) ≡ true → start_of r.address ≡ freelist_start
  on_freelist = each_visit (λ r. is_on_freelist (role_of r) ≡ true → start_of r.address ≡ freelist_start)
      (λ r i l j e h. elim (each_start file V l j) [
        | inl t ↦ ap (λ r. start_of r.address) e ∙ t.1
        | inr t ↦ absurd (both_ways (is_on_freelist l.role.role) (root_off l.role.role t.0) (sym (ap (λ r. is_on_freelist (role_of r)) e) ∙ h))
      ])
      (λ u r i c up h. (one_below u r i c).0 ∙ up (sym (child_leads file u r c).1 ∙ h))

  -- the start of each visit was followed
  pub start_visited : (r : Reference) → IsIn r V → (u : Reference) × IsIn u V × (u.address ≡ start_of r.address ∷ [])
  start_visited = each_visit (λ r. (u : Reference) × IsIn u V × (u.address ≡ start_of r.address ∷ []))
      (λ r i l j e. (r, i, ap (λ r. r.address) e ∙ sym (ap (λ r. start_of r.address ∷ []) e)))
      (λ u r i c up. (up.0, up.1, up.2 ∙ ap (λ k. k ∷ []) (sym (one_below u r i c).0)))

  -- the visit of a start is found by its number
  pub start_is : (r : Reference) (k : ℕ) → IsIn r V → r.address ≡ k ∷ [] → find (is_start k) V ≡ Some r
  start_is r k i e = by_case (find (is_start k) V) refl
    where
      own : is_start k r ≡ true
      own = and_from (start_of r.address == k) (depth r.address == 1) (eq-eqb (start_of r.address) k (ap start_of e)) (eq-eqb (depth r.address) 1 (ap depth e))

      by_case : (o : Option Reference) → find (is_start k) V ≡ o → find (is_start k) V ≡ Some r
      by_case None f = absurd (both_ways (is_start k r) (find-none (is_start k) V f r i) own)
      by_case (Some q) f =
          let h = find-some (is_start k) V q f in
          let t = and_parts (start_of q.address == k) (depth q.address == 1) h.1 in
          let a = one_step q.address k (eqb-true (start_of q.address) k t.0) (eqb-true (depth q.address) 1 t.1) in
          f ∙ ap Some (one_at_key (λ t. t.address) V s.ascending q r h.0 i (a ∙ sym e))

  -- a visit at one step is of a start
  of_start : (r : Reference) (k : ℕ) → IsIn r V → r.address ≡ k ∷ [] → (l : Link Way) × IsIn l (starts file V)
      × (r ≡ record { address = l.step ∷ []; page = l.page; role = l.role })
  of_start r k i e = elim ((s.exact r).0 i).0 [
    | inl j ↦ named_at-from [] (starts file V) r j
    | inr w ↦ (let u : Reference = w.0 in
        let step = named_at-step u.address ((rules_of file).links u.page u.role) r w.2 in
        absurd (has_address file V s u w.1 (no_more u.address step.0 (sym step.1 ∙ e))))
  ]
    where
      no_more : (a : Address) (x : ℕ) → a ++ x ∷ [] ≡ k ∷ [] → a ≡ []
      no_more [] x e = refl
      no_more (y ∷ []) x e = cc
      no_more (y ∷ z ∷ a) x e = cc

  shallow : (l : Link Way) → is_too_deep (record { address = l.step ∷ []; page = l.page; role = l.role }) ≡ false
  shallow l = either (is_some (tree_kind l.role.role))
    where
      either : (b : Bool) → (b && false) ≡ false
      either true = refl
      either false = refl

  -- no start before it has its page
  earlier_start : (r : Reference) (k : ℕ) → IsIn r V → r.address ≡ k ∷ [] → (l : Link Way) → IsIn l (starts file V) → l.page ≡ r.page → l.step < k → ⊥
  unfolding rules_of
  earlier_start r k i e l j same less =
      let c : Reference = record { address = l.step ∷ []; page = l.page; role = l.role } in
      let page : is_page (geometry file) l.page ≡ true = subst (λ p. is_page (geometry file) p ≡ true) (sym same) (allowed file V s r i).0 in
      let free : is_fixed (geometry file) l.page ≡ false = subst (λ p. is_fixed (geometry file) p ≡ false) (sym same) (allowed file V s r i).1 in
      let may : (rules_of file).may c ≡ true = and_from (is_page (geometry file) l.page) (not (is_fixed (geometry file) l.page) && not (is_too_deep c)) page
      (and_from (not (is_fixed (geometry file) l.page)) (not (is_too_deep c)) (ap not free) (ap not (shallow l))) in
      let there : IsIn c V = (s.exact c).1 (
        inl (IsIn-named [] (starts file V) l j),
        may,
        λ w m before f.
            (let g : w ≡ r = one_by (λ r. r.page) V (each_once file V s) w r m i (f ∙ same) in
            later_before (subst (λ a. IsBefore a (l.step ∷ [])) (ap (λ r. r.address) g ∙ e) before)),
      ) in
      let g : c ≡ r = one_by (λ r. r.page) V (each_once file V s) c r there i same in
      let a : l.step ≡ k = first_step (ap (λ r. r.address) g ∙ e) in
      let x : ⊥ = omega arith in x
    where
      first_step : l.step ∷ [] ≡ k ∷ [] → l.step ≡ k
      first_step f = cc

      later_before : IsBefore (k ∷ []) (l.step ∷ []) → ⊥
      later_before (inl d) = let x : ⊥ = omega arith in x
      later_before (inr d) = d.1

  -- it is the first start with its page
  pub first_is : (r : Reference) (k : ℕ) → IsIn r V → r.address ≡ k ∷ [] → first_start (starts file V) r.page ≡ Some k
  first_is r k i e = by_case (find (λ l. l.page == r.page) (starts file V)) refl
    where
      own : (l : Link Way) × IsIn l (starts file V) × (r ≡ record { address = l.step ∷ []; page = l.page; role = l.role })
      own = of_start r k i e

      passes : (own.0.page == r.page) ≡ true
      passes = eq-eqb own.0.page r.page (sym (ap (λ r. r.page) own.2))

      step_is : own.0.step ≡ k
      step_is = let f : own.0.step ∷ [] ≡ k ∷ [] = sym (ap (λ r. r.address) own.2) ∙ e in cc

      by_case : (o : Option (Link Way)) → find (λ l. l.page == r.page) (starts file V) ≡ o → first_start (starts file V) r.page ≡ Some k
      by_case None f = absurd (both_ways (own.0.page == r.page) (find-none (λ l. l.page == r.page) (starts file V) f own.0 own.1) passes)
      by_case (Some l) f =
          let h = find-some (λ l. l.page == r.page) (starts file V) l f in
          let most : l.step ≤ own.0.step = found_first r.page (starts file V) l own.0 (starts_rise file (under schema_start V)) f own.1 passes in
          let same : own.0.step ≡ k = step_is in
          ap (λ o. option_map (λ l. l.step) o) f ∙ ap Some (exact l.step (omega arith) (λ less. earlier_start r k i e l h.0 (eqb-true l.page r.page h.1) less))
        where
          exact : (n : ℕ) → n ≤ k → (n < k → ⊥) → n ≡ k
          exact n a b = elim (cases_Bool (nat_lt n k)) [ inl e ↦ absurd (b (grind (arith, nat_tests))) | inr e ↦ grind (arith, nat_tests) ]
