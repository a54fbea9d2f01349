-- One turn of the loop over the interior pages of a tree, by what the last frame's page has at its step.
use Rattle.std.proofs.Common.{◌≡◌, ℕ, suc, ◌+◌, ◌-◌, ◌*◌, ◌/◌, ◌<◌, ◌≤◌, false, true, List, [], ◌∷◌, ◌++◌, map, length, Option, Some, Ok, Err, Result, ℤ, refl}
use Rattle.std.proofs.Common.{sym, ap, ap₂, subst, arith, ◌∙◌, Bool, option_and_then, slice_get, OnOk, IfErr}
use Rattle.dbwalk.proofs.Common.{Moves, Go, then_step, overflow_step, child_step, cell_of_step, count, child_number, report_cell, page_bytes}
use Rattle.dbwalk.proofs.Common.{View, undamaged, usable_size, first_overflow, Reference, role_of, tree_kind, tree_view, RunError, fault, reported_if, T06}
use Rattle.dbwalk.proofs.Common.{key_before, key_from, key_up_to, left_key, Finding, reported_fault, key_value, RowidBounds, Item, found, IsChainOf, IsNext}
use Rattle.dbwalk.proofs.Common.{is_late, key_cause, order_reported, top_after, errands_from, child_at, top_visit, IsCandidate, IsVisitAt, IsStepped, path_of}
use Rattle.dbwalk.proofs.Common.{IsEmptyAt, no_chain, no_child, without_key, HasLeft, IsNextStep, HasNext, HasDone, IsInterior, done_below, entered}
use Rattle.dbwalk.proofs.Common.{IsWalkingOn, tree_walk, StopsAt, StackFrame, Mark, Tree, Next, Nothing, unwrap_or, option_map_or, option_or, result_ok}
use Rattle.dbwalk.proofs.Common.{length-append, unreadable, Chain}
use Rattle.dbwalk.specs.Steps.{IsChainAt, IsChildAt, IsKeyAt}
use Rattle.dbwalk.specs.Underway.{HasTurned}
use Rattle.dbwalk.proofs.Leaves.LeafErrands.{chain_start, rowid_in}
use Rattle.dbwalk.proofs.Pages.PageReportings.{view_is}
use Rattle.dbwalk.proofs.Pages.PageVisits.{kind_is}
use Rattle.dbwalk.proofs.Trees.Bounds.{child_key, child_up_to, root_address}
use Rattle.dbwalk.proofs.Trees.Frames.{goes_on, path_length, read_last, step_within}
use Rattle.dbwalk.proofs.Trees.Stacking.{top_kind, step_no_chain, step_no_child, step_key, step_no_key, step_chain, step_child, step_end}
use Rattle.dbwalk.proofs.Trees.TreeWays.{IsOnWay, child_candidate, top_candidate}
use Rattle.dbwalk.proofs.Underway.CellSteps.{order_reported_of}
use Rattle.dbwalk.proofs.Underway.TreeSteps.{turned}
use Rattle.dbwalk.specs.declared.steps.Next.TheVariants as step
use Rattle.dbwalk.proofs.Underway.TreeSteps as steps

module _ {P : Type 0} {moves : P → Item → P → Type 0} {file : List ℕ} {W : List Reference} {c : Reference} {before : P} {levels : List (List ℕ)}
    (fs : List StackFrame) (f : StackFrame) {marks : List Mark} {tree : Tree} {w : P}
    (on : IsWalkingOn moves file W c before (fs ++ (f ∷ []), levels) (marks, tree) w)
    (candidate : IsCandidate tree.kind tree.start [] c.page 0 tree.start c) where
  abbrev pub top : Reference
  top = top_visit file tree.kind c fs

  abbrev pub v : View
  v = (steps.frames fs f on).1.view

  viewed : tree_view file top ≡ Some v
  viewed = (steps.frames fs f on).1.viewed

  on_page : f.page ≡ top.page
  on_page = (steps.frames fs f on).1.page

  role : tree_kind (role_of top) ≡ Some tree.kind
  role = top_kind file tree.kind c fs (kind_is file tree.kind tree.start [] c.page 0 tree.start c candidate)

  -- what the page is known to have at the step
  pub next_here : {usable : ℕ} {next : Next} → usable ≡ usable_size file → HasNext usable tree.kind levels (length fs) f.page f.next next
      → IsNextStep v f.next next
  next_here usables has = has.stands (page_bytes file f.page) v
      (ap (slice_get levels) (let e : length fs ≡ 0 + length fs = omega arith in e) ∙ read_last file levels 0 fs f on.read)
      (ap (λ u. undamaged tree.kind f.page u (page_bytes file f.page)) usables ∙ ap (λ p. undamaged tree.kind p (usable_size file) (page_bytes file p)) on_page
      ∙ sym (view_is file top tree.kind role) ∙ viewed)

  -- a frame that is left
  pub turned_behind : child_step (count v) < f.next → IsWalkingOn moves file W c before (fs, levels) (marks, tree) w
  turned_behind past = steps.on_end fs f on (step_end file top tree.kind v role viewed f.next past)

  way : IsOnWay file tree.kind tree.start [] fs c
  way = top_candidate file tree.kind tree.start fs f [] c.page 0 tree.start c candidate on.calls

  -- the visit of the frame, as that of a leaf
  top_at : IsVisitAt tree.kind tree.start (path_of fs) top f.page
  top_at = record {
    page = sym on_page;
    kind_is = role;
    start = way.candidate.start;
    depth = way.candidate.depth;
    path = way.candidate.path;
    chain = way.candidate.chain;
  }

  module _ {g : StackFrame} (stepped : IsStepped f g) where
    -- a step at which nothing is
    pub turned_empty : IsEmptyAt v f.next → IsWalkingOn moves file W c before (fs ++ (g ∷ []), levels) (marks, tree) w
    turned_empty h = by_case h
      where
        within : suc f.next ≤ 3 * count v + 2
        within = step_within v f.next Nothing (goes_on Nothing tt) h

        by_case : IsEmptyAt v f.next → IsWalkingOn moves file W c before (fs ++ (g ∷ []), levels) (marks, tree) w
        by_case (no_chain n step l none) = steps.on_skip fs f on stepped within (rw step (step_no_chain file top tree.kind v role viewed n none))
        by_case (no_child n step l none) = steps.on_skip fs f on stepped within (rw step (step_no_child file top tree.kind v role viewed n none))
        by_case (unreadable n b step l bad) = steps.on_skip fs f on stepped within (rw step (step_no_key file top tree.kind v role viewed n b bad))
        by_case (without_key n x step l read none) = steps.on_cell fs f on stepped within n x w
            (subst (λ s. errands_from file top s ≡ report_cell top v n x ∷ errands_from file top (suc s)) (sym step)
            (step_key file top tree.kind v role viewed n x l read))
            tree refl (ap (λ o. top_after tree.greatest top.page n o) (sym none)) refl
            (subst (λ o. Moves moves w (map found (order_reported_of false (Some (record { above = key_before v n; up_to = o })) tree.greatest top.page n o)) w)
            (sym none) refl)

    -- a key
    module _ {value : ℤ} (h : IsKeyAt v f.next value) (x : P) where
      within_key : suc f.next ≤ 3 * count v + 2
      within_key = step_within v f.next (step.Key value) (goes_on (step.Key value) tt) h

      key_errand : errands_from file top f.next ≡ report_cell top v h.n h.x ∷ errands_from file top (suc f.next)
      key_errand = subst (λ s. errands_from file top s ≡ report_cell top v h.n h.x ∷ errands_from file top (suc s)) (sym h.step)
          (step_key file top tree.kind v role viewed h.n h.x h.low h.read)

      at_cell : f.next / 3 ≡ h.n
      at_cell = let e = h.step in omega arith

      -- between the key of the cell before it and its own
      abbrev between : Option ℤ → RowidBounds
      between up_to = record { above = key_before v h.n; up_to = up_to }

      reported_key : (left : RowidBounds) → (is_late false (key_value tree.greatest) value ≡ true → left ≡ between (Some value))
          → order_reported false (Some left) tree.greatest f.page (f.next / 3) value
          ≡ order_reported_of false (Some (between h.x.key)) tree.greatest top.page h.n h.x.key
      reported_key left are =
          by_late (is_late false (key_value tree.greatest) value) are
          ∙ ap (λ p. order_reported false (Some (between (Some value))) tree.greatest p (f.next / 3) value) on_page
          ∙ ap (λ i. order_reported false (Some (between (Some value))) tree.greatest top.page i value) at_cell
          ∙ ap (λ o. order_reported_of false (Some (between o)) tree.greatest top.page h.n o) (sym h.key)
        where
          reported_with : Bool → RowidBounds → List Finding
          reported_with late rows = reported_if late (reported_fault (fault T06 f.page (f.next / 3) value) (key_cause (Some rows) tree.greatest))

          by_late : (late : Bool) → (late ≡ true → left ≡ between (Some value)) → reported_with late left ≡ reported_with late (between (Some value))
          by_late true e = ap (reported_with true) (e refl)
          by_late false e = refl

      -- what is read of the cell before it
      pub left_here : {usable : ℕ} → usable ≡ usable_size file → (left : RowidBounds)
          → HasLeft usable tree.kind levels (length fs) f.page (f.next / 3) value left → left ≡ between (Some value)
      left_here usables left has =
          let low : f.next / 3 < count v = subst (λ i. i < count v) (sym at_cell) h.low in
          let bytes = ap (slice_get levels) (let e : length fs ≡ 0 + length fs = omega arith in e) ∙ read_last file levels 0 fs f on.read in
          let seen = ap (λ u. undamaged tree.kind f.page u (page_bytes file f.page)) usables
          ∙ ap (λ p. undamaged tree.kind p (usable_size file) (page_bytes file p)) on_page ∙ sym (view_is file top tree.kind role) ∙ viewed in
          ap₂ rows_of (has.above.is (page_bytes file f.page) v bytes seen low ∙ ap (key_before v) at_cell) has.up_to
        where
          rows_of : Option ℤ → Option ℤ → RowidBounds
          rows_of above up_to = record { above = above; up_to = up_to }

      pub turned_key : (left : RowidBounds) → (is_late false (key_value tree.greatest) value ≡ true → left ≡ between (Some value))
          → (tree' : Tree) → tree'.kind ≡ tree.kind → tree'.greatest ≡ top_after tree.greatest f.page (f.next / 3) (Some value) → tree'.leaf
          ≡ tree.leaf → Moves moves w (map found (order_reported false (Some left) tree.greatest f.page (f.next / 3) value)) x
          → IsWalkingOn moves file W c before (fs ++ (g ∷ []), levels) (marks, tree') x
      turned_key left are tree' kinds tops leafs m = steps.on_cell fs f on stepped within_key h.n h.x x key_errand tree' kinds
          (tops ∙ ap (λ p. top_after tree.greatest p (f.next / 3) (Some value)) on_page ∙ ap (λ i. top_after tree.greatest top.page i (Some value)) at_cell
          ∙ ap (top_after tree.greatest top.page h.n) (sym h.key)) leafs
          (subst (λ l. Moves moves w (map found l) x) (reported_key left are) m)

    -- an overflow chain
    module _ {first left : ℕ} {rowid : Option ℤ} (h : IsChainAt v f.next first left rowid) where
      abbrev pub chained : Reference
      chained = record {
        address = then_step top.address (overflow_step h.n);
        page = first;
        role = record { role = first_overflow left; from = top.page; item = h.n };
      }

      chain_errand : errands_from file top f.next ≡ Go chained ∷ errands_from file top (suc f.next)
      chain_errand = rw (h.rest, h.step) (step_chain file top tree.kind v role viewed h.n h.x first h.low h.read h.page)

      within_chain : suc f.next ≤ 3 * count v + 2
      within_chain = step_within v f.next (step.Chain first left rowid) (goes_on (step.Chain first left rowid) tt) h

      -- it is the one that a call is given, and all visits so far are before it
      pub chain_is : (chain : Chain) → chain.usable ≡ usable_size file → chain.start ≡ tree.start → chain.path.now ≡ path_of fs → chain.page ≡ f.page
          → chain.cell ≡ f.next / 3 → chain.first ≡ first → chain.left ≡ left → chain.rowid ≡ rowid → IsChainOf file chain chained
      chain_is chain usables starts ways pages items ones rests keys =
          chain_start chain file tree.kind tree.start (path_of fs) top f.page h.n first left top_at usables starts ways pages
          (items ∙ (let e = h.step in let third : f.next / 3 ≡ h.n = omega arith in third)) ones rests
          (rowid_in file tree.kind f.page v h.n (ap (λ p. undamaged tree.kind p (usable_size file) (page_bytes file p)) on_page
          ∙ sym (view_is file top tree.kind role) ∙ viewed) ∙ ap (λ r. option_and_then (λ c. c.key) (result_ok r)) h.read ∙ sym (keys ∙ h.key))

      pub chain_next : IsNext on.now.visits chained
      chain_next = steps.next_is fs f on stepped within_chain chained chain_errand

      -- a call walks along it: the walk goes on after it, or not all of it could be done
      module _ (stops : P → Item → P → Type 0) (marks' : List Mark) (x : P) {items : List StackFrame} {levels' : List (List ℕ)}
          (are : items ≡ fs ++ (g ∷ [])) (same : levels' ≡ levels) where
        pub turned_chain : (r : Result (Unit {0}) RunError) → HasDone moves stops file (done_below file on.now (Go chained ∷ [])) r (marks', tree) w x
            → HasTurned moves stops file (W, c, before) r (items, levels') (marks', tree) x
        turned_chain (Ok a) done = turned (steps.on_call fs f on stepped within_chain chained chain_errand stops marks' tree x a refl done) are refl refl refl
            (λ n l. ap (λ ls. slice_get ls n) same)
        turned_chain (Err e) done = (tt, steps.call_stopped fs f on stepped within_chain chained chain_errand stops marks' tree x e done)

    -- a child
    module _ {number : ℕ} {key : Option ℤ} (h : IsChildAt v f.next number key) where
      abbrev pub child : Reference
      child = child_at file tree.kind top f.next

      child_errand : errands_from file top f.next ≡ Go child ∷ errands_from file top (suc f.next)
      child_errand = rw h.step (step_child file top tree.kind v role viewed h.n number h.low h.number)

      at_child : f.next / 3 ≡ h.n
      at_child = let e = h.step in omega arith

      -- the key of the innermost cell whose left child leads to it
      key_is : key_from file c child ≡ option_or key f.up_to
      key_is =
          child_key file tree.kind tree.start c (root_address c.address tree.start candidate.depth candidate.start) fs v f.next
          (kind_is file tree.kind tree.start [] c.page 0 tree.start c candidate) role (steps.frames fs f on).0 viewed
          ∙ ap (λ i. option_or (left_key v i) (key_from file c top)) at_child
          ∙ ap₂ (λ a b. option_or a b) (sym h.left) (sym (steps.frames fs f on).1.up_to)

      number_is : child.page ≡ number
      number_is = ap (λ o. option_map_or (λ v. unwrap_or (child_number v (cell_of_step f.next)) 0) o 0) viewed
          ∙ ap (λ i. unwrap_or (child_number v i) 0) at_child ∙ ap (λ o. unwrap_or o 0) h.number

      within_child : suc f.next ≤ 3 * count v + 2
      within_child = step_within v f.next (step.Child number key) (goes_on (step.Child number key) tt) h

      child_is : IsCandidate tree.kind tree.start (path_of fs ++ (cell_of_step f.next ∷ [])) child.page top.page (cell_of_step f.next) child
      child_is = child_candidate file tree.kind tree.start (path_of fs) way.p way.from way.item top way.candidate f.next h.n h.step

      -- what a call has to know of it
      pub child_asked : {children : List ℕ} → children ≡ path_of fs ++ (cell_of_step f.next ∷ []) → {bound : Option ℤ} → bound ≡ option_or key f.up_to
          → IsCandidate tree.kind tree.start children number f.page (f.next / 3) child × IsNext on.now.visits child
          × (key_up_to file (on.now.visits ++ (child ∷ [])) child ≡ bound)
      child_asked ways bounds = (
        subst (λ l. IsCandidate tree.kind tree.start l number f.page (f.next / 3) child) (sym ways)
            (subst (λ p. IsCandidate tree.kind tree.start (path_of fs ++ (cell_of_step f.next ∷ [])) number p (f.next / 3) child) (sym on_page)
            (subst (λ q. IsCandidate tree.kind tree.start (path_of fs ++ (cell_of_step f.next ∷ [])) q top.page (f.next / 3) child) number_is child_is)),
        steps.next_is fs f on stepped within_child child child_errand,
        child_up_to file tree.kind tree.start c (root_address c.address tree.start candidate.depth candidate.start) fs on.now.visits f.next on.root
            ∙ key_is ∙ sym bounds,
      )

      module _ (stops : P → Item → P → Type 0) {marks' : List Mark} {tree' : Tree} {x : P} where
        -- all below it was done: it is refused, damaged, or a leaf
        pub child_passed : tree'.kind ≡ tree.kind → HasDone {A = Bool} moves stops file (done_below file on.now (Go child ∷ [])) (Ok false) (marks', tree') w x
            → IsWalkingOn moves file W c before (fs ++ (g ∷ []), levels) (marks', tree') x
        child_passed kinds done = steps.on_call fs f on stepped within_child child child_errand stops marks' tree' x false kinds done

        -- not all of it could be read and reported
        pub child_stopped : (Q : Type 0) {e : RunError} {r : Result (Unit {0}) RunError} → r ≡ Err e
            → HasDone {A = Bool} moves stops file (done_below file on.now (Go child ∷ [])) (Err e) (marks', tree') w x
            → OnOk r Q × IfErr r (λ e. StopsAt moves stops e before (tree_walk file W c).items x)
        child_stopped Q {e = e} is done = subst (λ r. OnOk r Q × IfErr r (λ e. StopsAt moves stops e before (tree_walk file W c).items x)) (sym is)
            (tt, steps.call_stopped fs f on stepped within_child child child_errand stops marks' tree' x e done)

        -- it is an undamaged interior page
        pub child_entered : {levels' : List (List ℕ)} (frame : StackFrame) → tree'.kind ≡ tree.kind → frame.page ≡ number → frame.next ≡ 0 → frame.up_to
            ≡ option_or key f.up_to → ((n : ℕ) → n < length (fs ++ (g ∷ [])) → slice_get levels' n ≡ slice_get levels n)
            → {yes : Bool} → yes ≡ true → HasDone moves stops file (entered file on.now child (Ok yes)) (Ok yes) (marks', tree') w x
            → IsInterior file on.now child levels'
            → IsWalkingOn moves file W c before ((fs ++ (g ∷ [])) ++ (frame ∷ []), levels') (marks', tree') x
        child_entered {levels' = levels'} frame kinds pages start bound kept is done inside =
            let e = child_is.depth in
            let q = path_length fs in
            let m = length-append (path_of fs) (cell_of_step f.next ∷ []) in
            let n = length-append fs (g ∷ []) in
            let deep : length child.address - 1 ≡ length (fs ++ (g ∷ [])) = omega arith in
            steps.on_enter fs f on stepped within_child child child_errand stops marks' tree' x h.n frame levels' kinds h.step refl
            (pages ∙ sym number_is) start (bound ∙ sym key_is) deep kept
            (subst (λ y. HasDone {A = Bool} moves stops file (entered file on.now child (Ok y)) (Ok y) (marks', tree') w x) is done) inside
