-- One turn of the loop over the interior pages of a tree.
use Rattle.std.proofs.Common.{◌≡◌, ℕ, suc, ◌+◌, ◌-◌, ◌*◌, ◌<◌, ◌≤◌, true, false, not, inl, inr, List, [], ◌∷◌, ◌++◌, map, length, Some, Ok, Err, refl, sym, ap}
use Rattle.std.proofs.Common.{cond, subst, arith, ◌∙◌, append_assoc, None, slice_get, IfErr}
use Rattle.dbwalk.proofs.Common.{Moves, Errand, Go, errands_of, child_step, Cell, count, report_cell, page_bytes, Way, Reference, role_of, tree_kind}
use Rattle.dbwalk.proofs.Common.{Event, at_page, at_key, story_of, TreeKind, RunError, key_from, root_of, key_before, RowidBounds, Item, found, Walk}
use Rattle.dbwalk.proofs.Common.{advance, run_below, IsNext, top_after, AreMarksOf, errands_from, child_at, top_visit, left_over, IsStepped}
use Rattle.dbwalk.proofs.Common.{AreOpenFrames, AreRead, IsUnderway, HasDone, IsInterior, done_below, entered, IsWalkingOn, tree_walk}
use Rattle.dbwalk.proofs.Common.{StopsAt, StackFrame, Mark, Tree, visited_below}
use Rattle.dbwalk.proofs.Common.{append-nil, has_steps}
use Rattle.dbwalk.specs.Walking.{IsOpenFrame}
use Rattle.dbwalk.proofs.Trees.Bounds.{root_stays}
use Rattle.dbwalk.proofs.Trees.Stacking.{left-push, top-push, from_first}
use Rattle.dbwalk.proofs.Trees.Frames.{read_front, read_push, read_kept, calls_front, calls_on, calls_push}
use Rattle.dbwalk.proofs.Underway.CellSteps.{order_reported_of, cell_items, no_row_inside, greatest_behind}
use Rattle.dbwalk.proofs.Underway.Underways.{items_of, under_event, under_visit, under_call, stop_call}
use Rattle.dbwalk.proofs.Reporting.Belows.{quiet_go}

-- frames

module _ (file : List ℕ) (kind : TreeKind) (root : Reference) where
  open_front : (c : Reference) (fs : List StackFrame) (f : StackFrame) → AreOpenFrames file kind root c (fs ++ (f ∷ [])) → AreOpenFrames file kind root c fs
      × IsOpenFrame file root (top_visit file kind c fs) f
  open_front c [] f a = (tt, a.0)
  open_front c (g ∷ fs) f a = let k = open_front (child_at file kind c (g.next - 1)) fs f a.1 in ((a.0, k.0), k.1)

  open_push : (c : Reference) (fs : List StackFrame) (f : StackFrame) → AreOpenFrames file kind root c fs → IsOpenFrame file root (top_visit file kind c fs) f
      → AreOpenFrames file kind root c (fs ++ (f ∷ []))
  open_push c [] f a e = (e, tt)
  open_push c (g ∷ fs) f a e = (a.0, open_push (child_at file kind c (g.next - 1)) fs f a.1 e)

read_on : (file : List ℕ) (levels : List (List ℕ)) (f g : StackFrame) → g.page ≡ f.page → (level : ℕ) (hs : List StackFrame)
    → AreRead file levels level (hs ++ (f ∷ [])) → AreRead file levels level (hs ++ (g ∷ []))
read_on file levels f g page level [] r = (r.0 ∙ ap (λ p. Some (page_bytes file p)) (sym page), tt)
read_on file levels f g page level (h ∷ hs) r = (r.0, read_on file levels f g page (level + 1) hs r.1)

-- the same by another state of the tree, other buffers, and another name of the frames
module _ {P : Type 0} {moves : P → Item → P → Type 0} {file : List ℕ} {W : List Reference} {c : Reference} {before : P} {frames items : List StackFrame}
    {levels levels' : List (List ℕ)} {marks : List Mark} {tree tree' : Tree} {w : P} (on : IsWalkingOn moves file W c before (frames, levels) (marks, tree) w)
    (are : items ≡ frames) (kinds : tree'.kind ≡ tree.kind) (tops : tree'.greatest ≡ tree.greatest) (leafs : tree'.leaf ≡ tree.leaf)
    (same : (n : ℕ) → n < length frames → slice_get levels' n ≡ slice_get levels n) where
  pub by_other : IsWalkingOn moves file W c before (items, levels') (marks, tree') w
  by_other = let u = on.under in subst (λ l. IsWalkingOn moves file W c before (l, levels') (marks, tree') w) (sym are) (record {
    now = on.now;
    under = subst (λ k. IsUnderway moves file (tree_walk file W c) before on.now (left_over file k c frames) (marks, tree') w) (sym kinds)
        (record { rest = u.rest; at = (u.at.0, tops ∙ u.at.1, leafs ∙ u.at.2); past = u.past; apart = u.apart; handed = u.handed });
    root = on.root;
    frames_are = subst (λ k. AreOpenFrames file k c c frames) (sym kinds) on.frames_are;
    calls = on.calls;
    read = read_kept file levels levels' 0 frames (λ n l. same n (omega arith)) on.read;
  })

  -- a turn that did all there is at its step
  pub turned : IsWalkingOn moves file W c before (items, levels') (marks, tree') w × IfErr {T = Unit {0}} {E = RunError} (Ok tt) (λ e. ⊥)
  turned = (by_other, tt)

module _ {P : Type 0} {moves : P → Item → P → Type 0} {file : List ℕ} {W : List Reference} {c : Reference} {before : P} {levels : List (List ℕ)}
    (fs : List StackFrame) (f : StackFrame) {marks : List Mark} {tree : Tree} {w : P}
    (on : IsWalkingOn moves file W c before (fs ++ (f ∷ []), levels) (marks, tree) w) where
  abbrev pub top : Reference
  top = top_visit file tree.kind c fs

  pub frames : AreOpenFrames file tree.kind c c fs × IsOpenFrame file c top f
  frames = open_front file tree.kind c c fs f on.frames_are

  abbrev Left : List (Errand Way Event) → Type 0
  Left es = IsUnderway moves file (tree_walk file W c) before on.now es (marks, tree) w

  -- after the last step of a frame
  pub on_end : errands_from file top f.next ≡ [] → IsWalkingOn moves file W c before (fs, levels) (marks, tree) w
  on_end e = record {
    now = on.now;
    under = subst Left (left-push file tree.kind c fs f ∙ ap (λ es. es ++ left_over file tree.kind c fs) e) on.under;
    root = on.root;
    frames_are = frames.0;
    calls = calls_front fs f on.calls;
    read = read_front file levels 0 fs f on.read;
  }

  -- one step on
  module _ {g : StackFrame} (stepped : IsStepped f g) (within : suc f.next ≤ 3 * count frames.1.view + 2) where
    abbrev on_frames : List StackFrame
    on_frames = fs ++ (g ∷ [])

    abbrev rest : List (Errand Way Event)
    rest = left_over file tree.kind c on_frames

    open_on : AreOpenFrames file tree.kind c c on_frames
    open_on = open_push file tree.kind c c fs g frames.0 (record {
      page = stepped.page ∙ frames.1.page;
      view = frames.1.view;
      viewed = frames.1.viewed;
      interior = frames.1.interior;
      within = omega arith;
      up_to = stepped.up_to ∙ frames.1.up_to;
    })

    -- what stays, whatever is at the step
    turn : (now : Walk) (marks' : List Mark) (tree' : Tree) (x : P) → tree'.kind ≡ tree.kind → root_of now.visits c.address ≡ Some c
        → IsUnderway moves file (tree_walk file W c) before now rest (marks', tree') x
        → IsWalkingOn moves file W c before (on_frames, levels) (marks', tree') x
    turn now marks' tree' x kinds root under = record {
      now = now;
      under = subst (λ k. IsUnderway moves file (tree_walk file W c) before now (left_over file k c on_frames) (marks', tree') x) (sym kinds) under;
      root = root;
      frames_are = subst (λ k. AreOpenFrames file k c c on_frames) (sym kinds) open_on;
      calls = calls_on fs f g on.calls;
      read = read_on file levels f g stepped.page 0 fs on.read;
    }

    first_errands : (es : List (Errand Way Event)) → errands_from file top f.next ≡ es ++ errands_from file top (suc f.next) → Left (es ++ rest)
    first_errands es e = subst Left (left-push file tree.kind c fs f ∙ ap (λ l. l ++ left_over file tree.kind c fs) e
        ∙ append_assoc es (errands_from file top (suc f.next)) (left_over file tree.kind c fs)
        ∙ ap (λ n. es ++ (errands_from file top n ++ left_over file tree.kind c fs)) (sym stepped.next) ∙ ap (λ l. es ++ l) (sym (left-push file tree.kind c fs
        g)))
        on.under

    -- a step at which nothing is
    pub on_skip : errands_from file top f.next ≡ errands_from file top (suc f.next) → IsWalkingOn moves file W c before (on_frames, levels) (marks, tree) w
    on_skip e = turn on.now marks tree w refl on.root (first_errands [] e)

    -- the place of a readable cell's key, whether it has one or not
    module _ (n : ℕ) (cell : Cell) (x : P) (e : errands_from file top f.next ≡ report_cell top frames.1.view n cell ∷ errands_from file top (suc f.next)) where
      abbrev event : Event
      event = at_key top frames.1.view (n, cell)

      abbrev pub left : RowidBounds
      left = record { above = key_before frames.1.view n; up_to = cell.key }

      abbrev reported : List Item
      reported = map found (order_reported_of false (Some left) tree.greatest top.page n cell.key)

      items_are : items_of file on.now event ≡ reported
      items_are =
          let v = frames.1.view in
          let U = (advance file on.now event).visits in
          cell_items file top v n cell U on.now.state [] (no_row_inside file U top v (n, cell) frames.1.interior)
          ∙ ap (λ b. map found (order_reported_of (not b) (cond b (Some left) None) on.now.state.greatest top.page n cell.key)) frames.1.interior
          ∙ ap (λ top_key. map found (order_reported_of false (Some left) top_key top.page n cell.key)) (sym on.under.at.1)

      pub on_cell : (tree' : Tree) → tree'.kind ≡ tree.kind → tree'.greatest ≡ top_after tree.greatest top.page n cell.key → tree'.leaf ≡ tree.leaf
          → Moves moves w reported x
          → IsWalkingOn moves file W c before (on_frames, levels) (marks, tree') x
      on_cell tree' kinds tops leafs m = turn (advance file on.now event) marks tree' x kinds (root_stays on.now.visits [] c.address c on.root)
          (under_event moves file (tree_walk file W c) before on.now (marks, tree) (marks, tree') w x (record { key = _; event = event }) rest
          (first_errands (report_cell top frames.1.view n cell ∷ []) e) refl (
            subst (λ U. AreMarksOf file U marks) (sym (append-nil on.now.visits)) on.under.at.0,
            tops ∙ ap (λ top_key. top_after top_key top.page n cell.key) on.under.at.1 ∙ sym (greatest_behind file top frames.1.view n cell on.now),
            leafs ∙ on.under.at.2,
          )
          (subst (λ l. Moves moves w l x) (sym items_are) m))

    -- a reference
    module _ (d : Reference) (e : errands_from file top f.next ≡ Go d ∷ errands_from file top (suc f.next)) where
      -- all visits so far are before it
      pub next_is : IsNext on.now.visits d
      next_is u h i (inl j) = (first_errands (Go d ∷ []) e).past u h i (inl j)
      next_is u h i (inr j) = absurd j

      module _ (stops : P → Item → P → Type 0) (marks' : List Mark) (tree' : Tree) (x : P) where
        -- all below it is done by a call: a chain, or a child that is refused, or a leaf
        pub on_call : {A : Type 0} (a : A) → tree'.kind ≡ tree.kind → HasDone moves stops file (done_below file on.now (Go d ∷ [])) (Ok a) (marks', tree') w x
            → IsWalkingOn moves file W c before (on_frames, levels) (marks', tree') x
        on_call a kinds done = turn (run_below file on.now (Go d ∷ [])) marks' tree' x kinds (subst (λ V. root_of V c.address ≡ Some c)
            (sym ((has_steps file).visits on.now (Go d ∷ []) (quiet_go d)))
            (root_stays on.now.visits (visited_below file on.now.visits (Go d ∷ [])) c.address c on.root))
            (under_call moves file (tree_walk file W c) before on.now (marks, tree) (marks', tree') w x stops a (Go d ∷ []) rest (first_errands (Go d ∷ []) e)
            (quiet_go d) done)

        -- not all could be done
        pub call_stopped : {A : Type 0} (x_error : RunError)
            → HasDone {A = A} moves stops file (done_below file on.now (Go d ∷ [])) (Err x_error) (marks', tree') w x
            → StopsAt moves stops x_error before (tree_walk file W c).items x
        call_stopped x_error done = stop_call moves file (tree_walk file W c) before on.now (marks, tree) (marks', tree') w x stops x_error (Go d ∷ []) rest
            (first_errands (Go d ∷ []) e) (quiet_go d) done

        -- an interior child is entered, and gets a frame
        pub on_enter : (n : ℕ) (h : StackFrame) (levels' : List (List ℕ)) → tree'.kind ≡ tree.kind → f.next ≡ child_step n → d
            ≡ child_at file tree.kind top f.next → h.page ≡ d.page → h.next ≡ 0 → h.up_to ≡ key_from file c d → length d.address - 1 ≡ length on_frames
            → ((level : ℕ) → level < length on_frames → slice_get levels' level ≡ slice_get levels level)
            → HasDone moves stops file (entered file on.now d (Ok true)) (Ok true) (marks', tree') w x → IsInterior file on.now d levels'
            → IsWalkingOn moves file W c before (on_frames ++ (h ∷ []), levels') (marks', tree') x
        on_enter n h levels' kinds step is here zero bound deep kept done inside =
            let k = tree.kind in
            let at : g.next - 1 ≡ f.next = omega arith in
            let up : top_visit file k c on_frames ≡ d = top-push file k c fs g ∙ ap (λ n. child_at file k top n) at ∙ sym is in
            let pushed : left_over file k c (on_frames ++ (h ∷ [])) ≡ errands_of (story_of file) d ++ rest = left-push file k c on_frames h
            ∙ ap (λ r. errands_from file r h.next ++ rest) up ∙ ap (λ n. errands_from file d n ++ rest) zero
            ∙ ap (λ es. es ++ rest) (from_first file d k inside.view (ap (λ r. tree_kind (role_of r)) is) inside.viewed) in
            let frame : IsOpenFrame file c d h = record {
              page = here;
              view = inside.view;
              viewed = inside.viewed;
              interior = inside.interior;
              within = omega arith;
              up_to = bound;
            } in
            record {
              now = advance file on.now (at_page d);
              under = subst (λ k. IsUnderway moves file (tree_walk file W c) before (advance file on.now (at_page d))
                  (left_over file k c (on_frames ++ (h ∷ []))) (marks', tree') x) (sym kinds)
                  (subst (λ es. IsUnderway moves file (tree_walk file W c) before (advance file on.now (at_page d)) es (marks', tree') x) (sym pushed)
                  (under_visit moves file (tree_walk file W c) before on.now (marks, tree) (marks', tree') w x d rest (first_errands (Go d ∷ []) e)
                  inside.followed done.at done.handed));
              root = root_stays on.now.visits (d ∷ []) c.address c on.root;
              frames_are = subst (λ k. AreOpenFrames file k c c (on_frames ++ (h ∷ []))) (sym kinds)
                  (open_push file k c c on_frames h open_on (subst (λ r. IsOpenFrame file c r h) (sym up) frame));
              calls = calls_push fs g h n (stepped.next ∙ ap suc step) (calls_on fs f g on.calls);
              read = read_push file levels' 0 on_frames h (read_kept file levels levels' 0 on_frames (λ n l. kept n (omega arith))
                  (read_on file levels f g stepped.page 0 fs on.read))
                  (ap (slice_get levels') (let z : 0 + length on_frames ≡ length d.address - 1 = omega arith in z) ∙ inside.bytes
                  ∙ ap (λ p. Some (page_bytes file p)) (sym here));
            }
