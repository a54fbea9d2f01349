-- The loop over the cells of a leaf: it passes over some cells at once, and a call does one.
use Rattle.std.proofs.Common.{◌≡◌, ℕ, zero, suc, ◌+◌, ◌-◌, ◌<◌, ◌≤◌, false, inl, inr, List, [], ◌∷◌, ◌++◌, Option, Some, None, Result, Ok, Err, refl, sym, ap}
use Rattle.std.proofs.Common.{subst, arith, ◌∙◌, append_assoc, flat_map, option_and_then, ◌==◌}
use Rattle.dbwalk.proofs.Common.{IsIn, IsBefore, AreQuiet, start_of, then_step, overflow_step, schema_start, cell, count, cell_errands, errands_before, View}
use Rattle.dbwalk.proofs.Common.{is_interior, Reference, SchemaRow, own_visit, TreeKind, RunError, Finding, visited_below, CellKey, Item, Walk, bare}
use Rattle.dbwalk.proofs.Common.{AreRisingFrom, overflow_errands, AreBefore, IsAt, done_below, IsVisitAt, watches, Mark, Tree, Taken, range_with_len, result_ok}
use Rattle.dbwalk.proofs.Common.{cases_order, flat_map-append, IsIn-cases, all_quiet, has_steps}
use Rattle.dbsurvey.proofs.Order.{IsBefore-trans}
use Rattle.dbformat.proofs.Looping.{one_cell_more, range-parts}
use Rattle.dbwalk.proofs.Leaves.LeafErrands.{read_overflow}
use Rattle.dbwalk.proofs.Underway.Visits.{before_next, before_later}
use Rattle.dbwalk.proofs.Reporting.Belows.{visited_none, below_begins}
use Rattle.dbwalk.proofs.Underway.Handing.{HasEnded, bare_visits, done_none, done_then, done_stops}
use Rattle.dbwalk.proofs.Underway.LeafCellRuns.{cell_visits}
use Rattle.dbwalk.proofs.Underway.CellSteps.{with_greatest, passed}

-- the part of the walk that is the first cells of a leaf
abbrev pub cells_done : List ℕ → Walk → Reference → TreeKind → View → ℕ → Walk
cells_done file from c kind v i = done_below file from (errands_before c kind v i)

-- the visit of the leaf, where what a program has is the same
pub leaf_as : {kind kind' : TreeKind} {k k' : ℕ} {children children' : List ℕ} {c : Reference} {p : ℕ} → kind' ≡ kind → k' ≡ k → children' ≡ children
    → IsVisitAt kind k children c p → IsVisitAt kind' k' children' c p
leaf_as a b d leaf = rw (a, b, d) leaf

-- cells from one on, after those before it
pub cells_after : (c : Reference) (kind : TreeKind) (v : View) (i n : ℕ) → errands_before c kind v (i + n) ≡ errands_before c kind v i
    ++ flat_map (cell_errands c kind v) (range_with_len i n)
cells_after c kind v i n = let e : 0 + i ≡ i = omega arith in
    ap (flat_map (cell_errands c kind v)) (range-parts 0 i n ∙ ap (λ a. range_with_len 0 i ++ range_with_len a n) e)
    ∙ flat_map-append (cell_errands c kind v) (range_with_len 0 i) (range_with_len i n)

module _ (file : List ℕ) (from : Walk) (c : Reference) (kind : TreeKind) (v : View) (leaf : is_interior v.kind ≡ false) where
  abbrev D : ℕ → Walk
  D i = cells_done file from c kind v i

  quiet_before : (i : ℕ) → AreQuiet own_visit (errands_before c kind v i)
  quiet_before i = all_quiet.1 c kind v i

  -- all visits so far are before the next cell
  chain_before : (i : ℕ) (U : List Reference) (o : Option (ℕ × ℕ)) → AreBefore U (then_step c.address (overflow_step i))
      → AreBefore (U ++ visited_below file U (overflow_errands c i o)) (then_step c.address (overflow_step (i + 1)))
  chain_before i U o before u m = elim (IsIn-cases u U (visited_below file U (overflow_errands c i o)) m) [
    | inl j ↦ before_later U (then_step c.address (overflow_step i)) (then_step c.address (overflow_step (i + 1)))
        (before_next c.address (overflow_step i) (overflow_step (i + 1)) [] (omega arith)) before u j
    | inr j ↦ by_chain o j
  ]
    where
      by_chain : (o : Option (ℕ × ℕ)) → IsIn u (visited_below file U (overflow_errands c i o))
          → IsBefore u.address (then_step c.address (overflow_step (i + 1)))
      by_chain None j = absurd (subst (λ L. IsIn u L) (visited_none file U) j)
      by_chain (Some o) j =
          let b = below_begins file U _ u j in
          subst (λ a. IsBefore a (then_step c.address (overflow_step (i + 1)))) (sym (b.1 ∙ append_assoc c.address (overflow_step i ∷ []) b.0))
          (before_next c.address (overflow_step i) (overflow_step (i + 1)) b.0 (omega arith))

  pub next_before : (i : ℕ) → AreBefore (D i).visits (then_step c.address (overflow_step i))
      → AreBefore (D (i + 1)).visits (then_step c.address (overflow_step (i + 1)))
  next_before i before =
      let o = read_overflow (result_ok (cell v i)) in
      let more = ap (λ es. (done_below file from es).visits) (one_cell_more c kind v i)
      ∙ ap (λ w. w.visits) ((has_steps file).join (bare from) (errands_before c kind v i) (cell_errands c kind v i) (quiet_before i))
      ∙ bare_visits file (D i) (cell_errands c kind v i)
      ∙ cell_visits file (D i) c kind v leaf i o refl (option_and_then (λ c. c.key) (result_ok (cell v i))) refl in
      subst (λ V. AreBefore V (then_step c.address (overflow_step (i + 1)))) (sym more) (chain_before i (D i).visits o before)

  -- cells that are passed over
  pub pass_is : (start_of c.address == schema_start) ≡ false → (i n : ℕ) → i + n ≤ count v → (after : Option CellKey)
      → AreRisingFrom c.page v i n (D i).state.greatest after → D (i + n) ≡ with_greatest (D i) after
  pass_is other i n l after rising = ap (done_below file from) (cells_after c kind v i n)
      ∙ (has_steps file).join (bare from) (errands_before c kind v i) (flat_map (cell_errands c kind v) (range_with_len i n)) (quiet_before i)
      ∙ passed file c kind v leaf other n i (D i) after l rising

  module _ {S T : Type 0} (takes : S → Finding → S → Type 0) (keeps : T → SchemaRow → Taken → T → Type 0) (stops : (S × T) → Item → (S × T) → Type 0)
      (w : S × T) where
    -- at the first cell
    pub cells_start : (now : List Mark × Tree) → IsAt file from now.0 now.1 → HasEnded (watches takes keeps) stops file (D 0) (Ok tt) now w w
    cells_start now at = done_none (watches takes keeps) stops file from tt now w at

    -- a cell more
    pub cells_more : (r : Result (Unit {0}) RunError) (i : ℕ) (mid now : List Mark × Tree) (x y : S × T)
        → HasEnded (watches takes keeps) stops file (D i) (Ok tt) mid w x
        → HasEnded (watches takes keeps) stops file (done_below file (D i) (cell_errands c kind v i)) r now x y
        → HasEnded (watches takes keeps) stops file (D (i + 1)) r now w y
    cells_more r i mid now x y h k = rw (one_cell_more c kind v i)
        (done_then (watches takes keeps) stops file from tt r (errands_before c kind v i) (cell_errands c kind v i) mid now w x y (quiet_before i) h k)

    -- an error in the first cells
    pub cells_stop : (e : RunError) (i : ℕ) (mid now : List Mark × Tree) (x : S × T) → i ≤ count v
        → HasEnded (watches takes keeps) stops file (D i) (Err e) mid w x → HasEnded (watches takes keeps) stops file (D (count v)) (Err e) now w x
    cells_stop e i mid now x l h =
        let n : i + (count v - i) ≡ count v = omega arith in
        subst (λ es. HasEnded (watches takes keeps) stops file (done_below file from es) (Err e) now w x)
        (sym (cells_after c kind v i (count v - i)) ∙ ap (errands_before c kind v) n)
        (done_stops (watches takes keeps) stops file from e (errands_before c kind v i) (flat_map (cell_errands c kind v) (range_with_len i (count v - i))) mid
        now w x (quiet_before i) h)

    -- The first cells are done, and all visits are before the next.
    abbrev OnCells : ℕ → List Mark × Tree → (S × T) → Type 0
    OnCells i now x = HasEnded (watches takes keeps) stops file (D i) (Ok tt) now w x × AreBefore (D i).visits (then_step c.address (overflow_step i))
        × (i ≤ count v)

    pub on_start : (now : List Mark × Tree) → IsAt file from now.0 now.1 → AreBefore from.visits (then_step c.address 0) → OnCells 0 now w
    on_start now at before =
        let none = (has_steps file).none (bare from) in (
          cells_start now at,
          subst (λ m. AreBefore m.visits (then_step c.address 0)) (sym none) before,
          omega arith,
        )

    pub on_more : (i : ℕ) (mid now : List Mark × Tree) (x y : S × T) → i < count v → OnCells i mid x
        → HasEnded (watches takes keeps) stops file (done_below file (D i) (cell_errands c kind v i)) (Ok tt) now x y → OnCells (i + 1) now y
    on_more i mid now x y l on k = (
      cells_more (Ok tt) i mid now x y on.0 k,
      next_before i on.1,
      omega arith,
    )

    pub on_stop : (e : RunError) (i : ℕ) (mid now : List Mark × Tree) (x y : S × T) → i < count v → OnCells i mid x
        → HasEnded (watches takes keeps) stops file (done_below file (D i) (cell_errands c kind v i)) (Err e) now x y
        → HasEnded (watches takes keeps) stops file (D (count v)) (Err e) now w y
    on_stop e i mid now x y l on k = cells_stop e (i + 1) now now y (omega arith) (cells_more (Err e) i mid now x y on.0 k)

    -- cells that are passed over
    pub on_pass : (i end : ℕ) (marks : List Mark) (old new : Tree) (x : S × T) → i ≤ end → end ≤ count v
        → (i < end → (start_of c.address == schema_start) ≡ false) → AreRisingFrom c.page v i (end - i) old.greatest new.greatest → new.leaf ≡ old.leaf
        → OnCells i (marks, old) x → OnCells end (marks, new) x
    on_pass i end marks old new x ahead within other rising deep on = by_gap (end - i) refl rising
      where
        same : (j : ℕ) → j ≡ i → new.greatest ≡ old.greatest → OnCells j (marks, new) x
        same j e g = subst (λ j. OnCells j (marks, new) x) (sym e)
            (record { at = (on.0.at.0, g ∙ on.0.at.1, deep ∙ on.0.at.2); handed = on.0.handed }, on.1, on.2)

        moved : (start_of c.address == schema_start) ≡ false → AreRisingFrom c.page v i (end - i) old.greatest new.greatest → OnCells end (marks, new) x
        moved f rising =
            let n : i + (end - i) ≡ end = omega arith in
            let all : D end ≡ with_greatest (D i) new.greatest = ap D (sym n)
            ∙ pass_is f i (end - i) (omega arith) new.greatest (subst (λ top. AreRisingFrom c.page v i (end - i) top new.greatest) on.0.at.1 rising) in (
              subst (λ m. HasEnded (watches takes keeps) stops file m (Ok tt) (marks, new) w x) (sym all)
                  (record { at = (on.0.at.0, refl, deep ∙ on.0.at.2); handed = on.0.handed }),
              subst (λ m. AreBefore m.visits (then_step c.address (overflow_step end))) (sym all)
                  (λ u j. by_end (overflow_step i) (overflow_step end) (omega arith) u (on.1 u j)),
              within,
            )
          where
            by_end : (s t : ℕ) → s ≤ t → (u : Reference) → IsBefore u.address (then_step c.address s) → IsBefore u.address (then_step c.address t)
            by_end s t l u h = elim (cases_order s t) [
              | inl e ↦ subst (λ n. IsBefore u.address (then_step c.address n)) e h
              | inr k ↦ (elim k [
                | inl m ↦ IsBefore-trans u.address (then_step c.address s) (then_step c.address t) h (before_next c.address s t [] m)
                | inr m ↦ absurd (omega arith)
              ])
            ]

        by_gap : (n : ℕ) → end - i ≡ n → AreRisingFrom c.page v i (end - i) old.greatest new.greatest → OnCells end (marks, new) x
        by_gap zero e rising = same end (omega arith) (subst (λ n. AreRisingFrom c.page v i n old.greatest new.greatest) e rising)
        by_gap (suc n) e rising = moved (other (omega arith)) rising

    pub on_end : (now : List Mark × Tree) (x : S × T) (i : ℕ) → i ≡ count v → OnCells i now x
        → HasEnded (watches takes keeps) stops file (D (count v)) (Ok tt) now w x
    on_end now x i e on = subst (λ n. HasEnded (watches takes keeps) stops file (D n) (Ok tt) now w x) e on.0
