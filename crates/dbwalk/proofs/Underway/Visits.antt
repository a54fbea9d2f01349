-- A reference that is looked at: refused, or visited, where what its page leads to is done next.
use Rattle.std.proofs.Common.{ℕ, ℤ, ◌<◌, inl, inr, List, [], ◌∷◌, ◌++◌, refl, sym, subst, ◌≡◌, Bool, true, false, map, Option, Some, Result, Ok, Err, ap, ap₂}
use Rattle.std.proofs.Common.{◌∙◌, OnOk, option_to_list}
use Rattle.dbwalk.proofs.Common.{Address, IsBefore, Reference, role_of, tree_kind, TreeKind, CellKey, AreBefore, Moves, Go, errands_of, is_followed, then_step}
use Rattle.dbwalk.proofs.Common.{SchemaRow, at_page, at_refused, story_of, rules_of, RunError, WriteFailed, Finding, reported_by, reported_row}
use Rattle.dbwalk.proofs.Common.{Item, found, key_up_to, refusal_of, key_value, leaf_after, rowids_by, Cause, FaultCode, Walk, bare, advance, run_below, IsNext}
use Rattle.dbwalk.proofs.Common.{refused_reported, AreMarksOf, page_findings, IsAt, HasDone, done_below, entered, IsEntered, watches, Handed}
use Rattle.dbwalk.proofs.Common.{Mark, Tree, Taken, IsIn-cases, TreeLeaf, append-nil, some_none, ReadFailed, has_steps}
use Rattle.dbsurvey.proofs.Order.{IsBefore-trans, IsBefore-beginning}
use Rattle.dbformat.specs.Laws.{event_row}
use Rattle.dbformat.specs.ReferenceFaults.{reference_faults}
use Rattle.dbwalk.proofs.Trees.Bounds.{key_up_to_itself}
use Rattle.dbwalk.proofs.Pages.PageReportings.{page_causes}
use Rattle.dbwalk.proofs.Underway.Handing.{done_none, done_on, found_moves}
use Rattle.dbtrace.specs.declared.Cause.TheVariants as cause

-- Places between the steps of a page.

-- places that begin with a step are before the next one
pub before_next : (a : Address) (s t : ℕ) (b : Address) → s < t → IsBefore (a ++ (s ∷ b)) (a ++ (t ∷ []))
before_next [] s t b l = inl l
before_next (x ∷ a) s t b l = inr (refl, before_next a s t b l)

-- all stay before a later place
pub before_later : (W : List Reference) (p q : Address) → IsBefore p q → AreBefore W p → AreBefore W q
before_later W p q l h u i = IsBefore-trans u.address p q (h u i) l

pub before_more : (W : List Reference) (d : Reference) (q : Address) → IsBefore d.address q → AreBefore W d.address → AreBefore (W ++ (d ∷ [])) q
before_more W d q l h u i = elim (IsIn-cases u W (d ∷ []) i) [
  | inl j ↦ IsBefore-trans u.address d.address q (h u j) l
  | inr j ↦ (elim j [ inl f ↦ subst (λ u. IsBefore u.address q) (sym f) l | inr k ↦ absurd k ])
]

-- A reference that is looked at: refused, or visited, where what its page leads to is done next.

-- the walk after the event of a refused reference, or of a visited page, with only its items
abbrev pub refused : List ℕ → Walk → Reference → Walk
refused file from c = advance file (bare from) (at_refused c)

abbrev pub visited : List ℕ → Walk → Reference → Walk
visited file from c = advance file (bare from) (at_page c)

module _ {P : Type 0} (moves : P → Item → P → Type 0) (stops : P → Item → P → Type 0) (file : List ℕ) (from : Walk) (c : Reference) where
  -- a reference that is refused leaves marks and state
  pub done_refused : {A : Type 0} (r : Result A RunError) (now : List Mark × Tree) (w x : P) → is_followed (rules_of file) from.visits c ≡ false
      → IsAt file from now.0 now.1
      → Handed moves stops r w (refused file from c).items x → HasDone moves stops file (done_below file from (Go c ∷ [])) r now w x
  done_refused {A = A} r now w x f at h = subst (λ m. HasDone moves stops file m r now w x) (sym whole) (record { at = on_ok r; handed = h })
    where
      whole : done_below file from (Go c ∷ []) ≡ refused file from c
      whole = (has_steps file).refused (bare from) c [] f ∙ (has_steps file).none (refused file from c)

      on_ok : (r : Result A RunError) → OnOk r (IsAt file (refused file from c) now.0 now.1)
      on_ok (Ok a) = (subst (λ V. AreMarksOf file V now.0) (sym (append-nil from.visits)) at.0, at.1, at.2)
      on_ok (Err e) = tt

  module _ (followed : is_followed (rules_of file) from.visits c ≡ true) where
    whole : done_below file from (Go c ∷ []) ≡ run_below file (visited file from c) (errands_of (story_of file) c)
    whole = (has_steps file).visit (bare from) c [] followed ∙ ap (run_below file (visited file from c)) (append-nil (errands_of (story_of file) c))

    -- the items of the page were handed out, and then what it leads to was done
    pub visit_then : {A : Type 0} (r : Result A RunError) (now : List Mark × Tree) (w x y : P) → Moves moves w (visited file from c).items x
        → HasDone moves stops file (done_below file (visited file from c) (errands_of (story_of file) c)) r now x y
        → HasDone moves stops file (done_below file from (Go c ∷ [])) r now w y
    visit_then r now w x y h k = subst (λ m. HasDone moves stops file m r now w y) (sym whole)
        (done_on moves stops file (visited file from c) (errands_of (story_of file) c) r now w x y h k)

    -- a page that leads to nothing
    pub visit_alone : {A : Type 0} (a : A) (now : List Mark × Tree) (w x : P) → errands_of (story_of file) c ≡ [] → IsAt file (visited file from c) now.0 now.1
        → Moves moves w (visited file from c).items x
        → HasDone moves stops file (done_below file from (Go c ∷ [])) (Ok a) now w x
    visit_alone a now w x none at h = visit_then (Ok a) now w x x h
        (rw none (done_none moves stops file (visited file from c) a now x at))

module _ {P : Type 0} (moves : P → Item → P → Type 0) (stops : P → Item → P → Type 0) (file : List ℕ) (from : Walk) (c : Reference)
    (levels : List (List ℕ)) where
  -- what a function that looks at a reference answers, where all below it is done
  pub entered_past : {A : Type 0} (a : A) (now : List Mark × Tree) (w x : P) → HasDone moves stops file (done_below file from (Go c ∷ [])) (Ok a) now w x
      → HasDone moves stops file (entered file from c (Ok false)) (Ok false) now w x × IsEntered file from c (Ok false) levels
  entered_past a now w x h = (record { at = h.at; handed = h.handed }, λ yes. cc)

  -- and after an error
  pub entered_err : {A : Type 0} (r : Result Bool RunError) (e : RunError) (now : List Mark × Tree) (w x : P) → r ≡ Err e
      → HasDone {A = A} moves stops file (done_below file from (Go c ∷ [])) (Err e) now w x
      → HasDone moves stops file (entered file from c r) r now w x × IsEntered file from c r levels
  entered_err r e now w x q h = rw q (record { at = tt; handed = h.handed }, tt)

-- all below the reference was done, where the answer is false
pub entered_done : {P A : Type 0} {moves : P → Item → P → Type 0} {stops : P → Item → P → Type 0} {file : List ℕ} (from : Walk) (c : Reference)
    {now : List Mark × Tree} {w x : P} {yes : Bool} (a : A)
    → yes ≡ false → HasDone moves stops file (entered file from c (Ok yes)) (Ok yes) now w x
    → HasDone moves stops file (done_below file from (Go c ∷ [])) (Ok a) now w x
entered_done {moves = moves} {stops = stops} {file = file} from c {now = now} {w = w} {x = x} a is h =
    let k = rw is at h in
    record { at = k.at; handed = k.handed }

-- what was done, from another name of the state, and to one
module _ {P A : Type 0} {moves stops : P → Item → P → Type 0} {file : List ℕ} {done : Walk} {r : Result A RunError} {now : List Mark × Tree} where
  pub done_from : {w x y : P} → w ≡ x → HasDone moves stops file done r now x y → HasDone moves stops file done r now w y
  done_from {y = y} same h = subst (λ w. HasDone moves stops file done r now w y) (sym same) h

  done_to : {w x y : P} → x ≡ y → HasDone moves stops file done r now w x → HasDone moves stops file done r now w y
  done_to {w = w} same h = subst (λ x. HasDone moves stops file done r now w x) same h

-- a page that could not be read
pub unread : {P A : Type 0} (moves : P → Item → P → Type 0) (stops : P → Item → P → Type 0) (file : List ℕ) (done : Walk) (now : List Mark × Tree)
    {w x : P} → w ≡ x → HasDone {A = A} moves stops file done (Err ReadFailed) now w x
unread moves stops file done now {w} same = done_to same (record { at = tt; handed = some_none moves w done.items })

-- a sink that was found shut
pub unasked : {P A : Type 0} (moves : P → Item → P → Type 0) (stops : P → Item → P → Type 0) (file : List ℕ) (done : Walk) (now : List Mark × Tree)
    {w x : P} → w ≡ x → HasDone {A = A} moves stops file done (Err WriteFailed) now w x
unasked moves stops file done now {w} same = done_to same (record { at = tt; handed = some_none moves w done.items })

-- the cause of a reference that is refused, by the greatest key so far and that of the innermost cell whose left child leads to it
abbrev pub rows_below : Option CellKey → Option ℤ → Cause
rows_below top up_to = cause.Rows (record { above = key_value top; up_to = up_to })

-- the reason against a reference, as the items of its refusal
pub refused_items : (file : List ℕ) (from : Walk) (c : Reference) {kind : TreeKind} → tree_kind (role_of c) ≡ Some kind
    → {top : Option CellKey} → top ≡ from.state.greatest → {up_to : Option ℤ} → key_up_to file (from.visits ++ (c ∷ [])) c ≡ up_to
    → (refused file from c).items ≡ map found (refused_reported file from.visits c (rows_below top up_to))
refused_items file from c {kind} role {top} top_is {up_to} bound =
    ap (λ U. map found (reported_by (λ (code : FaultCode). refusal_of file U c (rowids_by from.state (key_up_to file U c)) (tree_kind (role_of c)))
    (reference_faults file U c))) (append-nil from.visits)
    ∙ ap (λ k. map found (reported_by (λ (code : FaultCode). refusal_of file from.visits c (rowids_by from.state (key_up_to file from.visits c)) k)
    (reference_faults file from.visits c))) role
    ∙ ap₂ (λ t u. map found (refused_reported file from.visits c (rows_below t u))) (sym top_is) (sym (key_up_to_itself file from.visits c) ∙ bound)

pub refused_moves : {S T : Type 0} (takes : S → Finding → S → Type 0) (keeps : T → SchemaRow → Taken → T → Type 0)
    (refuses : T → SchemaRow → T → Type 0) (file : List ℕ) (from : Walk) (c : Reference) {kind : TreeKind} → tree_kind (role_of c) ≡ Some kind
    → {top : Option CellKey} → top ≡ from.state.greatest → {up_to : Option ℤ} → key_up_to file (from.visits ++ (c ∷ [])) c ≡ up_to
    → (s s' : S) (t : T) → Moves takes s (refused_reported file from.visits c (rows_below top up_to)) s'
    → Moves (watches takes keeps) (s, t) (refused file from c).items (s', t)
refused_moves takes keeps refuses file from c role {top} top_is {up_to} bound s s' t h =
    subst (λ items. Moves (watches takes keeps) (s, t) items (s', t)) (sym (refused_items file from c role top_is bound))
    (found_moves takes keeps refuses (refused_reported file from.visits c (rows_below top up_to)) s s' t h)

-- what was before a page is before what it leads to, and so is the page
pub visited_before : (file : List ℕ) (from : Walk) (c : Reference) → IsNext from.visits c → AreBefore (visited file from c).visits (then_step c.address 0)
visited_before file from c next = before_more from.visits c (then_step c.address 0) (IsBefore-beginning c.address 0 []) (λ u i. next u (Go c) i (inl refl))

-- a page that was visited, by the depth of the first leaf that a program keeps
module _ (file : List ℕ) (from : Walk) (c : Reference) {leaf : Option TreeLeaf} (leaf_is : leaf ≡ from.state.leaf) where
  -- and by the greatest key so far, and that of the innermost cell whose left child leads to it
  module _ {top : Option CellKey} (top_is : top ≡ from.state.greatest) {up_to : Option ℤ} (bound : key_up_to file (from.visits ++ (c ∷ [])) c ≡ up_to) where
    abbrev reported : List Finding
    reported = page_findings file (record { above = key_value top; up_to = up_to }) leaf c

    -- its findings are its items
    page_items : {kind : TreeKind} → tree_kind (role_of c) ≡ Some kind → (visited file from c).items ≡ map found reported
    page_items role =
        let U = from.visits ++ c ∷ [] in
        ap (λ L. map found (map reported_row (option_to_list (event_row file (at_page c))) ++ L)) (page_causes file U from.state c role)
        ∙ ap₂ (λ t u. map found (page_findings file (record { above = key_value t; up_to = u }) from.state.leaf c)) (sym top_is) bound
        ∙ ap (λ l. map found (page_findings file (record { above = key_value top; up_to = up_to }) l c)) (sym leaf_is)

    pub page_moves : {kind : TreeKind} → tree_kind (role_of c) ≡ Some kind
        → {S T : Type 0} (takes : S → Finding → S → Type 0) (keeps : T → SchemaRow → Taken → T → Type 0) (refuses : T → SchemaRow → T → Type 0)
        (s s' : S) (t : T) → Moves takes s reported s' → Moves (watches takes keeps) (s, t) (visited file from c).items (s', t)
    page_moves role takes keeps refuses s s' t h =
        subst (λ items. Moves (watches takes keeps) (s, t) items (s', t)) (sym (page_items role)) (found_moves takes keeps refuses reported s s' t h)

    -- and this is the point of the walk after it
    pub visited_at : {marks : List Mark} (tree : Tree) → AreMarksOf file (from.visits ++ (c ∷ [])) marks → tree.greatest ≡ from.state.greatest
        → tree.leaf ≡ leaf_after file leaf (record { above = key_value top; up_to = up_to }) c → IsAt file (visited file from c) marks tree
    visited_at tree m same first = (
      m,
      same,
      first ∙ ap (λ l. leaf_after file l (record { above = key_value top; up_to = up_to }) c) leaf_is
          ∙ ap₂ (λ t u. leaf_after file from.state.leaf (record { above = key_value t; up_to = u }) c) top_is (sym bound),
    )
