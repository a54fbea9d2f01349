-- The point of a walk at which a part of it begins, by the state that the program keeps. What the part leaves is stated for all
-- visits and references at that point.
use Rattle.std.specs.Prelude.{◌≡◌, ℕ, ℤ, ◌<◌, ◌≤◌, true, false, List, [], ◌∷◌, ◌++◌, length, Option, Some, Result}
use Rattle.dbsurvey.specs.InOrder.{IsPast}
use Rattle.dbsurvey.specs.Traverse.{is_followed}
use Rattle.dbformat.specs.Address.{then_step, overflow_step}
use Rattle.dbformat.specs.File.{geometry, page_bytes}
use Rattle.dbformat.specs.Head.{View, is_interior}
use Rattle.dbformat.specs.Reference.{Reference, tree_view}
use Rattle.dbformat.specs.Survey.{rules_of}
use Rattle.dbformat.specs.declared.Geometry.{Geometry}
use Rattle.dbformat.specs.declared.TreeKind.{TreeKind}
use Rattle.dbwalk.specs.Entered.{IsNext}
use Rattle.dbtrace.specs.Causes.{cell_rowid, key_up_to}
use Rattle.dbtrace.specs.Item.{Item}
use Rattle.dbtrace.specs.Walk.{Walk}
use Rattle.dbwalk.specs.Found.{HasPageAt}
use Rattle.dbwalk.specs.LeafCells.{overflow_errands, AreBefore}
use Rattle.dbmarks.specs.Marking.{AreMarksOf}
use Rattle.dbsource.specs.declared.error.RunError.{RunError}
use Rattle.dbwalk.specs.Underway.{HasTurned, IsAt, IsWalkingOn}
use Rattle.dbwalk.specs.Walking.{AreOpen, IsCandidate, IsVisitAt, cost, path_of}
use Rattle.dbwalk.specs.Steps.{HasNext}
use Rattle.dbwalk.specs.declared.steps.Next.{Next}
use Rattle.dbwalk.specs.declared.steps.StackFrame.{StackFrame}
use Rattle.dbmarks.specs.declared.marks.Mark.{Mark}
use Rattle.dbwalk.specs.declared.cells.LeafCell.{LeafCell}
use Rattle.dbwalk.specs.declared.leaf.CellPlace.{CellPlace}
use Rattle.dbwalk.specs.declared.state.Tree.{Tree}
use Rattle.dbwalk.specs.declared.tree_walk.TreeWalk.{TreeWalk}

-- at the overflow chain of cell i of a leaf
abbrev pub AtOverflow : List ℕ → Tree → CellPlace → LeafCell → List Mark → (Walk → Reference → Type 0) → Type 0
AtOverflow file tree place read marks leaves = (from : Walk) (c : Reference) → IsVisitAt tree.kind tree.start tree.path.items c place.page
    → cell_rowid file place.page place.item ≡ read.key → IsPast from.visits (overflow_errands c place.item read.overflow) → IsAt file from marks tree
    → leaves from c

-- at a cell of an undamaged leaf with this view
abbrev pub AtCell : {A S K T : Type 0} → List ℕ → View → CellPlace → TreeWalk A S K T → (Walk → Reference → Type 0) → Type 0
AtCell file v place walk leaves = (from : Walk) (c : Reference) → IsVisitAt walk.tree.kind walk.tree.start walk.tree.path.items c place.page
    → tree_view file c ≡ Some v → is_interior v.kind ≡ false → AreBefore from.visits (then_step c.address (overflow_step place.item))
    → IsAt file from walk.marks.now walk.tree → leaves from c

-- at the first cell of an undamaged leaf with these bytes
abbrev pub AtLeaf : {A S K T : Type 0} → List ℕ → List ℕ → ℕ → TreeWalk A S K T → (Walk → Reference → Type 0) → Type 0
AtLeaf file bytes page walk leaves = (from : Walk) (c : Reference) (v : View) → IsVisitAt walk.tree.kind walk.tree.start walk.tree.path.items c page
    → bytes ≡ page_bytes file page → tree_view file c ≡ Some v → is_interior v.kind ≡ false → AreBefore from.visits (then_step c.address 0)
    → IsAt file from walk.marks.now walk.tree → leaves from c

-- at a page of a tree that was read, as far as what is reported of it requires
abbrev pub AtRead : Geometry → Tree → List (List ℕ) → ℕ → (List ℕ → Reference → Type 0) → Type 0
AtRead g tree levels page leaves = (file : List ℕ) (c : Reference) (from item : ℕ) → g ≡ geometry file
    → IsCandidate tree.kind tree.start tree.path.items page from item c
    → HasPageAt levels (length tree.path.items) (page_bytes file page) → leaves file c

-- at a page of a tree that was marked, and then read; `up_to` is the key of the innermost cell whose left child leads to it
abbrev pub AtPage : {A S K T : Type 0} → List ℕ → List (List ℕ) → ℕ → Option ℤ → TreeWalk A S K T → (Walk → Reference → Type 0) → Type 0
AtPage file levels page up_to walk leaves = (from : Walk) (c : Reference) (above item : ℕ)
    → IsCandidate walk.tree.kind walk.tree.start walk.tree.path.items page above item c
    → HasPageAt levels (length walk.tree.path.items) (page_bytes file page) → IsNext from.visits c → is_followed (rules_of file) from.visits c ≡ true
    → AreMarksOf file (from.visits ++ (c ∷ [])) walk.marks.now → walk.tree.greatest ≡ from.state.greatest → walk.tree.leaf ≡ from.state.leaf
    → key_up_to file (from.visits ++ (c ∷ [])) c ≡ up_to → leaves from c

-- at the next step of the last of some frames, where the sink and the taker were `before` at first
abbrev pub AtStep : {A S K T : Type 0} → ((K × T) → Item → (K × T) → Type 0) → List ℕ → List (List ℕ) → List StackFrame → TreeWalk A S K T
    → (List Reference → Reference → (K × T) → Type 0) → Type 0
AtStep {K = K} {T = T} moves file levels frames walk leaves = (W : List Reference) (c : Reference) (before : K × T)
    → IsCandidate walk.tree.kind walk.tree.start [] c.page 0 walk.tree.start c
    → IsWalkingOn moves file W c before (frames, levels) (walk.marks.now, walk.tree) (walk.sink.now, walk.taker.now) → leaves W c before

-- what a turn leaves that began at the next step of the last of some frames, with these page buffers
abbrev pub TakesTurn : {A S K T : Type 0} → ((K × T) → Item → (K × T) → Type 0) → ((K × T) → Item → (K × T) → Type 0) → List ℕ
    → Result (Unit {0}) RunError → (List StackFrame × List (List ℕ)) → TreeWalk A S K T → (List StackFrame × List (List ℕ)) → TreeWalk A S K T → Type 0
TakesTurn moves stops file r before old after new = AtStep moves file before.1 before.0 old (λ W c at.
    HasTurned moves stops file (W, c, at) r after (new.marks.now, new.tree) (new.sink.now, new.taker.now))

-- at the root of a tree that was marked, and read; no page of the tree was visited before
abbrev pub AtRoot : {A S K T : Type 0} → List ℕ → List (List ℕ) → ℕ → TreeWalk A S K T → (List Reference → Reference → Type 0) → Type 0
AtRoot file levels page walk leaves = (W : List Reference) (c : Reference) → IsCandidate walk.tree.kind walk.tree.start [] page 0 walk.tree.start c
    → HasPageAt levels 0 (page_bytes file page) → is_followed (rules_of file) W c ≡ true → IsNext W c → AreMarksOf file (W ++ (c ∷ [])) walk.marks.now
    → leaves W c

-- only the greatest key of a tree's state may have changed
abbrev pub IsSameButGreatest : Tree → Tree → Type 0
IsSameButGreatest old new = (new.start ≡ old.start) × (new.kind ≡ old.kind) × (new.leaf ≡ old.leaf) × (new.path ≡ old.path)

-- only its first leaf may have changed
abbrev pub IsSameButLeaf : Tree → Tree → Type 0
IsSameButLeaf old new = (new.start ≡ old.start) × (new.kind ≡ old.kind) × (new.greatest ≡ old.greatest) × (new.path ≡ old.path)

-- A turn begins: a frame was taken from the stack, above these, and this is what its page has at its step.
pub record IsAtTurn (usable : ℕ) (kind : TreeKind) (levels : List (List ℕ)) (way : List ℕ) (frames : List StackFrame) (frame : StackFrame)
    (next : Next) : Type 0 where
  pub few : length frames < 20
  pub opened : AreOpen usable kind levels 0 (frames ++ (frame ∷ []))
  pub path : way ≡ path_of frames
  pub step : HasNext usable kind levels (length frames) frame.page frame.next next

-- what a turn leaves of the frames, by the frames below and the one that was taken: they are open, the way ends at the last, and fewer turns are left
pub record LeavesFrames (usable : ℕ) (levels : List (List ℕ)) (below : List StackFrame) (taken : StackFrame) (frames : List StackFrame)
    (old new : List Mark) (tree : Tree) : Type 0 where
  pub few : length frames ≤ 20
  pub opened : AreOpen usable tree.kind levels 0 frames
  pub path : (fs : List StackFrame) (f : StackFrame) → frames ≡ fs ++ (f ∷ []) → tree.path.items ≡ path_of fs
  pub ends : cost new frames < cost old (below ++ (taken ∷ []))
