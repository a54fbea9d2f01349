-- A walk under way: what the calls that it makes have done, and what its loop over the interior pages of a tree keeps.
use Rattle.std.specs.Prelude.{◌≡◌, ℕ, ◌-◌, List, [], ◌∷◌, length, Bool, true, false, Some, Result, Ok, Err, OnOk, IfOk, IsTrue, slice_get, IfErr}
use Rattle.dbsurvey.specs.InOrder.{IsPast}
use Rattle.dbsurvey.specs.Moves.{Moves}
use Rattle.dbsurvey.specs.Story.{Errand, Go, AreErrandsApart}
use Rattle.dbsurvey.specs.Traverse.{is_followed}
use Rattle.dbformat.specs.File.{page_bytes}
use Rattle.dbformat.specs.Head.{View, is_interior}
use Rattle.dbformat.specs.Reference.{Way, Reference, tree_view}
use Rattle.dbformat.specs.Story.{Event, at_page}
use Rattle.dbformat.specs.Survey.{rules_of}
use Rattle.dbsource.specs.declared.error.RunError.{RunError}
use Rattle.dbtrace.specs.Causes.{root_of}
use Rattle.dbtrace.specs.Item.{Item}
use Rattle.dbtrace.specs.Walk.{Walk, bare, advance, run_below, begin}
use Rattle.dbmarks.specs.Marking.{AreMarksOf}
use Rattle.dbwalk.specs.Walking.{left_over, AreCalls, AreOpenFrames, AreRead}
use Rattle.dbwalk.specs.Watching.{Handed, StopsAt}
use Rattle.dbmarks.specs.declared.marks.Mark.{Mark}
use Rattle.dbwalk.specs.declared.state.Tree.{Tree}
use Rattle.dbwalk.specs.declared.steps.StackFrame.{StackFrame}

-- marks and a tree's state are those of a walk up to this point
abbrev pub IsAt : List ℕ → Walk → List Mark → Tree → Type 0
IsAt file now marks tree = AreMarksOf file now.visits marks × (tree.greatest ≡ now.state.greatest) × (tree.leaf ≡ now.state.leaf)

-- the walk from a point on, by all that is below some errands, with the items of this part only
abbrev pub done_below : List ℕ → Walk → List (Errand Way Event) → Walk
done_below file from errands = run_below file (bare from) errands

-- What a call has done, where `done` is the call's own part of the walk. At Ok marks and state are those after it, and all its
-- items were handed out; after an error, a beginning of them.
pub record HasDone {P A : Type 0} (moves : P → Item → P → Type 0) (stops : P → Item → P → Type 0)
    (file : List ℕ) (done : Walk) (r : Result A RunError) (now : List Mark × Tree) (before after : P) : Type 0 where
  pub at : OnOk r (IsAt file done now.0 now.1)
  pub handed : Handed moves stops r before done.items after

-- the part of the walk that is done when a reference was looked at: only the page, or all that is below the reference
abbrev pub entered : List ℕ → Walk → Reference → Result Bool RunError → Walk
entered file from c (Ok true) = advance file (bare from) (at_page c)
entered file from c (Ok false) = done_below file from (Go c ∷ [])
entered file from c (Err e) = done_below file from (Go c ∷ [])

-- if the answer is true, it was followed to an undamaged interior page, whose bytes are at its level
pub record IsInterior (file : List ℕ) (from : Walk) (c : Reference) (levels : List (List ℕ)) : Type 0 where
  pub followed : is_followed (rules_of file) from.visits c ≡ true
  pub view : View
  pub viewed : tree_view file c ≡ Some view
  pub interior : is_interior view.kind ≡ true
  pub bytes : slice_get levels (length c.address - 1) ≡ Some (page_bytes file c.page)

abbrev pub IsEntered : List ℕ → Walk → Reference → Result Bool RunError → List (List ℕ) → Type 0
IsEntered file from c r levels = IfOk r (λ yes. IsTrue yes → IsInterior file from c levels)

-- A walk is at a point from which what is left completes it: marks and state are those of the point, and the items so far were
-- handed out.
pub record IsUnderway {P : Type 0} (moves : P → Item → P → Type 0) (file : List ℕ) (whole : Walk) (before : P) (now : Walk)
    (left : List (Errand Way Event)) (state : List Mark × Tree) (w : P) : Type 0 where
  pub rest : run_below file now left ≡ whole
  pub at : IsAt file now state.0 state.1
  pub past : IsPast now.visits left
  pub apart : AreErrandsApart left
  pub handed : Moves moves before now.items w

-- the walk over the tree of a start, after the visits of W
abbrev pub tree_walk : List ℕ → List Reference → Reference → Walk
tree_walk file W c = run_below file (begin W) (Go c ∷ [])

-- The walk over the tree of a start is under way, and only what the frames still have to do is left. Their pages are at their
-- levels.
pub record IsWalkingOn {P : Type 0} (moves : P → Item → P → Type 0) (file : List ℕ) (W : List Reference) (c : Reference) (before : P)
    (stack : List StackFrame × List (List ℕ)) (state : List Mark × Tree) (w : P) : Type 0 where
  pub now : Walk
  pub under : IsUnderway moves file (tree_walk file W c) before now (left_over file state.1.kind c stack.0) state w
  pub root : root_of now.visits c.address ≡ Some c
  pub frames_are : AreOpenFrames file state.1.kind c c stack.0
  pub calls : AreCalls stack.0
  pub read : AreRead file stack.1 0 stack.0

-- What a turn of the loop leaves: the walk is still under way, or an error stopped it.
abbrev pub HasTurned : {P : Type 0} → (P → Item → P → Type 0) → (P → Item → P → Type 0) → List ℕ → (List Reference × Reference × P)
    → Result (Unit {0}) RunError → (List StackFrame × List (List ℕ)) → (List Mark × Tree) → P → Type 0
HasTurned moves stops file of r stack state w = OnOk r (IsWalkingOn moves file of.0 of.1 of.2 stack state w)
    × IfErr r (λ e. StopsAt moves stops e of.2 (tree_walk file of.0 of.1).items w)
