-- What the walk over one tree keeps, and what entering a page of it leaves.
use Rattle.std.specs.Prelude.{◌≡◌, ℕ, ◌+◌, ◌-◌, ◌*◌, ◌≤◌, true, List, [], ◌∷◌, length, map, Some, None, slice_get, suc, ◌++◌, filter, nat_le, unwrap_or}
use Rattle.dbformat.specs.FixedPages.{IsPageNumber}
use Rattle.dbformat.specs.Head.{View, undamaged, is_interior}
use Rattle.dbformat.specs.Cell.{count, child_number}
use Rattle.dbformat.specs.File.{page_bytes}
use Rattle.dbformat.specs.Address.{start_of, cell_of_step, child_path, chain_place, then_step, child_step}
use Rattle.dbformat.specs.Reference.{Role, root, child, Reference, role_of, tree_kind, Way, tree_view}
use Rattle.dbformat.specs.declared.TreeKind.{TreeKind}
use Rattle.dbmarks.specs.declared.marks.Mark.{Mark}
use Rattle.dbmarks.specs.Marking.{unmarked_pages}
use Rattle.dbtrace.specs.Causes.{key_from}
use Rattle.dbwalk.specs.declared.steps.StackFrame.{StackFrame}
use Rattle.std.specs.Option.{option_map_or}
use Rattle.dbsurvey.specs.Story.{step_of, Errand, errands_at}
use Rattle.dbformat.specs.Story.{Event, story_of}

-- the role of a page of a tree, by whether it is the root
abbrev pub role_at : TreeKind → List ℕ → Role
role_at kind [] = root kind
role_at kind (n ∷ path) = child kind

-- a reference to a page of the tree, by the children on the way to it
pub record IsCandidate (kind : TreeKind) (k : ℕ) (children : List ℕ) (p from item : ℕ) (c : Reference) : Type 0 where
  pub page : c.page ≡ p
  pub way : c.role ≡ record { role = role_at kind children; from = from; item = item }
  pub start : start_of c.address ≡ k
  pub depth : length c.address ≡ length children + 1
  pub path : child_path c.address ≡ children
  pub chain : chain_place c.address ≡ None

-- the numbers of the children on the way to the page after the last of some frames
abbrev pub path_of : List StackFrame → List ℕ
path_of frames = map (λ f. cell_of_step (f.next - 1)) frames

-- the frame one step on
pub record IsStepped (f g : StackFrame) : Type 0 where
  pub page : g.page ≡ f.page
  pub next : g.next ≡ suc f.next
  pub up_to : g.up_to ≡ f.up_to

-- the pages of the frames are at their levels
abbrev pub AreRead : List ℕ → List (List ℕ) → ℕ → List StackFrame → Type 0
AreRead file levels level [] = Unit {0}
AreRead file levels level (f ∷ fs) = (slice_get levels level ≡ Some (page_bytes file f.page)) × AreRead file levels (level + 1) fs

-- A page has at most 32768 cells, so a frame has at most 98306 steps. A bound on the turns that the frames still take:
abbrev pub frames_cost : List StackFrame → ℕ
frames_cost [] = 0
frames_cost (f ∷ fs) = (98310 - f.next) + frames_cost fs

-- a bound on the turns that are left, on any source
abbrev pub cost : List Mark → List StackFrame → ℕ
cost marks frames = unmarked_pages marks * 98312 + frames_cost frames

-- On any source: the bytes at a frame's level are those of an undamaged interior page, and the frame is at one of its steps, or
-- after them.
pub record IsOpen (usable : ℕ) (kind : TreeKind) (levels : List (List ℕ)) (level page next : ℕ) : Type 0 where
  pub low : IsPageNumber page
  pub bytes : List ℕ
  pub there : slice_get levels level ≡ Some bytes
  pub view : View
  pub viewed : undamaged kind page usable bytes ≡ Some view
  pub interior : is_interior view.kind ≡ true
  pub within : next ≤ 3 * count view + 2

-- the same of each frame
abbrev pub AreOpen : ℕ → TreeKind → List (List ℕ) → ℕ → List StackFrame → Type 0
AreOpen usable kind levels level [] = Unit {0}
AreOpen usable kind levels level (f ∷ fs) = IsOpen usable kind levels level f.page f.next × AreOpen usable kind levels (level + 1) fs

-- the visit of a page of a tree
pub record IsVisitAt (kind : TreeKind) (k : ℕ) (children : List ℕ) (c : Reference) (p : ℕ) : Type 0 where
  pub page : c.page ≡ p
  pub kind_is : tree_kind (role_of c) ≡ Some kind
  pub start : start_of c.address ≡ k
  pub depth : length c.address ≡ length children + 1
  pub path : child_path c.address ≡ children
  pub chain : chain_place c.address ≡ None

-- A walk with a stack of frames, and what is left of it.

-- what a visited page leads to, from a step on
abbrev pub errands_from : List ℕ → Reference → ℕ → List (Errand Way Event)
errands_from file r s = errands_at r.address (filter (λ i. nat_le s (step_of i)) ((story_of file).items r))

-- the page of child i of a visited page, 0 where there is none
abbrev pub child_page : List ℕ → Reference → ℕ → ℕ
child_page file r i = option_map_or (λ v. unwrap_or (child_number v i) 0) (tree_view file r) 0

-- the child that a visited page has at a step
abbrev pub child_at : List ℕ → TreeKind → Reference → ℕ → Reference
child_at file kind r s = record {
  address = then_step r.address s;
  page = child_page file r (cell_of_step s);
  role = record { role = child kind; from = r.page; item = cell_of_step s };
}

-- Frames from the root's on, where r is the visit of the first. Each but the last is after the step of the child whose frame
-- comes next. This is the visit of a frame that is put on them.
abbrev pub top_visit : List ℕ → TreeKind → Reference → List StackFrame → Reference
top_visit file kind r [] = r
top_visit file kind r (f ∷ fs) = top_visit file kind (child_at file kind r (f.next - 1)) fs

-- what the frames still have to do, that of the last one first
abbrev pub left_over : List ℕ → TreeKind → Reference → List StackFrame → List (Errand Way Event)
left_over file kind r [] = []
left_over file kind r (f ∷ fs) = left_over file kind (child_at file kind r (f.next - 1)) fs ++ errands_from file r f.next

-- the frame of an undamaged interior page of the tree whose root is visited as u, at one of its steps or after them
pub record IsOpenFrame (file : List ℕ) (u r : Reference) (f : StackFrame) : Type 0 where
  pub page : f.page ≡ r.page
  pub view : View
  pub viewed : tree_view file r ≡ Some view
  pub interior : is_interior view.kind ≡ true
  pub within : f.next ≤ 3 * count view + 2
  pub up_to : f.up_to ≡ key_from file u r

-- the same of each frame
abbrev pub AreOpenFrames : List ℕ → TreeKind → Reference → Reference → List StackFrame → Type 0
AreOpenFrames file kind u r [] = Unit {0}
AreOpenFrames file kind u r (f ∷ fs) = IsOpenFrame file u r f × AreOpenFrames file kind u (child_at file kind r (f.next - 1)) fs

-- each frame but the last is after the step of a child
abbrev pub AreCalls : List StackFrame → Type 0
AreCalls [] = Unit {0}
AreCalls (f ∷ []) = Unit {0}
AreCalls (f ∷ g ∷ fs) = ((n : ℕ) × (f.next ≡ suc (child_step n))) × AreCalls (g ∷ fs)
