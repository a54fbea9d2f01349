-- Frames: the pages at their levels, on any source and of a file, a bound on the turns that they still take, the way to the
-- page after them, and a step of the last.
use Rattle.std.proofs.Common.{◌≡◌, ℕ, suc, ◌+◌, ◌<◌, List, [], ◌∷◌, ◌++◌, length, Some, refl, ap, arith, ◌∙◌, ◌-◌, ◌*◌, ◌≤◌, Result, Ok, Err, sym, subst, take}
use Rattle.std.proofs.Common.{slice_get, OnOk}
use Rattle.dbwalk.proofs.Common.{child_step, cell_of_step, page_bytes, IsAtTurn, AreCalls, AreRead, IsOpen, IsStepped, AreOpen, cost, path_of, StackFrame}
use Rattle.dbwalk.proofs.Common.{IsPageNumber, count, undamaged, View, TreeKind, unmarked_pages, Mark, IsEmptyAt, no_chain, no_child, without_key, IsNextStep}
use Rattle.dbwalk.proofs.Common.{HasNext, Next, End, Nothing, Key, Tree, common_steps, length-map, length-append, unreadable}
use Rattle.dbwalk.specs.Points.{LeavesFrames}
use Rattle.dbwalk.specs.Walking.{frames_cost}
use Rattle.std.proofs.lemmas.List.{map-append}
use Rattle.dbformat.specs.FixedPages.{most_pages}
use Rattle.dbwalk.specs.declared.steps.Next.TheVariants.{Chain, Child}

-- Frames and the pages at their levels, as a turn changes them.

-- what is found at a step, unless it is the end
abbrev IsOn : Next → Type 0
IsOn End = ⊥
IsOn _ = Unit

pub goes_on : (n : Next) → IsOn n → n ≡ End → ⊥
goes_on n on e = subst IsOn e on

-- lists that end alike

no_end : {X : Type 0} (xs : List X) (x : X) → [] ≡ xs ++ (x ∷ []) → ⊥
no_end [] x e = cc
no_end (y ∷ xs) x e = cc

pub last_same : {X : Type 0} (xs ys : List X) (x y : X) → xs ++ (x ∷ []) ≡ ys ++ (y ∷ []) → (xs ≡ ys) × (x ≡ y)
last_same [] [] x y e = (refl, cc)
last_same [] (z ∷ ys) x y e = absurd (no_end ys y (let t : [] ≡ ys ++ (y ∷ []) = cc in t))
last_same (z ∷ xs) [] x y e = absurd (no_end xs x (let t : [] ≡ xs ++ (x ∷ []) = cc in t))
last_same (z ∷ xs) (w ∷ ys) x y e =
    let f : z ≡ w = cc in
    let g : xs ++ (x ∷ []) ≡ ys ++ (y ∷ []) = cc in
    let m = last_same xs ys x y g in
    ((let h = m.0 in cc), m.1)

-- pages at their levels

pub read_front : (file : List ℕ) (levels : List (List ℕ)) (level : ℕ) (fs : List StackFrame) (f : StackFrame) → AreRead file levels level (fs ++ (f ∷ []))
    → AreRead file levels level fs
read_front file levels level [] f r = tt
read_front file levels level (g ∷ fs) f r = (r.0, read_front file levels (level + 1) fs f r.1)

pub read_push : (file : List ℕ) (levels : List (List ℕ)) (level : ℕ) (fs : List StackFrame) (f : StackFrame) → AreRead file levels level fs
    → slice_get levels (level + length fs) ≡ Some (page_bytes file f.page) → AreRead file levels level (fs ++ (f ∷ []))
read_push file levels level [] f r e = (ap (slice_get levels) (let n : level ≡ level + 0 = omega arith in n) ∙ e, tt)
read_push file levels level (g ∷ fs) f r e = (
  r.0,
  read_push file levels (level + 1) fs f r.1 (ap (slice_get levels) (let n : level + 1 + length fs ≡ level + suc (length fs) = omega arith in n) ∙ e),
)

pub read_kept : (file : List ℕ) (old new : List (List ℕ)) (level : ℕ) (fs : List StackFrame)
    → ((n : ℕ) → n < level + length fs → slice_get new n ≡ slice_get old n) → AreRead file old level fs → AreRead file new level fs
read_kept file old new level [] same r = tt
read_kept file old new level (f ∷ fs) same r = (same level (omega arith) ∙ r.0, read_kept file old new (level + 1) fs (λ n l. same n (omega arith)) r.1)

-- frames below others are after the step of a child

pub calls_front : (fs : List StackFrame) (f : StackFrame) → AreCalls (fs ++ (f ∷ [])) → AreCalls fs
calls_front [] f a = tt
calls_front (g ∷ []) f a = tt
calls_front (g ∷ h ∷ fs) f a = (a.0, calls_front (h ∷ fs) f a.1)

pub calls_on : (fs : List StackFrame) (f g : StackFrame) → AreCalls (fs ++ (f ∷ [])) → AreCalls (fs ++ (g ∷ []))
calls_on [] f g a = tt
calls_on (h ∷ []) f g a = (a.0, tt)
calls_on (h ∷ i ∷ fs) f g a = (a.0, calls_on (i ∷ fs) f g a.1)

pub calls_push : (fs : List StackFrame) (g h : StackFrame) (n : ℕ) → g.next ≡ suc (child_step n) → AreCalls (fs ++ (g ∷ []))
    → AreCalls ((fs ++ (g ∷ [])) ++ (h ∷ []))
calls_push [] g h n e a = ((n, e), tt)
calls_push (i ∷ []) g h n e a = (a.0, ((n, e), tt))
calls_push (i ∷ j ∷ fs) g h n e a = (a.0, calls_push (j ∷ fs) g h n e a.1)

-- Frames, on any source: the bytes at their levels, a bound on the turns that they still take, and the way to the page after
-- them.

pub on_ok_all : {A E : Type 0} (r : Result A E) {Q : Type 0} → Q → OnOk r Q
on_ok_all (Ok x) q = q
on_ok_all (Err e) q = tt

-- open frames

module _ (usable : ℕ) (kind : TreeKind) (levels : List (List ℕ)) where
  pub open_front : (level : ℕ) (fs : List StackFrame) (f : StackFrame) → AreOpen usable kind levels level (fs ++ (f ∷ [])) → AreOpen usable kind levels level fs
      × IsOpen usable kind levels (level + length fs) f.page f.next
  open_front level [] f a = (tt, subst (λ n. IsOpen usable kind levels n f.page f.next) (let e : level ≡ level + 0 = omega arith in e) a.0)
  open_front level (g ∷ fs) f a =
      let m = open_front (level + 1) fs f a.1 in
      ((a.0, m.0), subst (λ n. IsOpen usable kind levels n f.page f.next) (let e : level + 1 + length fs ≡ level + suc (length fs) = omega arith in e) m.1)

  pub open_push : (level : ℕ) (fs : List StackFrame) (f : StackFrame) → AreOpen usable kind levels level fs
      → IsOpen usable kind levels (level + length fs) f.page f.next
      → AreOpen usable kind levels level (fs ++ (f ∷ []))
  open_push level [] f a o = (subst (λ n. IsOpen usable kind levels n f.page f.next) (let e : level + 0 ≡ level = omega arith in e) o, tt)
  open_push level (g ∷ fs) f a o = (
    a.0,
    open_push (level + 1) fs f a.1
        (subst (λ n. IsOpen usable kind levels n f.page f.next) (let e : level + suc (length fs) ≡ level + 1 + length fs = omega arith in e) o),
  )

  -- a frame a step on
  pub open_on : (level : ℕ) (f g : StackFrame) → g.page ≡ f.page → g.next ≡ suc f.next → (o : IsOpen usable kind levels level f.page f.next)
      → suc f.next ≤ 3 * count o.view + 2 → IsOpen usable kind levels level g.page g.next
  open_on level f g page next o within = record {
    low = subst (λ p. p ≤ most_pages) (sym page) o.low;
    bytes = o.bytes;
    there = o.there;
    view = o.view;
    viewed = ap (λ p. undamaged kind p usable o.bytes) page ∙ o.viewed;
    interior = o.interior;
    within = subst (λ n. n ≤ 3 * count o.view + 2) (sym next) within;
  }

  -- where the bytes at the levels stay
  module _ (usable' : ℕ) (kind' : TreeKind) (levels' : List (List ℕ)) (usables : usable' ≡ usable) (kinds : kind' ≡ kind) where
    pub one_kept : (level : ℕ) (f : StackFrame) → slice_get levels' level ≡ slice_get levels level
        → IsOpen usable kind levels level f.page f.next → IsOpen usable' kind' levels' level f.page f.next
    one_kept level f same o = record {
      low = o.low;
      bytes = o.bytes;
      there = same ∙ o.there;
      view = o.view;
      viewed = ap (λ u. undamaged kind' f.page u o.bytes) usables ∙ ap (λ k. undamaged k f.page usable o.bytes) kinds ∙ o.viewed;
      interior = o.interior;
      within = o.within;
    }

    pub open_kept : (level : ℕ) (fs : List StackFrame) → ((n : ℕ) → n < level + length fs → slice_get levels' n ≡ slice_get levels n)
        → AreOpen usable kind levels level fs → AreOpen usable' kind' levels' level fs
    open_kept level [] same a = tt
    open_kept level (f ∷ fs) same a = (one_kept level f (same level (omega arith)) a.0, open_kept (level + 1) fs (λ n l. same n (omega arith)) a.1)

-- how many turns they may take

cost_push : (fs : List StackFrame) (f : StackFrame) → frames_cost (fs ++ (f ∷ [])) ≡ frames_cost fs + (98310 - f.next)
cost_push [] f = omega arith
cost_push (g ∷ fs) f = let r = cost_push fs f in omega arith

pub ends_past : (marks : List Mark) (fs : List StackFrame) (f g : StackFrame) → f.next ≤ g.next → cost marks (fs ++ (g ∷ [])) ≤ cost marks (fs ++ (f ∷ []))
ends_past marks fs f g l = let p = cost_push fs f in let q = cost_push fs g in omega arith

-- the way

pub path_push : (fs : List StackFrame) (f : StackFrame) → path_of (fs ++ (f ∷ [])) ≡ path_of fs ++ (cell_of_step (f.next - 1) ∷ [])
path_push fs f = map-append (λ f. cell_of_step (f.next - 1)) fs (f ∷ [])

pub path_length : (fs : List StackFrame) → length (path_of fs) ≡ length fs
path_length fs = length-map fs (λ f. cell_of_step (f.next - 1))

-- the last frame is no part of it
pub path_last : (items fs : List StackFrame) (f : StackFrame) (path : List ℕ) → items ≡ fs ++ (f ∷ []) → path ≡ path_of fs
    → (gs : List StackFrame) (g : StackFrame) → items ≡ gs ++ (g ∷ []) → path ≡ path_of gs
path_last items fs f path e p gs g h = p ∙ ap path_of (last_same fs gs f g (sym e ∙ h)).0

-- its last child is taken off
pub path_popped : (path : List ℕ) (n : ℕ) (old new : List ℕ) → old ≡ path ++ (n ∷ []) → new ≡ take (length old - 1) old → new ≡ path
path_popped path n old new e t = grind (arith, common_steps)

-- The step of the last frame.

-- the page at the last frame's level
pub read_last : (file : List ℕ) (levels : List (List ℕ)) (level : ℕ) (fs : List StackFrame) (f : StackFrame) → AreRead file levels level (fs ++ (f ∷ []))
    → slice_get levels (level + length fs) ≡ Some (page_bytes file f.page)
read_last file levels level [] f r = ap (slice_get levels) (let e : level + 0 ≡ level = omega arith in e) ∙ r.0
read_last file levels level (g ∷ fs) f r = ap (slice_get levels) (let e : level + suc (length fs) ≡ level + 1 + length fs = omega arith in e)
    ∙ read_last file levels (level + 1) fs f r.1

-- each step of a page but those after it
pub step_within : (v : View) (s : ℕ) (next : Next) → (next ≡ End → ⊥) → IsNextStep v s next → suc s ≤ 3 * count v + 2
step_within v s End other h = absurd (other refl)
step_within v s Nothing other h = by_case h
  where
    by_case : IsEmptyAt v s → suc s ≤ 3 * count v + 2
    by_case (no_chain n e l none) = omega arith
    by_case (no_child n e l none) = omega arith
    by_case (unreadable n f e l bad) = omega arith
    by_case (without_key n x e l read none) = omega arith
step_within v s (Key value) other h = let e = h.step in let l = h.low in omega arith
step_within v s (Chain first left rowid) other h = let e = h.step in let l = h.low in omega arith
step_within v s (Child page key) other h = let e = h.step in let l = h.low in omega arith

-- The last frame of a turn, on any source.

-- the frame is at a step of its page, and the page has something there
pub record IsAtStep (usable : ℕ) (kind : TreeKind) (levels : List (List ℕ)) (fs : List StackFrame) (f : StackFrame) (next : Next) : Type 0 where
  pub low : IsPageNumber f.page
  pub most : f.next ≤ 98306
  pub front : AreOpen usable kind levels 0 fs
  pub last : IsOpen usable kind levels (0 + length fs) f.page f.next
  pub stands : IsNextStep last.view f.next next

-- the same by other names of the level and of what was found there
pub next_at : {usable : ℕ} {kind : TreeKind} {levels : List (List ℕ)} {level level' page s : ℕ} {next next' : Next} → level ≡ level' → next ≡ next'
    → HasNext usable kind levels level page s next → HasNext usable kind levels level' page s next'
next_at {usable = usable} {kind = kind} {levels = levels} {level' = level'} {page = page} {s = s} {next = next} deep is has =
    subst (λ n. HasNext usable kind levels level' page s n) is (subst (λ n. HasNext usable kind levels n page s next) deep has)

module _ {usable : ℕ} {kind : TreeKind} {levels : List (List ℕ)} (fs : List StackFrame) (f : StackFrame) {next : Next} where
  pub at_step : AreOpen usable kind levels 0 (fs ++ (f ∷ [])) → HasNext usable kind levels (length fs) f.page f.next next
      → IsAtStep usable kind levels fs f next
  at_step a has =
      let m = open_front usable kind levels 0 fs f a in
      let there = ap (slice_get levels) (let e : length fs ≡ 0 + length fs = omega arith in e) ∙ m.1.there in
      record {
        low = m.1.low;
        most = (let n = has.few m.1.bytes m.1.view there m.1.viewed in let w = m.1.within in omega arith);
        front = m.0;
        last = m.1;
        stands = has.stands m.1.bytes m.1.view there m.1.viewed;
      }

module _ {usable : ℕ} {kind : TreeKind} {levels : List (List ℕ)} {fs : List StackFrame} {f : StackFrame} {next : Next} where
  -- the same where a turn begins
  pub at_turn : {way : List ℕ} {next' : Next} → IsAtTurn usable kind levels way fs f next' → next' ≡ next → IsAtStep usable kind levels fs f next
  at_turn turn is = at_step fs f turn.opened (next_at refl is turn.step)

  module _ (s : IsAtStep usable kind levels fs f next) where
    pub ends_behind : (marks : List Mark) → cost marks fs < cost marks (fs ++ (f ∷ []))
    ends_behind marks = let p = cost_push fs f in let l = s.most in omega arith

    module _ {g : StackFrame} (on : IsStepped f g) {items : List StackFrame} where
      -- the frame a step on, where the bytes at the levels stay
      pub step_on : (next ≡ End → ⊥) → items ≡ fs ++ (g ∷ []) → (usable' : ℕ) (kind' : TreeKind) (levels' : List (List ℕ)) → usable' ≡ usable → kind' ≡ kind
          → ((n : ℕ) → n < length (fs ++ (g ∷ [])) → slice_get levels' n ≡ slice_get levels n) → AreOpen usable' kind' levels' 0 items
      step_on other are usable' kind' levels' usables kinds same = subst (λ l. AreOpen usable' kind' levels' 0 l) (sym are)
          (open_kept usable kind levels usable' kind' levels' usables kinds 0 (fs ++ (g ∷ [])) (λ n l. same n (omega arith))
          (open_push usable kind levels 0 fs g s.front (open_on usable kind levels (0 + length fs) f g on.page on.next s.last
          (step_within s.last.view f.next next other s.stands))))

      pub ends_on : (marks marks' : List Mark) → items ≡ fs ++ (g ∷ []) → unmarked_pages marks' ≤ unmarked_pages marks
          → cost marks' items < cost marks (fs ++ (f ∷ []))
      ends_on marks marks' are fewer =
          let p = cost_push fs f in
          let q = ap frames_cost are ∙ cost_push fs g in
          let l = s.most in
          let n = on.next in
          omega arith

      pub ends_enter : (marks marks' : List Mark) (h : StackFrame) → items ≡ (fs ++ (g ∷ [])) ++ (h ∷ []) → unmarked_pages marks' < unmarked_pages marks
          → h.next ≡ 0 → cost marks' items < cost marks (fs ++ (f ∷ []))
      ends_enter marks marks' h are fewer start =
          let p = cost_push fs f in
          let q = cost_push fs g in
          let r = ap frames_cost are ∙ cost_push (fs ++ (g ∷ [])) h in
          let l = s.most in
          let n = on.next in
          omega arith

-- what a turn leaves that puts the frame back a step on
pub left_on : {usable : ℕ} {kind : TreeKind} {levels : List (List ℕ)} {way : List ℕ} {fs : List StackFrame} {f : StackFrame} {next next' : Next}
    → IsAtTurn usable kind levels way fs f next' → next' ≡ next → IsOn next → {g : StackFrame} → IsStepped f g → {items : List StackFrame}
    → items ≡ fs ++ (g ∷ []) → {usable' : ℕ} {levels' : List (List ℕ)} {tree : Tree} → usable' ≡ usable → tree.kind ≡ kind → tree.path.items ≡ way
    → ((n : ℕ) → n < length (fs ++ (g ∷ [])) → slice_get levels' n ≡ slice_get levels n) → {old new : List Mark} → unmarked_pages new ≤ unmarked_pages old
    → LeavesFrames usable' levels' fs f items old new tree
left_on {fs = fs} {next = next} turn is there {g} on are usables kinds ways same {old} {new} fewer =
    let s = at_turn turn is in
    record {
      few = (let n = ap length are ∙ length-append fs (g ∷ []) in let l = turn.few in omega arith);
      opened = step_on s on (goes_on next there) are _ _ _ usables kinds same;
      path = path_last _ _ _ _ are (ways ∙ turn.path);
      ends = ends_on s on old new are fewer;
    }

-- the way to a child of the last frame's page
module _ (fs : List StackFrame) {f g : StackFrame} (on : IsStepped f g) {children : List ℕ}
    (ways : children ≡ path_of fs ++ (cell_of_step f.next ∷ [])) where
  -- its depth is the number of frames
  pub as_deep : {items : List StackFrame} → items ≡ fs ++ (g ∷ []) → {level : ℕ} → level ≡ length items → length children ≡ level
  as_deep are is =
      let a = ap length ways in
      let b = length-append (path_of fs) (cell_of_step f.next ∷ []) in
      let d = length-append fs (g ∷ []) in
      let e = path_length fs in
      let n = ap length are in
      omega arith

  pub way_on : children ≡ path_of (fs ++ (g ∷ []))
  way_on = ways ∙ ap (λ s. path_of fs ++ (cell_of_step s ∷ [])) (let n = on.next in let e : f.next ≡ g.next - 1 = omega arith in e) ∙ sym (path_push fs g)
