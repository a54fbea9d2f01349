-- The steps of an interior page at which it has nothing, and which a walk passes over.
use Rattle.std.proofs.Common.{◌≡◌, ℕ, zero, suc, ◌+◌, ◌-◌, ◌<◌, ◌≤◌, List, [], ◌∷◌, ◌++◌, length, refl, sym, ap, ap₂, subst, arith, ◌∙◌}
use Rattle.dbwalk.proofs.Common.{usable_size, Reference, TreeKind, Mark, Item, AreEmpty, HasNext, IsWalkingOn, AreOpen, IsCandidate, IsStepped, Tree}
use Rattle.dbwalk.proofs.Common.{StackFrame, Nothing}
use Rattle.dbwalk.proofs.Trees.Frames.{at_step, next_at, step_on}
use Rattle.dbwalk.proofs.Underway.TreeTurns.{next_here, turned_empty}

abbrev AreNothing : ℕ → TreeKind → List (List ℕ) → ℕ → StackFrame → StackFrame → Type 0
AreNothing usable kind levels level f g = (s : ℕ) → f.next ≤ s → s < g.next → HasNext usable kind levels level f.page s Nothing

same_frame : (f g : StackFrame) → g.page ≡ f.page → g.next ≡ f.next → g.up_to ≡ f.up_to → f ≡ g
same_frame f g page next up_to = ap₂ (λ (p n : ℕ). let x : StackFrame = record { page = p; next = n; up_to = f.up_to } in x) (sym page) (sym next)
    ∙ ap (λ u. let x : StackFrame = record g { up_to = u } in x) (sym up_to)

-- the frame one step on
abbrev on : StackFrame → StackFrame
on f = record f { next = suc f.next }

is_on : (f : StackFrame) → IsStepped f (on f)
is_on f = record { page = refl; next = refl; up_to = refl }

module _ {usable : ℕ} {kind : TreeKind} {levels : List (List ℕ)} (fs : List StackFrame) where
  open_by : (n : ℕ) (f g : StackFrame) → g.page ≡ f.page → g.next ≡ n + f.next → g.up_to ≡ f.up_to → AreNothing usable kind levels (length fs) f g
      → AreOpen usable kind levels 0 (fs ++ (f ∷ [])) → AreOpen usable kind levels 0 (fs ++ (g ∷ []))
  open_by zero f g page next up_to none h = subst (λ (x : StackFrame). AreOpen usable kind levels 0 (fs ++ (x ∷ []))) (same_frame f g page (omega arith)
      up_to) h
  open_by (suc n) f g page next up_to none h =
      open_by n (on f) g page (omega arith) up_to (λ s l k. none s (omega arith) k)
      (step_on {next = Nothing} (at_step fs f h (none f.next (omega arith) (omega arith))) (is_on f) (λ x. cc) refl usable kind levels refl refl
      (λ n l. refl))

  pub open_past : {level : ℕ} (f g : StackFrame) → level ≡ length fs → g.page ≡ f.page → g.up_to ≡ f.up_to
      → AreEmpty usable kind levels level f.page f.next g.next
      → AreOpen usable kind levels 0 (fs ++ (f ∷ [])) → AreOpen usable kind levels 0 (fs ++ (g ∷ []))
  open_past f g deep page up_to past h = let l = past.rise in open_by (g.next - f.next) f g page (omega arith) up_to (λ s l k. next_at deep refl
      (past.empty s l k)) h

module _ {P : Type 0} {moves : P → Item → P → Type 0} {file : List ℕ} {W : List Reference} {c : Reference} {before : P} {levels : List (List ℕ)}
    {marks : List Mark} {tree : Tree} {w : P} {usable : ℕ}
    (fs : List StackFrame) (usables : usable ≡ usable_size file) (candidate : IsCandidate tree.kind tree.start [] c.page 0 tree.start c) where
  walking_by : (n : ℕ) (f g : StackFrame) → g.page ≡ f.page → g.next ≡ n + f.next → g.up_to ≡ f.up_to → AreNothing usable tree.kind levels (length fs) f g
      → IsWalkingOn moves file W c before (fs ++ (f ∷ []), levels) (marks, tree) w → IsWalkingOn moves file W c before (fs ++ (g ∷ []), levels) (marks, tree) w
  walking_by zero f g page next up_to none h = subst (λ (x : StackFrame). IsWalkingOn moves file W c before (fs ++ (x ∷ []), levels) (marks, tree) w)
      (same_frame f g page (omega arith) up_to) h
  walking_by (suc n) f g page next up_to none h =
      walking_by n (on f) g page (omega arith) up_to (λ s l k. none s (omega arith) k)
      (turned_empty fs f h candidate (is_on f) (next_here fs f h candidate usables (none f.next (omega arith) (omega arith))))

  pub walking_past : {level : ℕ} (f g : StackFrame) → level ≡ length fs → g.page ≡ f.page → g.up_to ≡ f.up_to
      → AreEmpty usable tree.kind levels level f.page f.next g.next
      → IsWalkingOn moves file W c before (fs ++ (f ∷ []), levels) (marks, tree) w → IsWalkingOn moves file W c before (fs ++ (g ∷ []), levels) (marks, tree) w
  walking_past f g deep page up_to past h = let l = past.rise in walking_by (g.next - f.next) f g page (omega arith) up_to (λ s l k. next_at deep refl
      (past.empty s l k)) h
