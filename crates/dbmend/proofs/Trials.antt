-- What some deeds show, more of them show.
use Rattle.std.proofs.Common.{ℕ, List, [], ◌∷◌, ◌++◌, Option, Some, None, inl, inr, subst, sym}
use Rattle.std.specs.Prelude.{IfSome}
use Rattle.dbsource.specs.Changes.{Change}
use Rattle.dbmend.specs.Deeds.{Deed}
use Rattle.dbmend.specs.Trials.{Among, IsBetter, IsStep, IsTrial, WasThere, WasTried}
use Rattle.dbmend.specs.declared.count.Count.{Count}

pub among_left : (d : Deed) (a b : List Deed) → Among d a → Among d (a ++ b)
among_left d [] b h = absurd h
among_left d (e ∷ a) b (inl h) = inl h
among_left d (e ∷ a) b (inr h) = inr (among_left d a b h)

pub among_right : (d : Deed) (a b : List Deed) → Among d b → Among d (a ++ b)
among_right d [] b h = h
among_right d (e ∷ a) b h = inr (among_right d a b h)

module _ {before : List Change} {change : Change} {count : Count} (a b : List Deed) where
  pub tried_right : WasTried before change count b → WasTried before change count (a ++ b)
  tried_right h = record { run = among_right _ a b h.run; size = h.size }

  pub trial_left : {faults : ℕ} → IsTrial before change count faults a → IsTrial before change count faults (a ++ b)
  trial_left h = record { tried = record { run = among_left _ a b h.tried.run; size = h.tried.size }; fewer = h.fewer }

  pub trial_right : {faults : ℕ} → IsTrial before change count faults b → IsTrial before change count faults (a ++ b)
  trial_right h = record { tried = tried_right h.tried; fewer = h.fewer }

  pub step_left : {faults : ℕ} {was : List ℕ} → IsStep before faults change was count a → IsStep before faults change was count (a ++ b)
  step_left h = record { trial = trial_left h.trial; there = record { look = among_left _ a b h.there.look; long = h.there.long } }

  pub step_right : {faults : ℕ} {was : List ℕ} → IsStep before faults change was count b → IsStep before faults change was count (a ++ b)
  step_right h = record { trial = trial_right h.trial; there = record { look = among_right _ a b h.there.look; long = h.there.long } }

  -- a trial, and then a look at its place
  pub step_of : {faults : ℕ} {was : List ℕ} → IsTrial before change count faults a → WasThere change was b → IsStep before faults change was count (a ++ b)
  step_of h k = record { trial = trial_left h; there = record { look = among_right _ a b k.look; long = k.long } }

-- the better of two trials is one
module _ {T F : Type 0} (edit_of : T → Change) (found_of : T → F) (count_of : F → Count)
    (before : List Change) (edit : Change) (faults : ℕ) (a b : List Deed) where
  abbrev Shown : List Deed → T → Type 0
  Shown deeds t = IsTrial before (edit_of t) (count_of (found_of t)) faults deeds

  some_left : (o : Option T) → IfSome o (Shown a) → IfSome o (Shown (a ++ b))
  some_left None h = tt
  some_left (Some t) h = trial_left a b h

  pub better_shown : (best better : Option T) (found : Option F) → IsBetter edit_of found_of count_of best edit found faults better
      → IfSome best (Shown a) → IfSome found (λ f. WasTried before edit (count_of f) b) → IfSome better (Shown (a ++ b))
  better_shown best better found (inl e) h k = subst (λ (o : Option T). IfSome o (Shown (a ++ b))) (sym e) (some_left best h)
  better_shown best better found (inr (t, is, from, same, fewer)) h k =
      let run : WasTried before edit (count_of (found_of t)) b = subst (λ (o : Option F). IfSome o (λ f. WasTried before edit (count_of f) b)) from k in
      let here : WasTried before (edit_of t) (count_of (found_of t)) b = subst (λ (c : Change). WasTried before c (count_of (found_of t)) b) (sym same) run in
      subst (λ (o : Option T). IfSome o (Shown (a ++ b))) (sym is) (record { tried = tried_right a b here; fewer = fewer })
