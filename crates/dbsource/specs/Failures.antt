-- How failures are counted.
use Rattle.std.specs.Prelude.{◌≡◌, ◌⊎◌, ℕ, ◌+◌, ◌%◌, ◌^◌, Bool, true, false, List, ◌∷◌, Result, Ok, Err, if◌then◌else◌}

-- a count of failures after one more: 64 bits, wrapping
abbrev pub one_more : ℕ → ℕ
one_more count = (count + 1) % 2 ^ 64

-- a count after an answer: one more exactly where this is an error of the counted kind
abbrev pub failures_after : {A E : Type 0} → (E → Bool) → Result A E → ℕ → ℕ
failures_after is_counted (Ok a) count = count
failures_after is_counted (Err e) count = if is_counted e then one_more count else count

-- where every error is counted
abbrev pub is_any : {E : Type 0} → E → Bool
is_any e = true

-- of some counts just one is one more, and the others are as they were
abbrev pub HasOneMore : List ℕ → List ℕ → Type 0
HasOneMore (m ∷ ms) (n ∷ ns) = ((n ≡ one_more m) × (ns ≡ ms)) ⊎ ((n ≡ m) × HasOneMore ms ns)
HasOneMore _ _ = ⊥

-- what failed calls alone move has moved, or it is as it was
abbrev pub MovesIf : {X : Type 0} → Bool → (X → X → Type 0) → X → X → Type 0
MovesIf true Moves old new = Moves old new
MovesIf false Moves old new = new ≡ old

-- after an answer: it has moved exactly where this is an error of the counted kind
abbrev pub MovesAfter : {A E X : Type 0} → (X → X → Type 0) → (E → Bool) → Result A E → X → X → Type 0
MovesAfter Moves is_counted (Ok a) old new = new ≡ old
MovesAfter Moves is_counted (Err e) old new = MovesIf (is_counted e) Moves old new

-- some counts after an answer: just one is one more, exactly where this is an error of the counted kind
abbrev pub CountsAfter : {A E : Type 0} → (E → Bool) → Result A E → List ℕ → List ℕ → Type 0
CountsAfter is_counted r old new = MovesAfter HasOneMore is_counted r old new
