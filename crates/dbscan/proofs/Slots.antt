-- A list with one element changed.
use Rattle.dbscan.proofs.Common.{◌≡◌, ℕ, ◌<◌, List, length, set, Some, arith, slice_get, elements}

pub get_set : {X : Type 0} (xs : List X) (i : ℕ) (x : X) → i < length xs → slice_get (set xs i x) i ≡ Some x
get_set xs i x l = grind (arith, elements)

pub get_set_other : {X : Type 0} (xs : List X) (i j : ℕ) (x : X) → (j ≡ i → ⊥) → slice_get (set xs i x) j ≡ slice_get xs j
get_set_other xs i j x d = grind (arith, elements)
