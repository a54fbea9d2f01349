-- Counts of each start, where those of one are apart.
use Rattle.std.proofs.Common.{◌≡◌, ℕ, zero, suc, ◌∷◌, replicate, set, refl, ap}

-- all are the same
pub set_replicate : {X : Type 0} (n k : ℕ) (x : X) → set (replicate n x) k x ≡ replicate n x
set_replicate zero k x = refl
set_replicate (suc n) zero x = refl
set_replicate (suc n) (suc k) x = ap (λ xs. x ∷ xs) (set_replicate n k x)
