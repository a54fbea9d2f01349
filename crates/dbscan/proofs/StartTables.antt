-- The values of a table, as its fields hold them.
use Rattle.dbscan.proofs.Common.{◌≡◌, ℕ, ◌+◌, ◌-◌, ◌<◌, ◌≤◌, List, [], ◌∷◌, ◌++◌, length, set, take, replicate, sym, ap, ◌∙◌, arith, length-append}
use Rattle.dbscan.proofs.Common.{common_steps, length-replicate, replicate-append-replicate, set-append_left}
use Rattle.std.proofs.Math.Seq.{set-append_seam}

module _ {X : Type 0} (n : ℕ) (rest : X) where
  -- the values where xs are those of the first of n trees
  abbrev values : List X → X → List X
  values xs free = xs ++ replicate (n - length xs) rest ++ free ∷ []

  filled : (xs : List X) (m : ℕ) → length xs ≤ m → length (xs ++ replicate (m - length xs) rest) ≡ m
  filled xs m l = omega (arith, l, length-append xs (replicate (m - length xs) rest), length-replicate (m - length xs) rest)

  -- all are the same
  pub all_rest : (xs : List X) → xs ≡ [] → values xs rest ≡ replicate (n + 1) rest
  all_rest xs e = ap (λ xs. values xs rest) e ∙ grind (arith, common_steps)

  -- the value of the freelist is set
  pub freelist_set : (xs : List X) (free x : X) → length xs ≤ n → values xs x ≡ set (values xs free) n x
  freelist_set xs free x l =
      let trees = xs ++ replicate (n - length xs) rest in
      sym (set-append_seam trees free [] x) ∙ ap (λ k. set (values xs free) k x) (filled xs n l)

  -- that of one of the first trees is set
  pub tree_set : (xs : List X) (free x : X) (k : ℕ) → k < length xs → values (set xs k x) free ≡ set (values xs free) k x
  tree_set xs free x k l = grind (arith, common_steps, set-append_left)

  -- more trees are among the first
  pub grown : (xs ys : List X) (free : X) (len m : ℕ) → len ≡ length xs → len ≤ m → m ≤ n → ys ≡ take m xs ++ replicate (m - len) rest
      → (length ys ≡ m) × (values ys free ≡ values xs free)
  grown xs ys free len m is low high e = (grind (arith, common_steps), grind (arith, common_steps, replicate-append-replicate))
