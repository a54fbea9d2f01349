use Rattle.std.proofs.Common.{◌≡◌, ◌≤◌, ℕ, List, [], ◌∷◌, length, get_or, Some, refl, ap, arith, slice_get}
use Rattle.dbwalk.proofs.root.root_kind.Goals as goal

pub tree_kind-requires : goal.tree_kind-requires
tree_kind-requires g c =
    let range = c.geometry-geometry.ensures.range in
    omega (arith, range.page_size, ap (λ s. s.page_size) c.geometry-geometry.ensures.value, c.page.ensures.len)

-- a first list that has an item is there
first_there : (xs : List (List ℕ)) → 1 ≤ length (get_or xs 0 []) → slice_get xs 0 ≡ Some (get_or xs 0 [])
first_there [] l = absurd (omega arith)
first_there (x ∷ xs) l = refl

pub returns-clause-there : goal.returns-clause-there
returns-clause-there g c =
    let range = c.geometry-geometry.ensures.range in
    let same = ap (λ s. s.page_size) c.geometry-geometry.ensures.value in
    first_there _ (omega (arith, range.page_size, same, c.page.ensures.len, ap length c.page.ensures.bytes))
