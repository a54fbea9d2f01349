-- A table of a value for each start.
use Rattle.std.specs.Prelude.{ℕ, ◌+◌, ◌-◌, ◌≤◌, List, [], ◌∷◌, ◌++◌, length, replicate, vec_capacity}
use Rattle.dbformat.specs.Address.{freelist_start}
use Rattle.dbscan.specs.declared.start_table.StartTable.TheInside.{Inside}

-- how many starts a file may have: the schema, the root pages that it names, and the freelist
unfoldable pub most_starts : ℕ
most_starts = freelist_start + 1

-- what the fields hold: the values of the first trees, one for all other trees, and that of the freelist
abbrev pub start_values : {T A : Type 0} → Inside T A → List T
start_values t = t.trees.items ++ replicate (freelist_start - length t.trees.items) t.rest ++ t.freelist ∷ []

-- There is room for a value of each tree.
pub record HasRoom {T A : Type 0} (t : Inside T A) : Type 0 where
  pub trees : length t.trees.items ≤ freelist_start
  pub room : freelist_start ≤ vec_capacity t.trees
