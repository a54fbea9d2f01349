-- What holds of the notices of the starts after the schema's, one start after another.
use Rattle.dbscan.proofs.Common.{◌≡◌, ℕ, ◌+◌, Bool, true, false, cond, ◌==◌, inl, inr, List, [], ◌∷◌, ◌++◌, map, Errand, Go, Way, Reference, SchemaRow, Event}
use Rattle.dbscan.proofs.Common.{reported_below, visited_below, Notice, found, errands_left, root_reference, IsIn, Follow, errands_at, freelist_start}
use Rattle.dbscan.proofs.Common.{first_trunk, trunk, start, tree_notices, later_notices, at_freelist, at_row, enumerate_from, freelist_reference}

-- After the visits of W, of the rows from start k on: it holds of what is reported along the freelist. It holds of the tree of
-- a row and what is reported after it, if it holds of the latter.
module _ (file : List ℕ) (Holds : ℕ → List SchemaRow → List Reference → List Notice → List (Errand Way Event) → Type 0)
    (of_freelist : (k : ℕ) (W : List Reference) → Holds k [] W (map (found at_freelist) (reported_below file W (errands_left file []))) (errands_left file []))
    (of_tree : (k : ℕ) (row : SchemaRow) (rows : List SchemaRow) (W : List Reference) (ns : List Notice) (es : List (Errand Way Event))
    → Holds (k + 1) rows (W ++ visited_below file W (Go (root_reference file k row) ∷ [])) ns es
    → Holds k (row ∷ rows) W (tree_notices (at_row k row) file W (root_reference file k row) ++ ns) (Go (root_reference file k row) ∷ es)) where
  -- then it holds of all
  pub of_later : (k : ℕ) (rows : List SchemaRow) (W : List Reference)
      → Holds k rows W (later_notices file W (enumerate_from k rows)) (errands_left file (enumerate_from k rows))
  of_later k [] W = of_freelist k W
  of_later k (row ∷ rows) W =
      let U = W ++ visited_below file W (Go (root_reference file k row) ∷ []) in
      let left = enumerate_from (k + 1) rows in
      of_tree k row rows W (later_notices file U left) (errands_left file left) (of_later (k + 1) rows U)

-- along the freelist there is nothing to do but to follow its first trunk
pub first_alone : (file : List ℕ) (e : Errand Way Event) → IsIn e (errands_left file []) → e ≡ Go (freelist_reference (first_trunk file))
first_alone file e i = by_case (first_trunk file == 0) i
  where
    by_case : (b : Bool) → IsIn e (errands_at [] (map Follow (cond b [] (start freelist_start trunk (first_trunk file) ∷ []))))
        → e ≡ Go (freelist_reference (first_trunk file))
    by_case true i = absurd i
    by_case false (inl f) = f
    by_case false (inr i) = absurd i
