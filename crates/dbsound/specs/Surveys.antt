-- What the survey of a file has where pages and references have no fault: statements of the contracts.
use Rattle.std.specs.Prelude.{◌≡◌, ℕ, ◌+◌, ◌≤◌, Bool, false, List, [], ◌∷◌, map, flat_map, Some, None}
use Rattle.dbsurvey.specs.Address.{IsIn}
use Rattle.dbsurvey.specs.Survey.{children, named_at}
use Rattle.dbformat.specs.Address.{start_of, depth}
use Rattle.dbformat.specs.Reference.{Reference, root, role_of, from_of, bytes_left}
use Rattle.dbformat.specs.Schema.{starts, held_bytes}
use Rattle.dbformat.specs.Survey.{Survey, rules_of, most_depth}
use Rattle.dbformat.specs.PageFaults.{leaf_depth}
use Rattle.dbformat.specs.Report.{walk_faults}
use Rattle.dbformat.specs.Terms.{Chain, Tree, role_in_tree}
use Rattle.dbformat.specs.declared.TreeKind.{TreeKind}
use Rattle.dbsound.specs.Below.{below, use_of, leaf_payloads}

-- where pages and references have no fault, the survey is what is below its starts, one after another
abbrev pub IsByItsStarts : List ℕ → Type 0
IsByItsStarts file = (V : List Reference) → Survey file V → walk_faults file V ≡ []
    → V ≡ flat_map (λ d. below V d.address) (named_at [] (starts file V))

-- and below a visit are the visit itself, and what is below each reference of its page
abbrev pub IsByItsLinks : List ℕ → Type 0
IsByItsLinks file = (V : List Reference) → Survey file V → walk_faults file V ≡ []
    → (r : Reference) → IsIn r V
    → below V r.address ≡ r ∷ flat_map (λ d. below V d.address) (children (rules_of file) r)

-- at each overflow page that is visited begins a chain, whose pages are those below it
abbrev pub HasChainsBelow : List ℕ → Type 0
HasChainsBelow file = (V : List Reference) → Survey file V → walk_faults file V ≡ []
    → (r : Reference) (left : ℕ) → IsIn r V → bytes_left (role_of r) ≡ Some left
    → Chain file (role_of r) (from_of r) r.page left (map use_of (below V r.address)) (flat_map (held_bytes file) (below V r.address))

-- At each page of a tree that is visited begins a tree, whose pages are those below it, and its payloads those of the
-- leaves below it. It ends at the depth of the first leaf of its start.
abbrev pub HasTreesBelow : List ℕ → Type 0
HasTreesBelow file = (V : List Reference) → Survey file V → walk_faults file V ≡ []
    → (r : Reference) (kind : TreeKind) (is_child : Bool) → IsIn r V → role_of r ≡ role_in_tree is_child kind
    → (height : ℕ) × (height + depth r.address ≡ leaf_depth file V (start_of r.address) 0 + 1)
    × Tree file is_child (from_of r) r.page kind height None None (map use_of (below V r.address)) (flat_map (leaf_payloads file V) (below V r.address))

-- that of a root is at most 20 pages high
abbrev pub HasWholeTrees : List ℕ → Type 0
HasWholeTrees file = (V : List Reference) → Survey file V → walk_faults file V ≡ []
    → (r : Reference) (kind : TreeKind) → IsIn r V → role_of r ≡ root kind
    → (height : ℕ) × (height ≤ most_depth)
    × Tree file false (from_of r) r.page kind height None None (map use_of (below V r.address)) (flat_map (leaf_payloads file V) (below V r.address))
