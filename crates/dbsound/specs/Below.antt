-- What a survey has at an address and below it, and what its pages are there: their uses, and the payloads of the leaves.
use Rattle.std.specs.Prelude.{ℕ, List, [], map, filter, Option, Some, None, nat_eq, if◌then◌else◌}
use Rattle.std.specs.List.{starts_with}
use Rattle.dbsurvey.specs.Address.{Address}
use Rattle.dbsurvey.specs.Survey.{Triple}
use Rattle.dbformat.specs.Head.{View, is_interior}
use Rattle.dbformat.specs.Cell.{Cell, cells}
use Rattle.dbformat.specs.Reference.{Reference, role_of, from_of, tree_view}
use Rattle.dbformat.specs.Schema.{payload}
use Rattle.dbformat.specs.Terms.{Use, use_as}

-- the visits at an address and below it, in their order
abbrev pub below : {R : Type 0} → List (Triple R) → Address → List (Triple R)
below V a = filter (λ r. starts_with nat_eq r.address a) V

-- the use of a visited page
abbrev pub use_of : Reference → Use
use_of r = use_as (role_of r) (from_of r) r.page

-- the payload of a cell of a visited page, as far as its chain was followed
abbrev pub cell_payload : List ℕ → List Reference → Reference → ℕ × Cell → List ℕ
cell_payload file V r (i, c) = payload file V r.address i c

-- the payloads of the cells of a leaf; an interior page, and one that is damaged, has none
abbrev pub view_payloads : List ℕ → List Reference → Reference → Option View → List (List ℕ)
view_payloads file V r None = []
view_payloads file V r (Some v) = if is_interior v.kind then [] else map (cell_payload file V r) (cells v)

-- those of a visited page, where it is an undamaged leaf of a tree
abbrev pub leaf_payloads : List ℕ → List Reference → Reference → List (List ℕ)
leaf_payloads file V r = view_payloads file V r (tree_view file r)
