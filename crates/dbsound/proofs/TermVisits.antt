-- The visits of a term: its pages as references, each at its address, in the order of addresses. They are defined here, and
-- each module has a property of them, by induction on terms.

-- where they are, and their uses
pub mod Under
pub mod Uses
-- they are all that the first of them leads to
pub mod Chains
pub mod Trees
pub mod Forests
-- their roles, faults that rest on a page alone, depths, and what two visits of one tree have in common
pub mod Roles
pub mod OwnFaults
pub mod Depths
pub mod Starts
use Rattle.std.proofs.Common.{ℕ, ◌+◌, Bool, List, [], ◌∷◌, ◌++◌, Option, ℤ}
use Rattle.dbsound.proofs.Common.{Address, overflow_step, child_step, page_bytes, Cell, SchemaRow, Role, trunk, free_leaf, Reference, leaf_count, free_leaves}
use Rattle.dbsound.proofs.Common.{Use, Chain, last, full, Payload, whole, split, Payloads, none, more, role_in_tree, Tree, leaf, interior, Children, right_only}
use Rattle.dbsound.proofs.Common.{Freelist, no_trunk, and_trunk, Forest, no_tree, and_tree, TreeKind}
use Rattle.dbformat.specs.Terms.{and_left}

-- page p in a role, that item of page `from` refers to, at an address
abbrev pub visit_at : Role → ℕ → ℕ → ℕ → Address → Reference
visit_at role from item p a = record { address = a; page = p; role = record { role = role; from = from; item = item } }

-- the pages of a chain
abbrev pub chain_visits : {file : List ℕ} {role : Role} {from p left : ℕ} {uses : List Use} {bytes : List ℕ}
    → Chain file role from p left uses bytes → ℕ → Address → List Reference
chain_visits (last {role} {from} {p} h e) item a = visit_at role from item p a ∷ []
chain_visits (full {role} {from} {p} h t) item a = visit_at role from item p a ∷ chain_visits t 0 (a ++ 0 ∷ [])

-- the chain of cell i of the page at a
abbrev pub payload_visits : {file : List ℕ} {p : ℕ} {c : Cell} {uses : List Use} {bytes : List ℕ}
    → Payload file p c uses bytes → ℕ → Address → List Reference
payload_visits (whole e) i a = []
payload_visits (split e t) i a = chain_visits t i (a ++ overflow_step i ∷ [])

-- those of the cells from i on
abbrev pub payloads_visits : {file : List ℕ} {p : ℕ} {cs : List Cell} {uses : List Use} {payloads : List (List ℕ)}
    → Payloads file p cs uses payloads → ℕ → Address → List Reference
payloads_visits none i a = []
payloads_visits (more t ts) i a = payload_visits t i a ++ payloads_visits ts (i + 1) a

abbrev mutual
  pub tree_visits : {file : List ℕ} {is_child : Bool} {from p : ℕ} {kind : TreeKind} {height : ℕ} {low high : Option ℤ} {uses : List Use}
      {payloads : List (List ℕ)}
      → Tree file is_child from p kind height low high uses payloads → ℕ → Address → List Reference
  tree_visits (leaf {is_child} {from} {p} {kind} v w l r ps) item a = visit_at (role_in_tree is_child kind) from item p a ∷ payloads_visits ps 0 a
  tree_visits (interior {is_child} {from} {p} {kind} v w r cs) item a = visit_at (role_in_tree is_child kind) from item p a ∷ children_visits cs 0 a

  -- what hangs at the cells from i on, and the right child
  pub children_visits : {file : List ℕ} {p : ℕ} {kind : TreeKind} {height : ℕ} {low high : Option ℤ} {cs : List Cell} {right : ℕ} {uses : List Use}
      {payloads : List (List ℕ)}
      → Children file p kind height low high cs right uses payloads → ℕ → Address → List Reference
  children_visits (right_only t) i a = tree_visits t i (a ++ child_step i ∷ [])
  children_visits (and_left ps l lo hi t cs) i a = payload_visits ps i a ++ tree_visits t i (a ++ child_step i ∷ []) ++ children_visits cs (i + 1) a

-- the leaves of trunk p from leaf j on
abbrev pub leaf_visits : ℕ → List ℕ → ℕ → Address → List Reference
leaf_visits p [] j a = []
leaf_visits p (q ∷ leaves) j a = visit_at free_leaf p j q (a ++ j ∷ []) ∷ leaf_visits p leaves (j + 1) a

-- a freelist, whose first trunk an item of page `from` names
abbrev pub freelist_visits : {file : List ℕ} {p : ℕ} {uses : List Use} → Freelist file p uses → ℕ → ℕ → Address → List Reference
freelist_visits no_trunk from item a = []
freelist_visits {file} (and_trunk {p} n l t) from item a = visit_at trunk from item p a
    ∷ leaf_visits p (free_leaves (page_bytes file p)) 0 a ++ freelist_visits t p (leaf_count (page_bytes file p)) (a ++ leaf_count (page_bytes file p) ∷ [])

-- the trees of the rows from start k on
abbrev pub forest_visits : {file : List ℕ} {rows : List SchemaRow} {uses : List Use} → Forest file rows uses → ℕ → List Reference
forest_visits no_tree k = []
forest_visits (and_tree i h t f) k = tree_visits t k (k ∷ []) ++ forest_visits f (k + 1)
