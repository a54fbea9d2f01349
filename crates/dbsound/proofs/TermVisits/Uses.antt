-- The visits of a term are its uses.
use Rattle.std.proofs.Common.{◌≡◌, ℕ, ◌+◌, Bool, List, [], ◌∷◌, ◌++◌, map, Option, ℤ, refl, ap, ◌∙◌}
use Rattle.std.proofs.lemmas.List.{map-append}
use Rattle.dbsound.proofs.Common.{Address, overflow_step, child_step, page_bytes, Cell, SchemaRow, Role, trunk, free_leaf, Reference, leaf_count, free_leaves}
use Rattle.dbsound.proofs.Common.{is_root, role_of, from_of, root, child, first_overflow, later_overflow, trunk, free_leaf, Use, use_as, Chain, last, full}
use Rattle.dbsound.proofs.Common.{Payload, whole, split, Payloads, none, more, role_in_tree, Tree, leaf, interior, Children, right_only, Freelist, no_trunk}
use Rattle.dbsound.proofs.Common.{and_trunk, Forest, no_tree, and_tree, TreeKind, use_of}
use Rattle.dbformat.specs.Terms.{and_left, is_root_use}
use Rattle.dbsound.proofs.TermVisits.{chain_visits, payload_visits, payloads_visits, tree_visits, children_visits, leaf_visits, freelist_visits, forest_visits}

-- the uses of some visits
abbrev pub uses_of : List Reference → List Use
uses_of V = map use_of V

both : (A B : List Reference) (x y : List Use) → uses_of A ≡ x → uses_of B ≡ y → uses_of (A ++ B) ≡ x ++ y
both A B x y e f = map-append use_of A B ∙ ap (λ l. l ++ uses_of B) e ∙ ap (λ l. x ++ l) f

chain_uses : {file : List ℕ} {role : Role} {from p left : ℕ} {uses : List Use} {bytes : List ℕ} (t : Chain file role from p left uses bytes)
    (item : ℕ) (a : Address) → uses_of (chain_visits t item a) ≡ uses
chain_uses (last h e) item a = refl
chain_uses (full {role} {from} {p} h t) item a = ap (λ us. use_as role from p ∷ us) (chain_uses t 0 (a ++ 0 ∷ []))

payload_uses : {file : List ℕ} {p : ℕ} {c : Cell} {uses : List Use} {bytes : List ℕ} (t : Payload file p c uses bytes)
    (i : ℕ) (a : Address) → uses_of (payload_visits t i a) ≡ uses
payload_uses (whole e) i a = refl
payload_uses (split e t) i a = chain_uses t i (a ++ overflow_step i ∷ [])

payloads_uses : {file : List ℕ} {p : ℕ} {cs : List Cell} {uses : List Use} {payloads : List (List ℕ)} (t : Payloads file p cs uses payloads)
    (i : ℕ) (a : Address) → uses_of (payloads_visits t i a) ≡ uses
payloads_uses none i a = refl
payloads_uses (more {uses = us} {rest} t ts) i a =
    both (payload_visits t i a) (payloads_visits ts (i + 1) a) us rest (payload_uses t i a) (payloads_uses ts (i + 1) a)

mutual
  pub tree_uses : {file : List ℕ} {is_child : Bool} {from p : ℕ} {kind : TreeKind} {height : ℕ} {low high : Option ℤ} {uses : List Use}
      {payloads : List (List ℕ)}
      (t : Tree file is_child from p kind height low high uses payloads) (item : ℕ) (a : Address) → uses_of (tree_visits t item a) ≡ uses
  tree_uses (leaf {is_child} {from} {p} {kind} v w l r ps) item a = ap (λ us. use_as (role_in_tree is_child kind) from p ∷ us) (payloads_uses ps 0 a)
  tree_uses (interior {is_child} {from} {p} {kind} v w r cs) item a = ap (λ us. use_as (role_in_tree is_child kind) from p ∷ us) (children_uses cs 0 a)

  children_uses : {file : List ℕ} {p : ℕ} {kind : TreeKind} {height : ℕ} {low high : Option ℤ} {cs : List Cell} {right : ℕ} {uses : List Use}
      {payloads : List (List ℕ)}
      (t : Children file p kind height low high cs right uses payloads) (i : ℕ) (a : Address) → uses_of (children_visits t i a) ≡ uses
  children_uses (right_only t) i a = tree_uses t i (a ++ child_step i ∷ [])
  children_uses (and_left {chained} {uses = us} {rest} ps l lo hi t cs) i a =
      both (payload_visits ps i a ++ tree_visits t i (a ++ child_step i ∷ [])) (children_visits cs (i + 1) a) (chained ++ us) rest
      (both (payload_visits ps i a) (tree_visits t i (a ++ child_step i ∷ [])) chained us (payload_uses ps i a) (tree_uses t i (a ++ child_step i ∷ [])))
      (children_uses cs (i + 1) a)

leaf_uses : (p : ℕ) (leaves : List ℕ) (j : ℕ) (a : Address) → uses_of (leaf_visits p leaves j a) ≡ map (use_as free_leaf p) leaves
leaf_uses p [] j a = refl
leaf_uses p (q ∷ leaves) j a = ap (λ us. use_as free_leaf p q ∷ us) (leaf_uses p leaves (j + 1) a)

pub freelist_uses : {file : List ℕ} {p : ℕ} {uses : List Use} (t : Freelist file p uses) (from item : ℕ) (a : Address) → uses_of (freelist_visits t from item a)
    ≡ uses
freelist_uses no_trunk from item a = refl
freelist_uses {file} (and_trunk {p} {uses = us} n l t) from item a = ap (λ us. use_as trunk 0 p ∷ us)
    (both (leaf_visits p (free_leaves (page_bytes file p)) 0 a)
    (freelist_visits t p (leaf_count (page_bytes file p)) (a ++ leaf_count (page_bytes file p) ∷ []))
    (map (use_as free_leaf p) (free_leaves (page_bytes file p))) us (leaf_uses p (free_leaves (page_bytes file p)) 0 a)
    (freelist_uses t p (leaf_count (page_bytes file p)) (a ++ leaf_count (page_bytes file p) ∷ [])))

pub forest_uses : {file : List ℕ} {rows : List SchemaRow} {uses : List Use} (f : Forest file rows uses) (k : ℕ) → uses_of (forest_visits f k) ≡ uses
forest_uses no_tree k = refl
forest_uses (and_tree {uses = us} {rest} i h t f) k =
    both (tree_visits t k (k ∷ [])) (forest_visits f (k + 1)) us rest (tree_uses t k (k ∷ [])) (forest_uses f (k + 1))

pub root_use : (r : Reference) → is_root_use (use_of r) ≡ is_root (role_of r)
root_use r = by_role (role_of r)
  where
    by_role : (role : Role) → is_root_use (use_as role (from_of r) r.page) ≡ is_root role
    by_role (root kind) = refl
    by_role (child kind) = refl
    by_role (first_overflow left) = refl
    by_role (later_overflow left) = refl
    by_role trunk = refl
    by_role free_leaf = refl

pub used_pages : (V : List Reference) → map (λ u. u.page) (uses_of V) ≡ map (λ t. t.page) V
used_pages [] = refl
used_pages (t ∷ V) = ap (λ l. t.page ∷ l) (used_pages V)
