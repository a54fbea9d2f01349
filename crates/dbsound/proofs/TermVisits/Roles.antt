-- Which visits of a term are of roots, and which of the freelist.
use Rattle.std.proofs.Common.{ℤ, ◌≡◌, ℕ, ◌+◌, inl, inr, Bool, true, false, cond, Option, List, [], ◌∷◌, ◌++◌, map, length, refl, ap, ◌∙◌}
use Rattle.std.specs.Prelude.{filter}
use Rattle.std.proofs.lemmas.List.{map-append}
use Rattle.std.proofs.lemmas.List.Elements.{filter-append}
use Rattle.dbsound.proofs.Common.{Address, overflow_step, child_step, page_bytes, Cell, SchemaRow, Role, root, child, first_overflow, later_overflow, trunk}
use Rattle.dbsound.proofs.Common.{free_leaf, Reference, role_of, is_root, is_on_freelist, leaf_count, free_leaves, Use, Chain, last, full, Payload, whole}
use Rattle.dbsound.proofs.Common.{split, Payloads, none, more, role_in_tree, Tree, leaf, interior, Children, right_only, Freelist, no_trunk, and_trunk, Forest}
use Rattle.dbsound.proofs.Common.{no_tree, and_tree, free_pages, TreeKind}
use Rattle.dbformat.specs.Terms.{and_left}
use Rattle.dbformat.proofs.Roles.{no_root_on}
use Rattle.dbformat.proofs.Chains.{IsOverflow}
use Rattle.dbsurvey.proofs.Each.{Each, Each-none, Each-cons, Each-one, Each-append}
use Rattle.dbsound.proofs.TermVisits.{visit_at, chain_visits, payload_visits, payloads_visits, tree_visits, children_visits, leaf_visits, freelist_visits}
use Rattle.dbsound.proofs.TermVisits.{forest_visits}
use Rattle.dbsurvey.proofs.Lists.{count-append, count_none, count_all}

-- neither a root nor on the freelist
pub record IsBelow (t : Reference) : Type 0 where
  pub no_root : is_root (role_of t) ≡ false
  pub not_free : is_on_freelist (role_of t) ≡ false

overflow_below : (role : Role) (left from item p : ℕ) (a : Address) → IsOverflow role left → IsBelow (visit_at role from item p a)
overflow_below (first_overflow m) left from item p a o = record { no_root = refl; not_free = refl }
overflow_below (later_overflow m) left from item p a o = record { no_root = refl; not_free = refl }
overflow_below (root kind) left from item p a o = absurd o
overflow_below (child kind) left from item p a o = absurd o
overflow_below trunk left from item p a o = absurd o
overflow_below free_leaf left from item p a o = absurd o

chain_below : {file : List ℕ} {role : Role} {from p left : ℕ} {uses : List Use} {bytes : List ℕ} (t : Chain file role from p left uses bytes)
    (item : ℕ) (a : Address) → IsOverflow role left → Each IsBelow (chain_visits t item a)
chain_below (last {role} {from} {p} {left} h e) item a o = Each-one IsBelow (visit_at role from item p a) (overflow_below role left from item p a o)
chain_below (full {role} {from} {p} {left} h t) item a o =
    Each-cons IsBelow (visit_at role from item p a) (chain_visits t 0 (a ++ 0 ∷ [])) (overflow_below role left from item p a o)
    (chain_below t 0 (a ++ 0 ∷ []) refl)

payload_below : {file : List ℕ} {p : ℕ} {c : Cell} {uses : List Use} {bytes : List ℕ} (t : Payload file p c uses bytes)
    (i : ℕ) (a : Address) → Each IsBelow (payload_visits t i a)
payload_below (whole e) i a = Each-none IsBelow
payload_below (split e t) i a = chain_below t i (a ++ overflow_step i ∷ []) refl

payloads_below : {file : List ℕ} {p : ℕ} {cs : List Cell} {uses : List Use} {payloads : List (List ℕ)} (t : Payloads file p cs uses payloads)
    (i : ℕ) (a : Address) → Each IsBelow (payloads_visits t i a)
payloads_below none i a = Each-none IsBelow
payloads_below (more t ts) i a = Each-append IsBelow (payload_visits t i a) (payloads_visits ts (i + 1) a) (payload_below t i a) (payloads_below ts (i + 1) a)

child_below : (is_child : Bool) (kind : TreeKind) (from item p : ℕ) (a : Address) → is_child ≡ true
    → IsBelow (visit_at (role_in_tree is_child kind) from item p a)
child_below true kind from item p a e = record { no_root = refl; not_free = refl }
child_below false kind from item p a e = cc

mutual
  tree_below : {file : List ℕ} {is_child : Bool} {from p : ℕ} {kind : TreeKind} {height : ℕ} {low high : Option ℤ} {uses : List Use} {payloads : List (List ℕ)}
      (t : Tree file is_child from p kind height low high uses payloads) (item : ℕ) (a : Address) → is_child ≡ true → Each IsBelow (tree_visits t item a)
  tree_below (leaf {is_child} {from} {p} {kind} v w l r ps) item a e =
      Each-cons IsBelow (visit_at (role_in_tree is_child kind) from item p a) (payloads_visits ps 0 a) (child_below is_child kind from item p a e)
      (payloads_below ps 0 a)
  tree_below (interior {is_child} {from} {p} {kind} v w r cs) item a e =
      Each-cons IsBelow (visit_at (role_in_tree is_child kind) from item p a) (children_visits cs 0 a) (child_below is_child kind from item p a e)
      (children_below cs 0 a)

  children_below : {file : List ℕ} {p : ℕ} {kind : TreeKind} {height : ℕ} {low high : Option ℤ} {cs : List Cell} {right : ℕ} {uses : List Use}
      {payloads : List (List ℕ)}
      (t : Children file p kind height low high cs right uses payloads) (i : ℕ) (a : Address) → Each IsBelow (children_visits t i a)
  children_below (right_only t) i a = tree_below t i (a ++ child_step i ∷ []) refl
  children_below (and_left ps l lo hi t cs) i a = Each-append IsBelow (payload_visits ps i a ++ tree_visits t i (a ++ child_step i ∷ []))
      (children_visits cs (i + 1) a)
      (Each-append IsBelow (payload_visits ps i a) (tree_visits t i (a ++ child_step i ∷ [])) (payload_below ps i a)
      (tree_below t i (a ++ child_step i ∷ []) refl))
      (children_below cs (i + 1) a)

-- the roots of a list
abbrev pub root_pages : List Reference → List ℕ
root_pages V = map (λ r. r.page) (filter (λ r. is_root (role_of r)) V)

pub root_pages-append : (A B : List Reference) → root_pages (A ++ B) ≡ root_pages A ++ root_pages B
root_pages-append A B = ap (map (λ r. r.page)) (filter-append (λ r. is_root (role_of r)) A B)
    ∙ map-append (λ r. r.page) (filter (λ r. is_root (role_of r)) A) (filter (λ r. is_root (role_of r)) B)

no_roots : (V : List Reference) → Each (λ t. is_root (role_of t) ≡ false) V → root_pages V ≡ []
no_roots [] h = refl
no_roots (t ∷ V) h = ap (λ b. map (λ r. r.page) (cond b (t ∷ filter (λ r. is_root (role_of r)) V) (filter (λ r. is_root (role_of r)) V))) (h t (inl refl))
    ∙ no_roots V (λ u i. h u (inr i))

one_root : (from item p : ℕ) (a : Address) (is_child : Bool) (kind : TreeKind) (V : List Reference) → is_child ≡ false → Each IsBelow V
    → root_pages (visit_at (role_in_tree is_child kind) from item p a ∷ V) ≡ p ∷ []
one_root from item p a true kind V e h = cc
one_root from item p a false kind V e h = ap (λ l. p ∷ l) (no_roots V (λ t i. (h t i).no_root))

pub tree_root : {file : List ℕ} {is_child : Bool} {from p : ℕ} {kind : TreeKind} {height : ℕ} {low high : Option ℤ} {uses : List Use} {payloads : List (List ℕ)}
    (t : Tree file is_child from p kind height low high uses payloads) (item : ℕ) (a : Address) → is_child ≡ false → root_pages (tree_visits t item a) ≡ p ∷ []
tree_root (leaf {is_child} {from} {p} {kind} v w l r ps) item a e = one_root from item p a is_child kind (payloads_visits ps 0 a) e (payloads_below ps 0 a)
tree_root (interior {is_child} {from} {p} {kind} v w r cs) item a e = one_root from item p a is_child kind (children_visits cs 0 a) e (children_below cs 0 a)

pub forest_roots : {file : List ℕ} {rows : List SchemaRow} {uses : List Use} (f : Forest file rows uses) (k : ℕ) → root_pages (forest_visits f k)
    ≡ map (λ r. r.root) rows
forest_roots no_tree k = refl
forest_roots (and_tree {r} {rows} i h t f) k = root_pages-append (tree_visits t k (k ∷ [])) (forest_visits f (k + 1))
    ∙ ap (λ l. l ++ root_pages (forest_visits f (k + 1))) (tree_root t k (k ∷ []) refl) ∙ ap (λ l. r.root ∷ l) (forest_roots f (k + 1))

-- which are on the freelist, and how many
abbrev IsFree : Reference → Type 0
IsFree t = is_on_freelist (role_of t) ≡ true

leaves_free : (p : ℕ) (leaves : List ℕ) (j : ℕ) (a : Address) → Each IsFree (leaf_visits p leaves j a)
leaves_free p [] j a = Each-none IsFree
leaves_free p (q ∷ leaves) j a = Each-cons IsFree (visit_at free_leaf p j q (a ++ j ∷ [])) (leaf_visits p leaves (j + 1) a) refl
    (leaves_free p leaves (j + 1) a)

pub freelist_free : {file : List ℕ} {p : ℕ} {uses : List Use} (t : Freelist file p uses) (from item : ℕ) (a : Address)
    → Each IsFree (freelist_visits t from item a)
freelist_free no_trunk from item a = Each-none IsFree
freelist_free {file} (and_trunk {p} n l t) from item a =
    let page = page_bytes file p in
    let rest = freelist_visits t p (leaf_count page) (a ++ leaf_count page ∷ []) in
    Each-cons IsFree (visit_at trunk from item p a) (leaf_visits p (free_leaves page) 0 a ++ rest) refl
    (Each-append IsFree (leaf_visits p (free_leaves page) 0 a) rest (leaves_free p (free_leaves page) 0 a)
    (freelist_free t p (leaf_count page) (a ++ leaf_count page ∷ [])))

pub freelist_no_root : {file : List ℕ} {p : ℕ} {uses : List Use} (t : Freelist file p uses) (from item : ℕ) (a : Address)
    → root_pages (freelist_visits t from item a) ≡ []
freelist_no_root t from item a = no_roots (freelist_visits t from item a) (λ u i. no_root_on (role_of u) (freelist_free t from item a u i))

root_not_free : (is_child : Bool) (kind : TreeKind) → is_on_freelist (role_in_tree is_child kind) ≡ false
root_not_free true kind = refl
root_not_free false kind = refl

abbrev IsNotFree : Reference → Type 0
IsNotFree t = is_on_freelist (role_of t) ≡ false

pub tree_not_free : {file : List ℕ} {is_child : Bool} {from p : ℕ} {kind : TreeKind} {height : ℕ} {low high : Option ℤ} {uses : List Use}
    {payloads : List (List ℕ)}
    (t : Tree file is_child from p kind height low high uses payloads) (item : ℕ) (a : Address) → Each IsNotFree (tree_visits t item a)
tree_not_free (leaf {is_child} {from} {p} {kind} v w l r ps) item a =
    Each-cons IsNotFree (visit_at (role_in_tree is_child kind) from item p a) (payloads_visits ps 0 a) (root_not_free is_child kind)
    (λ t i. (payloads_below ps 0 a t i).not_free)
tree_not_free (interior {is_child} {from} {p} {kind} v w r cs) item a =
    Each-cons IsNotFree (visit_at (role_in_tree is_child kind) from item p a) (children_visits cs 0 a) (root_not_free is_child kind)
    (λ t i. (children_below cs 0 a t i).not_free)

pub forest_not_free : {file : List ℕ} {rows : List SchemaRow} {uses : List Use} (f : Forest file rows uses) (k : ℕ) → Each IsNotFree (forest_visits f k)
forest_not_free no_tree k = Each-none IsNotFree
forest_not_free (and_tree i h t f) k = Each-append IsNotFree (tree_visits t k (k ∷ [])) (forest_visits f (k + 1)) (tree_not_free t k (k ∷ []))
    (forest_not_free f (k + 1))

pub free_pages-append : (A B : List Reference) → free_pages (A ++ B) ≡ free_pages A + free_pages B
free_pages-append A B = count-append (λ r. is_on_freelist (role_of r)) A B

pub none_free : (V : List Reference) → Each IsNotFree V → free_pages V ≡ 0
none_free V h = count_none (λ r. is_on_freelist (role_of r)) V h

pub all_free : (V : List Reference) → Each IsFree V → free_pages V ≡ length V
all_free V h = count_all (λ r. is_on_freelist (role_of r)) V h
