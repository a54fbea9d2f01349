-- The depths of the pages of a tree: none is deeper than its leaves, which have one depth.
use Rattle.std.proofs.Common.{◌≡◌, ℕ, ◌+◌, ◌≤◌, Bool, true, false, List, [], ◌∷◌, ◌++◌, length, Option, Some, None, ℤ, refl, sym, subst, ◌∙◌, arith}
use Rattle.std.proofs.Common.{length-append}
use Rattle.std.specs.Prelude.{is_some}
use Rattle.dbsound.proofs.Common.{Address, overflow_step, child_step, usable_size, page_bytes, View, is_interior, undamaged, Cell, right_child, Role, root}
use Rattle.dbsound.proofs.Common.{child, first_overflow, later_overflow, trunk, free_leaf, Reference, role_of, tree_kind, tree_view, Use, Chain, last, full}
use Rattle.dbsound.proofs.Common.{Payload, whole, split, Payloads, none, more, role_in_tree, Tree, leaf, interior, Children, right_only, TreeKind}
use Rattle.dbformat.specs.Terms.{and_left}
use Rattle.dbformat.specs.Terms as Terms
use Rattle.dbformat.proofs.Chains.{IsOverflow}
use Rattle.dbsurvey.proofs.Each.{Each, Each-none, Each-cons, Each-one, Each-append, Each-implies}
use Rattle.dbsound.proofs.TermVisits.{visit_at, chain_visits, payload_visits, payloads_visits, tree_visits, children_visits}

-- a tree page not below this depth, and a leaf at it
pub record IsAtDepth (file : List ℕ) (deep : ℕ) (t : Reference) : Type 0 where
  pub within : is_some (tree_kind (role_of t)) ≡ true → length t.address ≤ deep
  pub leaves : (v : View) → tree_view file t ≡ Some v → is_interior v.kind ≡ false → length t.address ≡ deep

-- a visit of no tree page
abbrev pub IsNoTree : Reference → Type 0
IsNoTree t = tree_kind (role_of t) ≡ None

pub no_view : (file : List ℕ) (t : Reference) → IsNoTree t → tree_view file t ≡ None
unfolding tree_view
no_view file t e = rw e refl

pub no_tree_depth : (file : List ℕ) (deep : ℕ) (t : Reference) → IsNoTree t → IsAtDepth file deep t
no_tree_depth file deep t e = record {
  within = λ h. let k = rw e at h in cc;
  leaves = λ v f i. let k = sym (no_view file t e) ∙ f in cc;
}

overflow_no_tree : (role : Role) (left : ℕ) → IsOverflow role left → tree_kind role ≡ None
overflow_no_tree (first_overflow m) left o = refl
overflow_no_tree (later_overflow m) left o = refl
overflow_no_tree (root kind) left o = absurd o
overflow_no_tree (child kind) left o = absurd o
overflow_no_tree trunk left o = absurd o
overflow_no_tree free_leaf left o = absurd o

chain_no_tree : {file : List ℕ} {role : Role} {from p left : ℕ} {uses : List Use} {bytes : List ℕ} (t : Chain file role from p left uses bytes)
    (item : ℕ) (a : Address) → IsOverflow role left → Each IsNoTree (chain_visits t item a)
chain_no_tree (last {role} {from} {p} {left} h e) item a o = Each-one IsNoTree (visit_at role from item p a) (overflow_no_tree role left o)
chain_no_tree (full {role} {from} {p} {left} h t) item a o =
    Each-cons IsNoTree (visit_at role from item p a) (chain_visits t 0 (a ++ 0 ∷ [])) (overflow_no_tree role left o) (chain_no_tree t 0 (a ++ 0 ∷ []) refl)

pub payload_no_tree : {file : List ℕ} {p : ℕ} {c : Cell} {uses : List Use} {bytes : List ℕ} (t : Payload file p c uses bytes)
    (i : ℕ) (a : Address) → Each IsNoTree (payload_visits t i a)
payload_no_tree (whole e) i a = Each-none IsNoTree
payload_no_tree (split e t) i a = chain_no_tree t i (a ++ overflow_step i ∷ []) refl

pub payloads_no_tree : {file : List ℕ} {p : ℕ} {cs : List Cell} {uses : List Use} {payloads : List (List ℕ)} (t : Payloads file p cs uses payloads)
    (i : ℕ) (a : Address) → Each IsNoTree (payloads_visits t i a)
payloads_no_tree none i a = Each-none IsNoTree
payloads_no_tree (more t ts) i a = Each-append IsNoTree (payload_visits t i a) (payloads_visits ts (i + 1) a) (payload_no_tree t i a)
    (payloads_no_tree ts (i + 1) a)

-- the view of a page of a tree
pub own_view : (file : List ℕ) (is_child : Bool) (kind : TreeKind) (from item p : ℕ) (a : Address) (v : View)
    → undamaged kind p (usable_size file) (page_bytes file p) ≡ Some v
    → tree_view file (visit_at (role_in_tree is_child kind) from item p a) ≡ Some v
unfolding tree_view
own_view file true kind from item p a v e = e
own_view file false kind from item p a v e = e

leaf_depth : (file : List ℕ) (role : Role) (from item p : ℕ) (a : Address) → IsAtDepth file (length a) (visit_at role from item p a)
leaf_depth file role from item p a = record { within = λ h. omega arith; leaves = λ v e i. refl }

interior_depth : {file : List ℕ} {kind : TreeKind} {is_child : Bool} {p right : ℕ} {v : View} → Terms.IsFaultlessPage file kind is_child p v → right_child v
    ≡ Some right
    → (from item deep : ℕ) (a : Address) → length a ≤ deep → IsAtDepth file deep (visit_at (role_in_tree is_child kind) from item p a)
interior_depth {file} {kind} {is_child} {p} {right} {v} w r from item deep a l = record {
  within = λ h. l;
  leaves = λ u e i. let same : u ≡ v = some_same u v (sym e ∙ own_view file is_child kind from item p a v w.undamaged) in
      absurd (not_leaf (subst (λ v. is_interior v.kind ≡ false) same i));
}
  where
    some_same : (u v : View) → Some u ≡ Some v → u ≡ v
    some_same u v e = cc

    not_leaf : is_interior v.kind ≡ false → ⊥
    not_leaf i = let k = rw i at r in cc

mutual
  pub tree_depth : {file : List ℕ} {is_child : Bool} {from p : ℕ} {kind : TreeKind} {height : ℕ} {low high : Option ℤ} {uses : List Use}
      {payloads : List (List ℕ)}
      (t : Tree file is_child from p kind height low high uses payloads) (item : ℕ) (a : Address) (deep : ℕ) → deep + 1 ≡ length a + height
      → Each (IsAtDepth file deep) (tree_visits t item a)
  tree_depth {file} (leaf {is_child} {from} {p} {kind} v w l r ps) item a deep e =
      let same : length a ≡ deep = omega arith in
      subst (λ deep. Each (IsAtDepth file deep) (visit_at (role_in_tree is_child kind) from item p a ∷ payloads_visits ps 0 a)) same
      (Each-cons (IsAtDepth file (length a)) (visit_at (role_in_tree is_child kind) from item p a) (payloads_visits ps 0 a)
      (leaf_depth file (role_in_tree is_child kind) from item p a)
      (Each-implies IsNoTree (IsAtDepth file (length a)) (payloads_visits ps 0 a) (no_tree_depth file (length a)) (payloads_no_tree ps 0 a)))
  tree_depth {file} (interior {is_child} {from} {p} {kind} {height} v w r cs) item a deep e =
      Each-cons (IsAtDepth file deep) (visit_at (role_in_tree is_child kind) from item p a) (children_visits cs 0 a)
      (interior_depth w r from item deep a (omega arith))
      (children_depth cs 0 a deep (omega arith))

  children_depth : {file : List ℕ} {p : ℕ} {kind : TreeKind} {height : ℕ} {low high : Option ℤ} {cs : List Cell} {right : ℕ} {uses : List Use}
      {payloads : List (List ℕ)}
      (t : Children file p kind height low high cs right uses payloads) (i : ℕ) (a : Address) (deep : ℕ) → deep ≡ length a + height
      → Each (IsAtDepth file deep) (children_visits t i a)
  children_depth (right_only t) i a deep e = tree_depth t i (a ++ child_step i ∷ []) deep (let l = length-append a (child_step i ∷ []) in omega arith)
  children_depth {file} (and_left ps l lo hi t cs) i a deep e =
      Each-append (IsAtDepth file deep) (payload_visits ps i a ++ tree_visits t i (a ++ child_step i ∷ [])) (children_visits cs (i + 1) a)
      (Each-append (IsAtDepth file deep) (payload_visits ps i a) (tree_visits t i (a ++ child_step i ∷ []))
      (Each-implies IsNoTree (IsAtDepth file deep) (payload_visits ps i a) (no_tree_depth file deep) (payload_no_tree ps i a))
      (tree_depth t i (a ++ child_step i ∷ []) deep (let l = length-append a (child_step i ∷ []) in omega arith)))
      (children_depth cs (i + 1) a deep e)
