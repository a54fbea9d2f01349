-- Faults of a visit that rest on its page alone: the pages of a term have none.
use Rattle.std.proofs.Common.{◌≡◌, ℕ, ◌+◌, ◌-◌, ◌≤◌, ◌<◌, Bool, true, false, not, List, [], ◌∷◌, ◌++◌, Option, ℤ, refl, ap, ◌∙◌, arith}
use Rattle.dbsound.proofs.Common.{fault, Address, overflow_step, child_step, usable_size, page_bytes, overflow_next, Cell, SchemaRow, Role, root, child}
use Rattle.dbsound.proofs.Common.{first_overflow, later_overflow, trunk, free_leaf, Reference, role_of, leaf_count, most_leaves, free_leaves, tree_page_faults}
use Rattle.dbsound.proofs.Common.{depth_fault, role_faults, page_faults, Use, Chain, last, full, Payload, whole, split, Payloads, none, more, role_in_tree}
use Rattle.dbsound.proofs.Common.{Tree, leaf, interior, Children, right_only, Freelist, no_trunk, and_trunk, Forest, no_tree, and_tree, Fault, TreeKind}
use Rattle.dbformat.specs.declared.FaultCode.TheVariants.{O01, L01}
use Rattle.std.specs.Prelude.{pos, ◌==◌, nat_le, nat_lt, ◌&&◌}
use Rattle.std.proofs.lemmas.Bool.Decides.{nat_tests}
use Rattle.std.proofs.Math.Bool.{and-false}
use Rattle.dbformat.specs.PageFaults.{overflow_fault, trunk_fault}
use Rattle.dbformat.specs.Terms.{and_left}
use Rattle.dbformat.proofs.Chains.{IsOverflow}
use Rattle.dbsurvey.proofs.Each.{Each, Each-none, Each-cons, Each-one, Each-append}
use Rattle.dbsound.proofs.TermVisits.{visit_at, chain_visits, payload_visits, payloads_visits, tree_visits, children_visits, leaf_visits, freelist_visits}
use Rattle.dbsound.proofs.TermVisits.{forest_visits}
use Rattle.dbformat.proofs.TestsLemmas.{reported_none}

-- the faults of a page in a role, apart from other pages
abbrev pub own_faults : Role → List ℕ → ℕ → List Fault
own_faults (root kind) file p = tree_page_faults kind false p (usable_size file) (page_bytes file p)
own_faults (child kind) file p = tree_page_faults kind true p (usable_size file) (page_bytes file p)
own_faults (first_overflow left) file p = overflow_fault (usable_size file) left p (page_bytes file p)
own_faults (later_overflow left) file p = overflow_fault (usable_size file) left p (page_bytes file p)
own_faults trunk file p = trunk_fault (usable_size file) p (page_bytes file p)
own_faults free_leaf file p = []

-- a visit whose page has none of these
abbrev pub IsClean : List ℕ → Reference → Type 0
IsClean file r = own_faults (role_of r) file r.page ≡ []

-- beside these a tree page has one of depth
pub clean_page : (file : List ℕ) (V : List Reference) (r : Reference) → IsClean file r → depth_fault file V r ≡ [] → page_faults file V r ≡ []
unfolding page_faults
clean_page file V r c d = by_role (role_of r) c
  where
    by_role : (role : Role) → own_faults role file r.page ≡ [] → role_faults role file V r ≡ []
    by_role (root kind) c = ap (λ l. l ++ depth_fault file V r) c ∙ d
    by_role (child kind) c = ap (λ l. l ++ depth_fault file V r) c ∙ d
    by_role (first_overflow left) c = c
    by_role (later_overflow left) c = c
    by_role trunk c = c
    by_role free_leaf c = c

overflow_own : (role : Role) (left : ℕ) (file : List ℕ) (p : ℕ) → IsOverflow role left
    → own_faults role file p ≡ overflow_fault (usable_size file) left p (page_bytes file p)
overflow_own (first_overflow m) left file p o = rw o refl
overflow_own (later_overflow m) left file p o = rw o refl
overflow_own (root kind) left file p o = absurd o
overflow_own (child kind) left file p o = absurd o
overflow_own trunk left file p o = absurd o
overflow_own free_leaf left file p o = absurd o

full_clean : (usable left p : ℕ) (page : List ℕ) → usable - 4 < left → overflow_fault usable left p page ≡ []
full_clean usable left p page h = let e : nat_le left (usable - 4) ≡ false = grind (arith, nat_tests) in rw e refl

last_clean : (usable left p : ℕ) (page : List ℕ) → overflow_next page ≡ 0 → overflow_fault usable left p page ≡ []
last_clean usable left p page h = reported_none (nat_le left (usable - 4) && not (overflow_next page == 0)) (fault O01 p 0 (pos (overflow_next page)))
    (ap (λ n. nat_le left (usable - 4) && not (n == 0)) h ∙ and-false (nat_le left (usable - 4)))

chain_clean : {file : List ℕ} {role : Role} {from p left : ℕ} {uses : List Use} {bytes : List ℕ} (t : Chain file role from p left uses bytes)
    (item : ℕ) (a : Address) → IsOverflow role left → Each (IsClean file) (chain_visits t item a)
chain_clean {file} (last {role} {from} {p} {left} h e) item a o =
    Each-one (IsClean file) (visit_at role from item p a) (overflow_own role left file p o ∙ last_clean (usable_size file) left p (page_bytes file p) e)
chain_clean {file} (full {role} {from} {p} {left} h t) item a o = Each-cons (IsClean file) (visit_at role from item p a) (chain_visits t 0 (a ++ 0 ∷ []))
    (overflow_own role left file p o ∙ full_clean (usable_size file) left p (page_bytes file p) h) (chain_clean t 0 (a ++ 0 ∷ []) refl)

payload_clean : {file : List ℕ} {p : ℕ} {c : Cell} {uses : List Use} {bytes : List ℕ} (t : Payload file p c uses bytes)
    (i : ℕ) (a : Address) → Each (IsClean file) (payload_visits t i a)
payload_clean {file} (whole e) i a = Each-none (IsClean file)
payload_clean (split e t) i a = chain_clean t i (a ++ overflow_step i ∷ []) refl

payloads_clean : {file : List ℕ} {p : ℕ} {cs : List Cell} {uses : List Use} {payloads : List (List ℕ)} (t : Payloads file p cs uses payloads)
    (i : ℕ) (a : Address) → Each (IsClean file) (payloads_visits t i a)
payloads_clean {file} none i a = Each-none (IsClean file)
payloads_clean {file} (more t ts) i a = Each-append (IsClean file) (payload_visits t i a) (payloads_visits ts (i + 1) a) (payload_clean t i a)
    (payloads_clean ts (i + 1) a)

tree_own : (is_child : Bool) (kind : TreeKind) (file : List ℕ) (p : ℕ) → tree_page_faults kind is_child p (usable_size file) (page_bytes file p) ≡ []
    → own_faults (role_in_tree is_child kind) file p ≡ []
tree_own true kind file p e = e
tree_own false kind file p e = e

mutual
  pub tree_clean : {file : List ℕ} {is_child : Bool} {from p : ℕ} {kind : TreeKind} {height : ℕ} {low high : Option ℤ} {uses : List Use}
      {payloads : List (List ℕ)}
      (t : Tree file is_child from p kind height low high uses payloads) (item : ℕ) (a : Address) → Each (IsClean file) (tree_visits t item a)
  tree_clean {file} (leaf {is_child} {from} {p} {kind} v w l r ps) item a =
      Each-cons (IsClean file) (visit_at (role_in_tree is_child kind) from item p a) (payloads_visits ps 0 a)
      (tree_own is_child kind file p w.faultless) (payloads_clean ps 0 a)
  tree_clean {file} (interior {is_child} {from} {p} {kind} v w r cs) item a =
      Each-cons (IsClean file) (visit_at (role_in_tree is_child kind) from item p a) (children_visits cs 0 a)
      (tree_own is_child kind file p w.faultless) (children_clean cs 0 a)

  children_clean : {file : List ℕ} {p : ℕ} {kind : TreeKind} {height : ℕ} {low high : Option ℤ} {cs : List Cell} {right : ℕ} {uses : List Use}
      {payloads : List (List ℕ)}
      (t : Children file p kind height low high cs right uses payloads) (i : ℕ) (a : Address) → Each (IsClean file) (children_visits t i a)
  children_clean (right_only t) i a = tree_clean t i (a ++ child_step i ∷ [])
  children_clean {file} (and_left ps l lo hi t cs) i a =
      Each-append (IsClean file) (payload_visits ps i a ++ tree_visits t i (a ++ child_step i ∷ [])) (children_visits cs (i + 1) a)
      (Each-append (IsClean file) (payload_visits ps i a) (tree_visits t i (a ++ child_step i ∷ [])) (payload_clean ps i a)
      (tree_clean t i (a ++ child_step i ∷ [])))
      (children_clean cs (i + 1) a)

leaves_clean : (file : List ℕ) (p : ℕ) (leaves : List ℕ) (j : ℕ) (a : Address) → Each (IsClean file) (leaf_visits p leaves j a)
leaves_clean file p [] j a = Each-none (IsClean file)
leaves_clean file p (q ∷ leaves) j a = Each-cons (IsClean file) (visit_at free_leaf p j q (a ++ j ∷ [])) (leaf_visits p leaves (j + 1) a) refl
    (leaves_clean file p leaves (j + 1) a)

not_less : (m n : ℕ) → n ≤ m → nat_lt m n ≡ false
not_less m n h = grind (arith, nat_tests)

trunk_clean : (usable p : ℕ) (page : List ℕ) → leaf_count page ≤ most_leaves usable → trunk_fault usable p page ≡ []
trunk_clean usable p page h = reported_none (nat_lt (most_leaves usable) (leaf_count page)) (fault L01 p 0 (pos (leaf_count page)))
    (not_less (most_leaves usable) (leaf_count page) h)

pub freelist_clean : {file : List ℕ} {p : ℕ} {uses : List Use} (t : Freelist file p uses) (from item : ℕ) (a : Address)
    → Each (IsClean file) (freelist_visits t from item a)
freelist_clean {file} no_trunk from item a = Each-none (IsClean file)
freelist_clean {file} (and_trunk {p} n l t) from item a =
    let page = page_bytes file p in
    let rest = freelist_visits t p (leaf_count page) (a ++ leaf_count page ∷ []) in
    Each-cons (IsClean file) (visit_at trunk from item p a) (leaf_visits p (free_leaves page) 0 a ++ rest) (trunk_clean (usable_size file) p page l)
    (Each-append (IsClean file) (leaf_visits p (free_leaves page) 0 a) rest (leaves_clean file p (free_leaves page) 0 a)
    (freelist_clean t p (leaf_count page) (a ++ leaf_count page ∷ [])))

pub forest_clean : {file : List ℕ} {rows : List SchemaRow} {uses : List Use} (f : Forest file rows uses) (k : ℕ) → Each (IsClean file) (forest_visits f k)
forest_clean {file} no_tree k = Each-none (IsClean file)
forest_clean {file} (and_tree i h t f) k = Each-append (IsClean file) (tree_visits t k (k ∷ [])) (forest_visits f (k + 1)) (tree_clean t k (k ∷ []))
    (forest_clean f (k + 1))
