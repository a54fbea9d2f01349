-- The visits of a term are below the address of its first page. So they all begin with it, and with no address beside it.
use Rattle.std.proofs.Common.{◌≡◌, ℕ, ◌+◌, ◌*◌, ◌≤◌, Bool, List, [], ◌∷◌, ◌++◌, Option, ℤ, sym, ◌∙◌, arith, append_assoc, ◌≢◌, ◌<◌, true, false, subst}
use Rattle.std.proofs.lemmas.List.{append-nil}
use Rattle.dbsound.proofs.Common.{Address, overflow_step, child_step, Cell, Role, Reference, Use, Chain, last, full, Payload, whole, split, Payloads, none}
use Rattle.dbsound.proofs.Common.{more, role_in_tree, Tree, leaf, interior, Children, right_only, TreeKind, below}
use Rattle.dbformat.specs.Terms.{and_left}
use Rattle.dbsurvey.proofs.Each.{Each, Each-none, Each-cons, Each-append, Each-implies}
use Rattle.dbsound.proofs.TermVisits.{visit_at, chain_visits, payload_visits, payloads_visits, tree_visits, children_visits}
use Rattle.std.specs.Prelude.{nat_eq}
use Rattle.std.specs.List.{starts_with}
use Rattle.dbsurvey.proofs.Beginnings.{begins, begins-other}
use Rattle.dbsurvey.proofs.Lists.{filter-all, filter-none}

-- b begins with a
abbrev pub IsUnder : Address → Reference → Type 0
IsUnder a t = (rest : List ℕ) × (t.address ≡ a ++ rest)

-- b begins with a, and then a step from n on
abbrev pub IsFrom : Address → ℕ → Reference → Type 0
IsFrom a n t = (s : ℕ) × (rest : List ℕ) × (n ≤ s) × (t.address ≡ a ++ (s ∷ rest))

pub under_itself : (role : Role) (from item p : ℕ) (a : Address) → IsUnder a (visit_at role from item p a)
under_itself role from item p a = ([], sym (append-nil a))

from_step : (a : Address) (s : ℕ) (t : Reference) → IsUnder (a ++ s ∷ []) t → IsFrom a s t
from_step a s t h = (s, h.0, omega arith, h.1 ∙ append_assoc a (s ∷ []) h.0)

from_less : (a : Address) (m n : ℕ) (t : Reference) → m ≤ n → IsFrom a n t → IsFrom a m t
from_less a m n t l h = let k = h.2 in (h.0, h.1, omega arith, h.3)

under_from : (a : Address) (n : ℕ) (t : Reference) → IsFrom a n t → IsUnder a t
under_from a n t h = (h.0 ∷ h.1, h.3)

chain_under : {file : List ℕ} {role : Role} {from p left : ℕ} {uses : List Use} {bytes : List ℕ} (t : Chain file role from p left uses bytes)
    (item : ℕ) (a : Address) → Each (IsUnder a) (chain_visits t item a)
chain_under (last {role} {from} {p} h e) item a = Each-cons (IsUnder a) (visit_at role from item p a) [] (under_itself role from item p a)
    (Each-none (IsUnder a))
chain_under (full {role} {from} {p} h t) item a = Each-cons (IsUnder a) (visit_at role from item p a) (chain_visits t 0 (a ++ 0 ∷ []))
    (under_itself role from item p a)
    (Each-implies (IsUnder (a ++ 0 ∷ [])) (IsUnder a) (chain_visits t 0 (a ++ 0 ∷ [])) (λ u k. under_from a 0 u (from_step a 0 u k))
    (chain_under t 0 (a ++ 0 ∷ [])))

pub payload_under : {file : List ℕ} {p : ℕ} {c : Cell} {uses : List Use} {bytes : List ℕ} (t : Payload file p c uses bytes)
    (i : ℕ) (a : Address) → Each (IsUnder (a ++ overflow_step i ∷ [])) (payload_visits t i a)
payload_under (whole e) i a = Each-none (IsUnder (a ++ overflow_step i ∷ []))
payload_under (split e t) i a = chain_under t i (a ++ overflow_step i ∷ [])

payload_from : {file : List ℕ} {p : ℕ} {c : Cell} {uses : List Use} {bytes : List ℕ} (t : Payload file p c uses bytes)
    (i : ℕ) (a : Address) → Each (IsFrom a (3 * i)) (payload_visits t i a)
payload_from t i a = Each-implies (IsUnder (a ++ overflow_step i ∷ [])) (IsFrom a (3 * i)) (payload_visits t i a) (λ u k. from_step a (3 * i) u k)
    (payload_under t i a)

pub payloads_from : {file : List ℕ} {p : ℕ} {cs : List Cell} {uses : List Use} {payloads : List (List ℕ)} (t : Payloads file p cs uses payloads)
    (i : ℕ) (a : Address) → Each (IsFrom a (3 * i)) (payloads_visits t i a)
payloads_from none i a = Each-none (IsFrom a (3 * i))
payloads_from (more t ts) i a = Each-append (IsFrom a (3 * i)) (payload_visits t i a) (payloads_visits ts (i + 1) a) (payload_from t i a)
    (Each-implies (IsFrom a (3 * (i + 1))) (IsFrom a (3 * i)) (payloads_visits ts (i + 1) a) (λ u k. from_less a (3 * i) (3 * (i + 1)) u (omega arith) k)
    (payloads_from ts (i + 1) a))

at_child : (i : ℕ) (a : Address) (V : List Reference) → Each (IsUnder (a ++ child_step i ∷ [])) V → Each (IsFrom a (3 * i)) V
at_child i a V h = Each-implies (IsUnder (a ++ child_step i ∷ [])) (IsFrom a (3 * i)) V
    (λ u k. from_less a (3 * i) (child_step i) u (omega arith) (from_step a (child_step i) u k)) h

mutual
  pub tree_under : {file : List ℕ} {is_child : Bool} {from p : ℕ} {kind : TreeKind} {height : ℕ} {low high : Option ℤ} {uses : List Use}
      {payloads : List (List ℕ)}
      (t : Tree file is_child from p kind height low high uses payloads) (item : ℕ) (a : Address) → Each (IsUnder a) (tree_visits t item a)
  tree_under (leaf {is_child} {from} {p} {kind} v w l r ps) item a =
      Each-cons (IsUnder a) (visit_at (role_in_tree is_child kind) from item p a) (payloads_visits ps 0 a)
      (under_itself (role_in_tree is_child kind) from item p a)
      (Each-implies (IsFrom a 0) (IsUnder a) (payloads_visits ps 0 a) (λ u k. under_from a 0 u k) (payloads_from ps 0 a))
  tree_under (interior {is_child} {from} {p} {kind} v w r cs) item a =
      Each-cons (IsUnder a) (visit_at (role_in_tree is_child kind) from item p a) (children_visits cs 0 a)
      (under_itself (role_in_tree is_child kind) from item p a)
      (Each-implies (IsFrom a 0) (IsUnder a) (children_visits cs 0 a) (λ u k. under_from a 0 u k) (children_from cs 0 a))

  pub children_from : {file : List ℕ} {p : ℕ} {kind : TreeKind} {height : ℕ} {low high : Option ℤ} {cs : List Cell} {right : ℕ} {uses : List Use}
      {payloads : List (List ℕ)}
      (t : Children file p kind height low high cs right uses payloads) (i : ℕ) (a : Address) → Each (IsFrom a (3 * i)) (children_visits t i a)
  children_from (right_only t) i a = at_child i a (tree_visits t i (a ++ child_step i ∷ [])) (tree_under t i (a ++ child_step i ∷ []))
  children_from (and_left ps l lo hi t cs) i a = Each-append (IsFrom a (3 * i)) (payload_visits ps i a ++ tree_visits t i (a ++ child_step i ∷ []))
      (children_visits cs (i + 1) a)
      (Each-append (IsFrom a (3 * i)) (payload_visits ps i a) (tree_visits t i (a ++ child_step i ∷ [])) (payload_from ps i a)
      (at_child i a (tree_visits t i (a ++ child_step i ∷ [])) (tree_under t i (a ++ child_step i ∷ []))))
      (Each-implies (IsFrom a (3 * (i + 1))) (IsFrom a (3 * i)) (children_visits cs (i + 1) a) (λ u k. from_less a (3 * i) (3 * (i + 1)) u (omega arith) k)
      (children_from cs (i + 1) a))

pub all_begin : (b : Address) (V : List Reference) → Each (IsUnder b) V → below V b ≡ V
all_begin b V h = filter-all (λ r. starts_with nat_eq r.address b) V
    (λ r i. let u = h r i in subst (λ x. starts_with nat_eq x b ≡ true) (sym u.1) (begins b u.0))

pub none_begin_from : (a : Address) (n s : ℕ) (rest : Address) (V : List Reference) → s < n → Each (IsFrom a n) V → below V (a ++ (s ∷ rest)) ≡ []
none_begin_from a n s rest V l h = filter-none (λ r. starts_with nat_eq r.address (a ++ (s ∷ rest))) V
    (λ r i. let u = h r i in let m = u.2 in subst (λ x. starts_with nat_eq x (a ++ (s ∷ rest)) ≡ false) (sym u.3)
    (begins-other a u.0 s u.1 rest (λ e. omega arith)))

pub none_begin_under : (a : Address) (n s : ℕ) (rest : Address) (V : List Reference) → n ≢ s → Each (IsUnder (a ++ n ∷ [])) V → below V (a ++ (s ∷ rest)) ≡ []
none_begin_under a n s rest V l h = filter-none (λ r. starts_with nat_eq r.address (a ++ (s ∷ rest))) V
    (λ r i. let u = h r i in subst (λ x. starts_with nat_eq x (a ++ (s ∷ rest)) ≡ false) (sym (u.1 ∙ append_assoc a (n ∷ []) u.0))
    (begins-other a n s u.0 rest l))
