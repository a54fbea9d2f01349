-- What the visits of a chain hold: its bytes, and as many as are left.
use Rattle.std.proofs.Common.{arith, ◌≡◌, ℕ, ◌-◌, ◌≤◌, inl, inr, min, List, [], ◌∷◌, ◌++◌, length, drop, refl, ap, ◌∙◌, length-append, length-take, length-drop}
use Rattle.std.specs.Prelude.{flat_map, unwrap_or}
use Rattle.std.proofs.lemmas.List.{append-nil}
use Rattle.dbsound.proofs.Common.{Address, overflow_step, usable_size, page_bytes, Cell, Role, root, child, first_overflow, later_overflow, trunk, free_leaf}
use Rattle.dbsound.proofs.Common.{Reference, held_bytes, Use, Chain, last, full, Payload, whole, split}
use Rattle.dbformat.specs.Payload.{overflow_bytes}
use Rattle.dbformat.specs.Reference.{bytes_left}
use Rattle.dbformat.proofs.Chains.{IsOverflow}
use Rattle.dbsurvey.proofs.Each.{Each}
use Rattle.dbsound.proofs.TermVisits.{visit_at, chain_visits, payload_visits}
use Rattle.dbformat.proofs.CellSizes.{IsSized}

-- the bytes that some visits hold
abbrev pub held_in : List ℕ → List Reference → List ℕ
held_in file V = flat_map (held_bytes file) V

left_is : (role : Role) (left : ℕ) → IsOverflow role left → unwrap_or (bytes_left role) 0 ≡ left
left_is (first_overflow m) left o = o
left_is (later_overflow m) left o = o
left_is (root kind) left o = absurd o
left_is (child kind) left o = absurd o
left_is trunk left o = absurd o
left_is free_leaf left o = absurd o

chain_held : {file : List ℕ} {role : Role} {from p left : ℕ} {uses : List Use} {bytes : List ℕ} (t : Chain file role from p left uses bytes)
    (item : ℕ) (a : Address) → IsOverflow role left → held_in file (chain_visits t item a) ≡ bytes
chain_held {file} (last {role} {from} {p} {left} h e) item a o = append-nil _
    ∙ ap (λ n. overflow_bytes (usable_size file) n (page_bytes file p)) (left_is role left o)
chain_held {file} (full {role} {from} {p} {left} {bytes} h t) item a o =
    ap (λ n. overflow_bytes (usable_size file) n (page_bytes file p) ++ held_in file (chain_visits t 0 (a ++ 0 ∷ []))) (left_is role left o)
    ∙ ap (λ l. overflow_bytes (usable_size file) left (page_bytes file p) ++ l) (chain_held t 0 (a ++ 0 ∷ []) refl)

-- the page of a visit has all usable bytes
abbrev pub IsLong : List ℕ → Reference → Type 0
IsLong file r = usable_size file ≤ length (page_bytes file r.page)

on_page : (usable left : ℕ) (page : List ℕ) → usable ≤ length page → length (overflow_bytes usable left page) ≡ min (usable - 4) left
on_page usable left page l = let a = length-take (min (usable - 4) left) (drop 4 page) in let b = length-drop 4 page in omega arith

chain_long : {file : List ℕ} {role : Role} {from p left : ℕ} {uses : List Use} {bytes : List ℕ} (t : Chain file role from p left uses bytes)
    (item : ℕ) (a : Address) → Each (IsLong file) (chain_visits t item a) → length bytes ≡ left
chain_long {file} (last {role} {from} {p} {left} h e) item a l = let b =
    on_page (usable_size file) left (page_bytes file p) (l (visit_at role from item p a) (inl refl)) in omega arith
chain_long {file} (full {role} {from} {p} {left} {bytes} h t) item a l =
    let b = on_page (usable_size file) left (page_bytes file p) (l (visit_at role from item p a) (inl refl)) in
    let c = chain_long t 0 (a ++ 0 ∷ []) (λ u i. l u (inr i)) in
    let d = length-append (overflow_bytes (usable_size file) left (page_bytes file p)) bytes in
    omega arith

pub payload_held : {file : List ℕ} {p : ℕ} {c : Cell} {uses : List Use} {bytes : List ℕ} (t : Payload file p c uses bytes)
    (i : ℕ) (a : Address) → c.local ++ held_in file (payload_visits t i a) ≡ bytes
payload_held {c} (whole e) i a = append-nil c.local
payload_held {c} (split e t) i a = ap (λ l. c.local ++ l) (chain_held t i (a ++ overflow_step i ∷ []) refl)

pub payload_long : {file : List ℕ} {p : ℕ} {c : Cell} {uses : List Use} {bytes : List ℕ} (t : Payload file p c uses bytes)
    (i : ℕ) (a : Address) → IsSized c → Each (IsLong file) (payload_visits t i a) → length bytes ≡ c.size
payload_long (whole e) i a s l = s.all_local e
payload_long {c} (split {bytes} e t) i a s l =
    let k = chain_long t i (a ++ overflow_step i ∷ []) l in
    let w = s.within in
    let d = length-append c.local bytes in
    omega arith
