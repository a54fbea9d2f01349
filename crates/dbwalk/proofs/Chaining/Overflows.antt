-- What is reported of an overflow page, and what it leads to.
use Rattle.std.proofs.Common.{◌≡◌, ℕ, ◌+◌, ◌-◌, ◌*◌, ◌≤◌, ◌<◌, Bool, true, false, cond, not, ◌&&◌, List, [], ◌∷◌, ◌++◌, length, map, take, drop, Option, Some}
use Rattle.std.proofs.Common.{None, refl, sym, ap, ◌∙◌, arith, option_to_list, nat_le, nat_lt, ◌==◌, pos}
use Rattle.dbwalk.proofs.Common.{Go, errands_of, start_of, then_step, is_child_step, cell_of_step, children_on, chain_on, child_path, chain_place, go, fault}
use Rattle.dbwalk.proofs.Common.{geometry, page_bytes, usable_size, overflow_next, role_faults, page_faults, Role, later_overflow}
use Rattle.dbwalk.proofs.Common.{Reference, role_of, bytes_left, link, row_in, at_page, story_of, is_too_deep, reported_if, IsOnChain, next_of}
use Rattle.dbwalk.proofs.Common.{cause_of, Cause, reported_row, reported_fault, reported_by, reported_at, nat_tests, length-append, append-nil, Fault}
use Rattle.dbwalk.proofs.Common.{Chain}
use Rattle.dbformat.specs.Counts.{overflow_counts}
use Rattle.dbformat.specs.PageFaults.{overflow_fault}
use Rattle.dbformat.specs.Rows.{StatRow, overflow_page_row}
use Rattle.dbformat.specs.declared.counts.Counts.{Counts}
use Rattle.dbformat.specs.declared.FaultCode.TheVariants.{O01}
use Rattle.dbwalk.specs.declared.sink.Row.{Row}
use Rattle.dbwalk.specs.Rows.{row_of}
use Rattle.dbformat.specs.declared.PageType.{PageType}
use Rattle.dbformat.specs.declared.PageType.TheVariants.{Overflow}
use Rattle.dbformat.proofs.Looping.{by_chain}
use Rattle.dbsource.specs.Answers.{IsRangeOf}

-- the bytes that a load leaves are those of the page
pub page_read : (file bytes : List ℕ) (size p : ℕ) → length bytes ≡ size → IsRangeOf file ((p - 1) * size) bytes → (geometry file).page_size ≡ size → bytes
    ≡ page_bytes file p
unfolding page_bytes
page_read file bytes size p l h e =
    h.1 ∙ ap (λ n. take n (drop ((p - 1) * size) file)) l ∙ ap (λ n. take n (drop ((p - 1) * n) file)) (sym e)

-- what is reported of it
pub reported_overflow : (file : List ℕ) (U : List Reference) (c : Reference) (left : ℕ) → bytes_left (role_of c) ≡ Some left
    → reported_at file U (at_page c) ≡ reported_row (overflow_page_row c (usable_size file) left)
    ∷ reported_by (cause_of file U (at_page c)) (overflow_fault (usable_size file) left c.page (page_bytes file c.page))
unfolding page_faults
reported_overflow file U c left h = by_role (role_of c) h
  where
    by_role : (role : Role) → bytes_left role ≡ Some left → map reported_row (option_to_list (row_in role file c))
        ++ reported_by (cause_of file U (at_page c)) (role_faults role file U c)
        ≡ reported_row (overflow_page_row c (usable_size file) left)
        ∷ reported_by (cause_of file U (at_page c)) (overflow_fault (usable_size file) left c.page (page_bytes file c.page))
    by_role role e = grind arith

pub row_is : (start start' : ℕ) (path path' : List ℕ) (chain chain' : Option (ℕ × ℕ)) (page page' : ℕ) (type type' : PageType) (counts counts' : Counts)
    → start ≡ start' → path ≡ path' → chain ≡ chain' → page ≡ page' → type ≡ type' → counts ≡ counts'
    → (let r : StatRow = record { start = start; path = path; chain = chain; page = page; pagetype = type; counts = counts } in r)
    ≡ record { start = start'; path = path'; chain = chain'; page = page'; pagetype = type'; counts = counts' }
row_is start start' path path' chain chain' page page' type type' counts counts' a b c d e f = cc

-- a row and a fault that were made of these numbers are what is reported of the page
pub reported_is : (file : List ℕ) (U : List Reference) (d : Reference) (chain : Chain) (number page usable left next : ℕ) (row : Row) (f : Option Fault)
    → usable ≡ usable_size file → next ≡ overflow_next (page_bytes file page) → d.page ≡ page → bytes_left (role_of d) ≡ Some left → IsOnChain chain number d
    → row.start ≡ chain.start → row.path.now ≡ chain.path.now → row.chain ≡ Some (chain.cell, number)
    → row.page ≡ page → row.pagetype ≡ Overflow → row.counts ≡ overflow_counts usable left
    → option_to_list f ≡ reported_if (nat_le left (usable - 4) && not (next == 0)) (fault O01 page 0 (pos next))
    → (why : Cause) → why ≡ cause_of file U (at_page d) O01
    → reported_row (row_of row) ∷ map (λ f. reported_fault f why) (option_to_list f) ≡ reported_at file U (at_page d)
reported_is file U d chain number page usable left next row f u n p l on a b c e g h m why causes =
    let same : row_of row ≡ overflow_page_row d (usable_size file) left =
    row_is row.start (start_of d.address) row.path.now (child_path d.address) row.chain (chain_place d.address) row.page d.page row.pagetype Overflow row.counts
    (overflow_counts (usable_size file) left)
    (a ∙ sym on.start) (b ∙ sym on.path) (c ∙ sym on.place) (e ∙ sym p) g (h ∙ ap (λ x. overflow_counts x left) u) in
    let faults : option_to_list f ≡ overflow_fault (usable_size file) left d.page (page_bytes file d.page) =
    m ∙ ap (λ x. reported_if (nat_le left (x - 4) && not (next == 0)) (fault O01 page 0 (pos next))) u
    ∙ ap (λ x. reported_if (nat_le left (usable_size file - 4) && not (x == 0)) (fault O01 page 0 (pos x))) n
    ∙ ap (λ x. overflow_fault (usable_size file) left x (page_bytes file x)) (sym p) in
    ap (λ r. reported_row r ∷ map (λ f. reported_fault f why) (option_to_list f)) same
    ∙ ap (λ fs. reported_row (overflow_page_row d (usable_size file) left) ∷ map (λ f. reported_fault f why) fs) faults
    ∙ ap (λ w. reported_row (overflow_page_row d (usable_size file) left)
    ∷ map (λ f. reported_fault f w) (overflow_fault (usable_size file) left d.page (page_bytes file d.page))) causes
    ∙ ap (λ L. reported_row (overflow_page_row d (usable_size file) left) ∷ L)
    (once (nat_le left (usable_size file - 4) && not (overflow_next (page_bytes file d.page) == 0)) _)
    ∙ sym (reported_overflow file U d left l)
  where
    once : (b : Bool) (n : ℕ) → map (λ f. reported_fault f (cause_of file U (at_page d) O01)) (reported_if b (fault O01 d.page 0 (pos n)))
        ≡ reported_by (cause_of file U (at_page d)) (reported_if b (fault O01 d.page 0 (pos n)))
    once true n = refl
    once false n = refl

-- it is in no tree
pub overflow_shallow : (c : Reference) (left : ℕ) → bytes_left (role_of c) ≡ Some left → is_too_deep c ≡ false
overflow_shallow c left h = grind arith

-- what it leads to: the next page, if bytes are left after it
pub more_errands : (file : List ℕ) (c : Reference) (left : ℕ) → bytes_left (role_of c) ≡ Some left → usable_size file - 4 < left
    → errands_of (story_of file) c ≡ Go (next_of c (left - (usable_size file - 4)) (overflow_next (page_bytes file c.page))) ∷ []
more_errands file c left h l =
    let e : nat_lt (usable_size file - 4) left ≡ true = grind (arith, nat_tests) in
    by_chain file c left h
    ∙ ap (λ b. map (go c) (cond b (link c.page 0 0 (later_overflow (left - (usable_size file - 4))) (overflow_next (page_bytes file c.page)) ∷ []) [])) e

pub last_errands : (file : List ℕ) (c : Reference) (left : ℕ) → bytes_left (role_of c) ≡ Some left → left ≤ usable_size file - 4
    → errands_of (story_of file) c ≡ []
last_errands file c left h l =
    let e : nat_lt (usable_size file - 4) left ≡ false = grind (arith, nat_tests) in
    by_chain file c left h
    ∙ ap (λ b. map (go c) (cond b (link c.page 0 0 (later_overflow (left - (usable_size file - 4))) (overflow_next (page_bytes file c.page)) ∷ []) [])) e

-- what a step after others adds to the children, and where it leads: to a child, into a chain, or on along one
abbrev pub child_by : Option (ℕ × ℕ) → ℕ → List ℕ
child_by None s = cond (is_child_step s) (cell_of_step s ∷ []) []
child_by (Some place) s = []

abbrev pub place_by : Option (ℕ × ℕ) → ℕ → Option (ℕ × ℕ)
place_by None s = cond (is_child_step s) None (Some (cell_of_step s, 0))
place_by (Some place) s = Some (place.0, place.1 + 1)

pub steps_then : (steps : List ℕ) (s : ℕ) → (children_on (steps ++ s ∷ []) ≡ children_on steps ++ child_by (chain_on steps) s)
    × (chain_on (steps ++ s ∷ []) ≡ place_by (chain_on steps) s)
steps_then [] s = (refl, refl)
steps_then (t ∷ steps) s = let rest = steps_then steps s in (grind (arith, length-append), grind (arith, length-append))

pub next_on_chain : (chain : Chain) (number : ℕ) (c : Reference) (left page : ℕ) → IsOnChain chain number c → IsOnChain chain (number + 1) (next_of c left page)
next_on_chain chain number c left page h = by_address c.address h.start h.path h.place
  where
    by_address : (a : List ℕ) → start_of a ≡ chain.start → child_path a ≡ chain.path.now → chain_place a ≡ Some (chain.cell, number)
        → IsOnChain chain (number + 1) (record { address = then_step a 0; page = page; role = record { role = later_overflow left; from = c.page; item = 0 } })
    by_address [] s p q = absurd (let k : None ≡ Some (chain.cell, number) = q in cc)
    by_address (x ∷ a) s p q = let k = steps_then a 0 in record {
      start = s;
      path = k.0 ∙ ap (λ o. children_on a ++ child_by o 0) q ∙ append-nil (children_on a) ∙ p;
      place = k.1 ∙ ap (λ o. place_by o 0) q;
    }
