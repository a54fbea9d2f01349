-- The cell that an overflow chain belongs to, by the visits so far.
use Rattle.std.proofs.Common.{◌≡◌, ℕ, ◌+◌, ◌-◌, ◌≤◌, true, false, cond, inl, inr, List, [], ◌∷◌, ◌++◌, length, take, Option, Some, None, refl, sym, ap}
use Rattle.std.proofs.Common.{ap₂, ◌∙◌, arith, find, ◌==◌}
use Rattle.dbwalk.proofs.Common.{Address, Go, then_step, chain_place, chain_on, usable_size, Role}
use Rattle.dbwalk.proofs.Common.{Reference, role_of, from_of, item_of, bytes_left, tree_kind, cell_rowid, is_same}
use Rattle.dbwalk.proofs.Common.{chain_cause, seen_from, refusal_cause, refusal_of, rowids_of, Cause, IsChainOf, IsOnChain, next_of, walked_chain, IsNext}
use Rattle.dbwalk.proofs.Common.{option_map_or, option_or, cases_Bool, eqb-true, nat_tests, length-append, Chain}
use Rattle.std.proofs.Math.Seq.{take-length}
use Rattle.std.proofs.lemmas.List.{take-append-le}
use Rattle.std.proofs.lemmas.List.Folds.{find-append}
use Rattle.dbtrace.specs.Causes.{chain_number, head_address, chain_head, chain_of, pages_for}
use Rattle.dbtrace.specs.declared.SeenBytes.{SeenBytes}
use Rattle.dbwalk.specs.Chains.{HasHead}
use Rattle.dbwalk.proofs.Chaining.Overflows.{next_on_chain}
use Rattle.dbwalk.proofs.Trees.Bounds.{first_here}
use Rattle.dbtrace.specs.declared.Cause.TheVariants as cause

number_is : (chain : Chain) (number : ℕ) (d : Reference) → IsOnChain chain number d → chain_number d.address ≡ number
number_is chain number d on = ap (λ o. option_map_or (λ p. p.1) o 0) on.place

-- the address has a step for each page of the chain before it
pub chain_few : (chain : Chain) (number : ℕ) (d : Reference) → IsOnChain chain number d → number ≤ length d.address
chain_few chain number d on = by_address d.address on.place
  where
    few : (steps : List ℕ) (i n : ℕ) → chain_on steps ≡ Some (i, n) → n ≤ length steps
    few [] i n e = absurd (let k : None ≡ Some (i, n) = e in cc)
    few (step ∷ steps) i n e = let rest = few steps i n in grind arith

    by_address : (a : Address) → chain_place a ≡ Some (chain.cell, number) → number ≤ length a
    by_address [] e = absurd (let k : None ≡ Some (chain.cell, number) = e in cc)
    by_address (x ∷ a) e = let l = few a chain.cell number e in omega arith

-- the cause of a fault along the chain
pub head_cause : (file : List ℕ) (V : List Reference) (chain : Chain) (number left more : ℕ) (seen : SeenBytes) (d : Reference)
    → bytes_left (role_of d) ≡ Some left
    → IsOnChain chain number d
    → HasHead file chain V d → chain_cause file V d (bytes_left (role_of d)) more seen
    ≡ cause.Chain (walked_chain chain number (usable_size file) left (number + more) seen)
head_cause file V chain number left more seen d h on head =
    ap (λ o. chain_cause file V d o more seen) h
    ∙ ap (λ n. option_map_or (λ c. cause.Chain (chain_of file c n left (n + more) seen)) (chain_head V d) cause.Itself) (number_is chain number d on)
    ∙ ap (λ o. option_map_or (λ c. cause.Chain (chain_of file c number left (number + more) seen)) o cause.Itself) head.found
    ∙ ap₂ of_cell head.from head.item
    ∙ ap (λ k. cause.Chain (record (walked_chain chain number (usable_size file) left (number + more) seen) { rowid = k })) head.rowid
  where
    of_cell : ℕ → ℕ → Cause
    of_cell p i = cause.Chain (record {
      page = p;
      item = i;
      rowid = cell_rowid file p i;
      pages = number + pages_for (usable_size file) left;
      found = number + more;
      seen = seen;
    })

-- that of a reference that is refused
pub refusal_here : (file : List ℕ) (chain : Chain) (number left : ℕ) (d : Reference) (V : List Reference) {seen : SeenBytes}
    → chain.usable ≡ usable_size file → seen ≡ seen_from file d → bytes_left (role_of d) ≡ Some left → IsOnChain chain number d → HasHead file chain V d
    → refusal_cause file V d ≡ cause.Chain (walked_chain chain number chain.usable left number seen)
refusal_here file chain number left d V u z h on head =
    let n : number + 0 ≡ number = omega arith in
    ap (refusal_of file V d (rowids_of file V d)) (no_tree (role_of d) h)
    ∙ head_cause file V chain number left 0 (seen_from file d) d h on head
    ∙ ap (λ n. cause.Chain (walked_chain chain number (usable_size file) left n (seen_from file d))) n
    ∙ ap₂ (λ u b. cause.Chain (walked_chain chain number u left number b)) (sym u) (sym z)
  where
    no_tree : (r : Role) → bytes_left r ≡ Some left → tree_kind r ≡ None
    no_tree r e = grind arith

-- at the first page
pub head_start : (file : List ℕ) (chain : Chain) (V : List Reference) (c : Reference) → IsChainOf file chain c → HasHead file chain V c
head_start file chain V c h = record {
  head = c;
  found = ap (λ n. cond (n == 0) (Some c) (find (λ u. is_same u.address (head_address c.address)) V)) (number_is chain 0 c h.place);
  from = h.from;
  item = h.item;
  rowid = h.rowid;
}

-- after the visit of the page
module _ (file : List ℕ) (chain : Chain) (V : List Reference) (number : ℕ) (d : Reference) (on : IsOnChain chain number d) (head : HasHead file chain V d) where
  abbrev searched : List Reference → Address → Option Reference
  searched W a = find (λ u. is_same u.address a) W

  -- a head that is found among the visits is still found
  found_still : (a : Address) (c : Reference) → searched V a ≡ Some c → searched (V ++ d ∷ []) a ≡ Some c
  found_still a c e = find-append (λ u. is_same u.address a) V (d ∷ []) ∙ ap (λ o. option_or o (searched (d ∷ []) a)) e

  by_number : (n : ℕ) → (n == 0) ≡ false → chain_number d.address ≡ n → searched V (head_address d.address) ≡ Some head.head
  by_number n e h = sym (ap (λ b. cond b (Some d) (searched V (head_address d.address))) (ap (λ m. m == 0) h ∙ e)) ∙ head.found

  pub head_visited : HasHead file chain (V ++ d ∷ []) d
  head_visited = record {
    head = head.head;
    found = elim (cases_Bool (chain_number d.address == 0)) [
      | inl e ↦ ap (λ b. cond b (Some d) (searched (V ++ d ∷ []) (head_address d.address))) e
          ∙ sym (ap (λ b. cond b (Some d) (searched V (head_address d.address))) e) ∙ head.found
      | inr e ↦ ap (λ b. cond b (Some d) (searched (V ++ d ∷ []) (head_address d.address))) e
          ∙ found_still (head_address d.address) head.head (by_number (chain_number d.address) e refl)
    ];
    from = head.from;
    item = head.item;
    rowid = head.rowid;
  }

  -- and of the next one
  module _ (past : IsNext V d) (few : number ≤ length d.address) (left page : ℕ) where
    next_number : chain_number (then_step d.address 0) ≡ number + 1
    next_number = number_is chain (number + 1) (next_of d left page) (next_on_chain chain number d left page on)

    same_head : head_address (then_step d.address 0) ≡ head_address d.address
    same_head =
        let l = length-append d.address (0 ∷ []) in
        let m : length (then_step d.address 0) - (number + 1) ≡ length d.address - number = omega arith in
        let low : length d.address - number ≤ length d.address = omega arith in
        ap (λ n. take (length (then_step d.address 0) - n) (then_step d.address 0)) next_number
        ∙ ap (λ k. take k (then_step d.address 0)) m
        ∙ take-append-le (length d.address - number) d.address (0 ∷ []) low
        ∙ ap (λ n. take (length d.address - n) d.address) (sym (number_is chain number d on))

    later : (n : ℕ) → chain_number (then_step d.address 0) ≡ n + 1 → (c : Reference) → searched (V ++ d ∷ []) (head_address (then_step d.address 0)) ≡ Some c
        → chain_head (V ++ d ∷ []) (next_of d left page) ≡ Some c
    later n e c f =
        let test : ((n + 1) == 0) ≡ false = grind (arith, nat_tests) in
        ap (λ b. cond b (Some (next_of d left page)) (searched (V ++ d ∷ []) (head_address (then_step d.address 0)))) (ap (λ m. m == 0) e ∙ test) ∙ f

    pub head_next : HasHead file chain (V ++ d ∷ []) (next_of d left page)
    head_next = elim (cases_Bool (chain_number d.address == 0)) [
      | inl e ↦ record {
        head = d;
        found = later number next_number d (ap (searched (V ++ d ∷ [])) (same_head ∙ first e) ∙ first_here V d (λ u i. past u (Go d) i (inl refl)));
        from = ap from_of (self e) ∙ head.from;
        item = ap item_of (self e) ∙ head.item;
        rowid = head.rowid;
      }
      | inr e ↦ record {
        head = head.head;
        found = later number next_number head.head (ap (searched (V ++ d ∷ [])) same_head
            ∙ found_still (head_address d.address) head.head (by_number (chain_number d.address) e refl));
        from = head.from;
        item = head.item;
        rowid = head.rowid;
      }
    ]
      where
        first : (chain_number d.address == 0) ≡ true → head_address d.address ≡ d.address
        first e = ap (λ n. take (length d.address - n) d.address) (eqb-true (chain_number d.address) 0 e)
            ∙ (let z : length d.address - 0 ≡ length d.address = omega arith in ap (λ k. take k d.address) z) ∙ take-length d.address

        self : (chain_number d.address == 0) ≡ true → d ≡ head.head
        self e = let s : Some d ≡ Some head.head = sym (ap (λ b. cond b (Some d) (searched V (head_address d.address))) e) ∙ head.found in cc
