-- What a sieve is fed of a payload along its overflow chain.
use Rattle.std.proofs.Common.{◌≡◌, ℕ, true, inl, inr, List, [], ◌∷◌, ◌++◌, Some, refl, sym, ap, subst, ◌∙◌, arith, Option, None, append_assoc, Result}
use Rattle.std.proofs.Common.{Ok, Err, flat_map, filter, nat_eq, OnOk}
use Rattle.dbwalk.proofs.Common.{IsIn, Address, IsBefore, Go, then_step, overflow_step, Cell, page_bytes, Reference, role_of, bytes_left}
use Rattle.dbwalk.proofs.Common.{first_overflow, payload, RowSieve, IsNext, FeedsSince, Feeds, visited_below, usable_size, overflow_bytes}
use Rattle.dbwalk.proofs.Common.{Walk, bare, done_below, has_steps, HasFed, FeedsPayload, unwrap_or, eqb-true, append-nil, flat_map-append}
use Rattle.std.specs.List.{starts_with}
use Rattle.std.proofs.lemmas.Bool.{and_parts}
use Rattle.std.proofs.lemmas.List.Elements.{filter-append}
use Rattle.dbformat.specs.Schema.{chain, held_bytes}
use Rattle.dbformat.specs.declared.Encoding.{Encoding}
use Rattle.dbbytes.specs.Sieve.{HasTaken}
use Rattle.dbwalk.proofs.Reporting.Belows.{below_begins, quiet_go}
use Rattle.dbsurvey.proofs.Beginnings.{begins}
use Rattle.dbsurvey.proofs.Lists.{filter-all, filter-none}

-- At the end of a chain a sieve has taken the payload of its cell.

-- what is before an address does not begin with it
begins_not : (a b : Address) → IsBefore b a → starts_with nat_eq b a ≡ true → ⊥
begins_not [] b h e = absurd h
begins_not (x ∷ a) [] h e = cc
begins_not (x ∷ a) (y ∷ b) (inl l) e = let f : x ≡ y = eqb-true x y (and_parts (nat_eq x y) _ e).0 in omega arith
begins_not (x ∷ a) (y ∷ b) (inr k) e = begins_not a b k.1 (and_parts (nat_eq x y) _ e).1

-- before a cell's chain nothing of it was visited
pub chain_before : (W : List Reference) (a : Address) (i : ℕ) → ((u : Reference) → IsIn u W → IsBefore u.address (then_step a (overflow_step i))) → chain W a i
    ≡ []
chain_before W a i h = filter-none (λ r. starts_with nat_eq r.address place) W (λ u j. let no = begins_not place u.address (h u j) in grind arith)
  where
    place : Address
    place = then_step a (overflow_step i)

-- so its payload is that in the cell
pub payload_before : (file : List ℕ) (W : List Reference) (a : Address) (i : ℕ) (cell : Cell)
    → ((u : Reference) → IsIn u W → IsBefore u.address (then_step a (overflow_step i))) → payload file W a i cell ≡ cell.local
unfolding payload
payload_before file W a i cell h = ap (λ rs. cell.local ++ flat_map (held_bytes file) rs) (chain_before W a i h) ∙ append-nil cell.local

same_rest : {X : Type 0} (W xs ys : List X) → W ++ xs ≡ W ++ ys → xs ≡ ys
same_rest [] xs ys h = h
same_rest (w ∷ W) xs ys h = same_rest W xs ys (let k : W ++ xs ≡ W ++ ys = cc in k)

module _ (file : List ℕ) (W : List Reference) (c : Reference) (a : Address) (i : ℕ) (at : c.address ≡ then_step a (overflow_step i)) (next : IsNext W c) where
  -- all that is visited below the first reference of a chain begins with its address
  all_begin : (t : Reference) → IsIn t (visited_below file W (Go c ∷ [])) → starts_with nat_eq t.address (then_step a (overflow_step i)) ≡ true
  all_begin t j =
      let k = below_begins file W c t j in
      subst (λ b. starts_with nat_eq b (then_step a (overflow_step i)) ≡ true) (sym (k.1 ∙ ap (λ b. b ++ k.0) at)) (begins (then_step a (overflow_step i)) k.0)

  pub chain_below : chain (W ++ visited_below file W (Go c ∷ [])) a i ≡ visited_below file W (Go c ∷ [])
  chain_below =
      let test = λ (r : Reference). starts_with nat_eq r.address (then_step a (overflow_step i)) in
      filter-append test W (visited_below file W (Go c ∷ []))
      ∙ ap (λ l. l ++ filter test (visited_below file W (Go c ∷ [])))
      (chain_before W a i (λ u j. subst (λ b. IsBefore u.address b) at (next u (Go c) j (inl refl))))
      ∙ filter-all test (visited_below file W (Go c ∷ [])) all_begin

  -- the payload of the cell: the bytes in it, and then those on the pages of its chain
  pub payload_below : (cell : Cell) → payload file (W ++ visited_below file W (Go c ∷ [])) a i cell ≡ cell.local
      ++ flat_map (held_bytes file) (visited_below file W (Go c ∷ []))
  unfolding payload
  payload_below cell = ap (λ rs. cell.local ++ flat_map (held_bytes file) rs) chain_below

  -- a sieve that had taken the payload bytes in the cell, and is fed the pages of the chain, has taken the payload
  pub sieve_payload : (V : List Reference) (old new : RowSieve) (cell : Cell) (size : ℕ) (e : Encoding) → V ≡ W ++ visited_below file W (Go c ∷ [])
      → FeedsSince file W V (Some old) (Some new) → HasTaken old size e cell.local → HasTaken new size e (payload file V a i cell)
  sieve_payload V old new cell size e visits fed taken = subst (λ l. HasTaken new size e l)
      (ap (λ l. cell.local ++ flat_map (held_bytes file) l) (same_rest W fed.pages (visited_below file W (Go c ∷ [])) (sym fed.since ∙ visits))
      ∙ sym (payload_below cell) ∙ ap (λ V. payload file V a i cell) (sym visits)) (fed.fed size e cell.local taken)

-- What a sieve is fed, page after page.

-- nothing was fed
pub feeds_none : (o : Option RowSieve) → Feeds o [] o
feeds_none None = tt
feeds_none (Some s) = λ size e taken h. subst (λ l. HasTaken s size e l) (sym (append-nil taken)) h

-- one piece after another
pub feeds_then : (a b c : Option RowSieve) (x y : List ℕ) → Feeds a x b → Feeds b y c → Feeds a (x ++ y) c
feeds_then None None None x y h k = tt
feeds_then None None (Some t) x y h k = absurd k
feeds_then None (Some s) c x y h k = absurd h
feeds_then (Some r) None c x y h k = absurd h
feeds_then (Some r) (Some s) None x y h k = absurd k
feeds_then (Some r) (Some s) (Some t) x y h k = λ size e taken f. subst (λ l. HasTaken t size e l) (append_assoc taken x y)
    (k size e (taken ++ x) (h size e taken f))

-- the pages so far, and one more
pub feeds_page : {file : List ℕ} {W V : List Reference} {a b c : Option RowSieve} (d : Reference) → FeedsSince file W V a b → Feeds b (held_bytes file d) c
    → FeedsSince file W (V ++ d ∷ []) a c
feeds_page {file} {W} {V} {a} {b} {c} d h k = record {
  pages = h.pages ++ d ∷ [];
  since = ap (λ V. V ++ d ∷ []) h.since ∙ append_assoc W h.pages (d ∷ []);
  fed = subst (λ l. Feeds a l c)
      (sym (flat_map-append (held_bytes file) h.pages (d ∷ []) ∙ ap (λ l. flat_map (held_bytes file) h.pages ++ l) (append-nil (held_bytes file d))))
      (feeds_then a b c (flat_map (held_bytes file) h.pages) (held_bytes file d) h.fed k);
}

-- what an overflow page holds
pub held_is : (file : List ℕ) (c : Reference) (left : ℕ) → bytes_left (role_of c) ≡ Some left → held_bytes file c
    ≡ overflow_bytes (usable_size file) left (page_bytes file c.page)
held_is file c left h = ap (λ o. overflow_bytes (usable_size file) (unwrap_or o 0) (page_bytes file c.page)) h

-- The payload of a cell of the schema, as a sieve takes it: the bytes in the cell, and then those of its chain.

pub on_ok : {A E : Type 0} {P Q : Type 0} (r : Result A E) → OnOk r P → (P → Q) → OnOk r Q
on_ok (Ok a) p f = f p
on_ok (Err e) p f = tt

-- no chain: nothing is fed
pub feeds_nothing : (file : List ℕ) (from : Walk) (c : Reference) (i : ℕ) (sieve : Option RowSieve)
    → FeedsPayload file from.visits (done_below file from []).visits c i sieve sieve
feeds_nothing file from c i sieve = record {
  fed = λ x e before h. subst (λ l. HasFed sieve x.size e l)
      (sym (ap (λ (m : Walk). payload file m.visits c.address i x) ((has_steps file).none (bare from))
      ∙ payload_before file from.visits c.address i x before)) h;
}

-- the reference of a cell to its first overflow page
abbrev pub first_of : Reference → ℕ → ℕ → ℕ → Reference
first_of c i first left = record {
  address = then_step c.address (overflow_step i);
  page = first;
  role = record { role = first_overflow left; from = c.page; item = i };
}

-- a chain: its pages are fed
pub feeds_chain : (file : List ℕ) (from : Walk) (c : Reference) (i first left : ℕ) (old new : Option RowSieve)
    → IsNext from.visits (first_of c i first left)
    → FeedsSince file from.visits (done_below file from (Go (first_of c i first left) ∷ [])).visits old new
    → FeedsPayload file from.visits (done_below file from (Go (first_of c i first left) ∷ [])).visits c i old new
feeds_chain file from c i first left old new next fed = by_sieve old new fed
  where
    V : List Reference
    V = (done_below file from (Go (first_of c i first left) ∷ [])).visits

    by_sieve : (old new : Option RowSieve) → FeedsSince file from.visits V old new → FeedsPayload file from.visits V c i old new
    by_sieve None new fed = record { fed = λ x e before h. absurd h }
    by_sieve (Some s) None fed = record { fed = λ x e before h. absurd fed.fed }
    by_sieve (Some s) (Some t) fed = record {
      fed = λ x e before h. sieve_payload file from.visits (first_of c i first left) c.address i refl next V s t x x.size e
          ((has_steps file).visits (bare from) (Go (first_of c i first left) ∷ []) (quiet_go (first_of c i first left))) fed h;
    }
