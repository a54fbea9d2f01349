-- The pages below an overflow page are those of the chain that begins with it.
use Rattle.std.proofs.Common.{◌≡◌, ℕ, zero, suc, ◌-◌, ◌≤◌, ◌<◌, ◌⊎◌, inl, inr, true, false, List, [], ◌∷◌, ◌++◌, length, map, Some, None, refl, sym, ap, subst}
use Rattle.std.proofs.Common.{◌∙◌, arith, append-nil}
use Rattle.std.specs.Prelude.{flat_map, nat_lt}
use Rattle.std.proofs.lemmas.Bool.Decides.{nat_tests}
use Rattle.std.proofs.lemmas.Bool.{cases_lt}
use Rattle.dbsound.proofs.Common.{IsIn, children, named_at, usable_size, page_bytes, overflow_next, Role, root, child, trunk, free_leaf, first_overflow}
use Rattle.dbsound.proofs.Common.{later_overflow, Reference, role_of, from_of, tree_kind, tree_view, overflow_links, held_bytes, Survey, rules_of, page_faults}
use Rattle.dbsound.proofs.Common.{walk_faults, Chain, last, full, below, use_of, leaf_payloads}
use Rattle.dbformat.specs.Payload.{overflow_bytes}
use Rattle.dbformat.specs.Reference.{bytes_left}
use Rattle.dbformat.proofs.Chains.{links_at, faults_at, ends, overflow_of}
use Rattle.dbsound.specs.Surveys.{HasChainsBelow}
use Rattle.dbsound.proofs.FaultlessSurveys.Followed.{by_its_links, child_visited, fewer_below}
use Rattle.dbformat.proofs.NoFaults.{page_none}

no_tree : (role : Role) (left : ℕ) → bytes_left role ≡ Some left → tree_kind role ≡ None
no_tree (first_overflow m) left e = refl
no_tree (later_overflow m) left e = refl
no_tree (root kind) left e = cc
no_tree (child kind) left e = cc
no_tree trunk left e = cc
no_tree free_leaf left e = cc

-- an overflow page is no leaf
no_payloads : (file : List ℕ) (V : List Reference) (r : Reference) (left : ℕ) → bytes_left (role_of r) ≡ Some left → leaf_payloads file V r ≡ []
unfolding tree_view
no_payloads file V r left e = rw (no_tree (role_of r) left e) refl

module _ (file : List ℕ) (V : List Reference) where
  -- the pages L are those of a chain from r on, and none of them is a leaf
  abbrev pub IsChainOf : Reference → ℕ → List Reference → Type 0
  IsChainOf r left L = Chain file (role_of r) (from_of r) r.page left (map use_of L) (flat_map (held_bytes file) L) × (flat_map (leaf_payloads file V) L ≡ [])

module _ (file : List ℕ) (V : List Reference) (s : Survey file V) (none : walk_faults file V ≡ []) where
  holds : (r : Reference) (left : ℕ) → bytes_left (role_of r) ≡ Some left → held_bytes file r ≡ overflow_bytes (usable_size file) left (page_bytes file r.page)
  holds r left e = rw e refl

  next_of : Reference → ℕ → Reference
  next_of r left = record {
    address = r.address ++ (0 ∷ []);
    page = overflow_next (page_bytes file r.page);
    role =
        record { role = later_overflow (left - (usable_size file - 4)); from = r.page; item = 0 };
  }

  next_left : (r : Reference) (left : ℕ) → bytes_left (role_of (next_of r left)) ≡ Some (left - (usable_size file - 4))
  unfolding next_of
  next_left r left = refl

  children_of : (r : Reference) (left : ℕ) → bytes_left (role_of r) ≡ Some left
      → children (rules_of file) r ≡ named_at r.address (overflow_links r.page (usable_size file) left (page_bytes file r.page))
  unfolding rules_of
  children_of r left e = ap (named_at r.address) (links_at file (role_of r) r left (overflow_of (role_of r) left e))

  no_next : (r : Reference) (left : ℕ) → left ≤ usable_size file - 4 → bytes_left (role_of r) ≡ Some left → children (rules_of file) r ≡ []
  no_next r left h e = let f : nat_lt (usable_size file - 4) left ≡ false = grind (arith, nat_tests) in children_of r left e ∙ rw f refl

  one_next : (r : Reference) (left : ℕ) → usable_size file - 4 < left → bytes_left (role_of r) ≡ Some left → children (rules_of file) r ≡ next_of r left ∷ []
  unfolding next_of
  one_next r left h e = let f : nat_lt (usable_size file - 4) left ≡ true = grind (arith, nat_tests) in children_of r left e ∙ rw f refl

  at_end : (r : Reference) (left : ℕ) → left ≤ usable_size file - 4 → bytes_left (role_of r) ≡ Some left → IsIn r V → IsChainOf file V r left (r ∷ [])
  unfolding page_faults
  at_end r left h e i =
      let f = sym (faults_at file V (role_of r) r left (overflow_of (role_of r) left e)) ∙ page_none file V s none r i in (
        subst (λ bytes. Chain file (role_of r) (from_of r) r.page left (use_of r ∷ []) bytes) (sym (append-nil (held_bytes file r) ∙ holds r left e))
            (last h (ends (usable_size file) left r.page (page_bytes file r.page) h f)),
        append-nil (leaf_payloads file V r) ∙ no_payloads file V r left e,
      )

  at_next : (r : Reference) (left : ℕ) (L : List Reference) → usable_size file - 4 < left → bytes_left (role_of r) ≡ Some left
      → IsChainOf file V (next_of r left) (left - (usable_size file - 4)) L → IsChainOf file V r left (r ∷ L)
  unfolding next_of
  at_next r left L h e c = (
    subst (λ bytes. Chain file (role_of r) (from_of r) r.page left (use_of r ∷ map use_of L) (bytes ++ flat_map (held_bytes file) L)) (sym (holds r left e))
        (full h c.0),
    ap (λ l. l ++ flat_map (leaf_payloads file V) L) (no_payloads file V r left e) ∙ c.1,
  )

  step : (n : ℕ) (r : Reference) (left : ℕ) → length (below V r.address) ≤ suc n → bytes_left (role_of r) ≡ Some left → IsIn r V
      → ((q : Reference) (less : ℕ) → length (below V q.address) ≤ n → bytes_left (role_of q) ≡ Some less → IsIn q V
      → IsChainOf file V q less (below V q.address))
      → (usable_size file - 4 < left) ⊎ (left ≤ usable_size file - 4) → IsChainOf file V r left (below V r.address)
  step n r left small e i rest (inr h) =
      subst (IsChainOf file V r left) (sym (by_its_links file V s none r i ∙ ap (λ ds. r ∷ flat_map (λ d. below V d.address) ds) (no_next r left h e)))
      (at_end r left h e i)
  step n r left small e i rest (inl h) =
      let q = next_of r left in
      let j : IsIn q (children (rules_of file) r) = subst (IsIn q) (sym (one_next r left h e)) (inl refl) in
      let k = fewer_below file V s none r q i j in
      let c = rest q (left - (usable_size file - 4)) (omega arith) (next_left r left) (child_visited file V s none r q i j) in
      subst (IsChainOf file V r left) (sym (by_its_links file V s none r i ∙ ap (λ ds. r ∷ flat_map (λ d. below V d.address) ds) (one_next r left h e)
      ∙ ap (λ l. r ∷ l) (append-nil (below V q.address))))
      (at_next r left (below V q.address) h e c)

  chain_of : (n : ℕ) (r : Reference) (left : ℕ) → length (below V r.address) ≤ n → bytes_left (role_of r) ≡ Some left → IsIn r V
      → IsChainOf file V r left (below V r.address)
  chain_of zero r left small e i = absurd (let f = ap length (by_its_links file V s none r i) in omega arith)
  chain_of (suc n) r left small e i = step n r left small e i (chain_of n) (cases_lt (usable_size file - 4) left)

  -- the chain from a visited overflow page on
  pub whole_chain : (r : Reference) (left : ℕ) → bytes_left (role_of r) ≡ Some left → IsIn r V → IsChainOf file V r left (below V r.address)
  whole_chain r left e i = chain_of (length (below V r.address)) r left (omega arith) e i

pub chains_below : (file : List ℕ) → HasChainsBelow file
chains_below file V s none r left i e = (whole_chain file V s none r left e i).0
