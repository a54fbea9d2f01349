-- The visits of frames: each is a page of the tree, reached through the children of the frames below.
use Rattle.std.proofs.Common.{◌≡◌, ℕ, suc, ◌+◌, ◌-◌, ◌*◌, ◌%◌, true, cond, List, [], ◌∷◌, ◌++◌, length, Option, Some, None, refl, sym, ap, subst, arith, ◌∙◌}
use Rattle.std.proofs.Common.{append_assoc}
use Rattle.dbwalk.proofs.Common.{start_of, then_step, child_step, is_child_step, cell_of_step, children_on, chain_on, child_path, chain_place, Reference}
use Rattle.dbwalk.proofs.Common.{TreeKind, child_at, top_visit, AreCalls, IsCandidate, role_at, path_of, StackFrame, nat_tests, append-nil, length-append}
use Rattle.dbwalk.proofs.Common.{child}
use Rattle.dbwalk.proofs.Chaining.Overflows.{child_by, place_by, steps_then}

is_child : (n : ℕ) → is_child_step (child_step n) ≡ true
is_child n = let rest : (3 * n + 1) % 3 ≡ 1 = omega arith in grind (arith, nat_tests)

children_more : (steps : List ℕ) (s : ℕ) → is_child_step s ≡ true → chain_on steps ≡ None
    → (children_on (steps ++ (s ∷ [])) ≡ children_on steps ++ (cell_of_step s ∷ [])) × (◌≡◌ {A = Option (ℕ × ℕ)} (chain_on (steps ++ (s ∷ []))) None)
children_more steps s e h = let k = steps_then steps s in (
  k.0 ∙ ap (λ o. children_on steps ++ child_by o s) h ∙ ap (λ b. children_on steps ++ cond b (cell_of_step s ∷ []) []) e,
  k.1 ∙ ap (λ o. place_by o s) h ∙ ap (λ b. cond b None (Some (cell_of_step s, 0))) e,
)

role_more : (kind : TreeKind) (l : List ℕ) (x : ℕ) → role_at kind (l ++ (x ∷ [])) ≡ child kind
role_more kind [] x = refl
role_more kind (y ∷ l) x = refl

module _ (file : List ℕ) (kind : TreeKind) (k : ℕ) where
  -- the child at a step
  pub child_candidate : (l : List ℕ) (p from item : ℕ) (c : Reference) → IsCandidate kind k l p from item c → (s n : ℕ) → s ≡ child_step n
      → IsCandidate kind k (l ++ (cell_of_step s ∷ [])) (child_at file kind c s).page c.page (cell_of_step s) (child_at file kind c s)
  child_candidate l p from item c is s n step = by_address c.address refl
    where
      child_is : is_child_step s ≡ true
      child_is = ap is_child_step step ∙ is_child n

      long : length (l ++ (cell_of_step s ∷ [])) ≡ length l + 1
      long = length-append l (cell_of_step s ∷ [])

      by_address : (a : List ℕ) → c.address ≡ a → IsCandidate kind k (l ++ (cell_of_step s ∷ [])) (child_at file kind c s).page c.page (cell_of_step s)
          (child_at file kind c s)
      by_address [] e = let depth = is.depth in absurd (omega (arith, ap length e))
      by_address (x ∷ a) e =
          let more = children_more a s child_is (ap chain_place (sym e) ∙ is.chain) in
          let at : then_step c.address s ≡ x ∷ (a ++ (s ∷ [])) = ap (λ b. then_step b s) e in
          record {
            page = refl;
            way = ap (λ r. record { role = r; from = c.page; item = cell_of_step s }) (sym (role_more kind l (cell_of_step s)));
            start = ap start_of at ∙ ap start_of (sym e) ∙ is.start;
            depth = length-append c.address (s ∷ []) ∙ ap (λ m. m + 1) (is.depth ∙ sym long);
            path = ap child_path at ∙ more.0 ∙ ap (λ l. l ++ (cell_of_step s ∷ [])) (ap child_path (sym e) ∙ is.path);
            chain = ap chain_place at ∙ more.1;
          }

  calls_first : (g : StackFrame) (fs : List StackFrame) (f : StackFrame) → AreCalls (g ∷ (fs ++ (f ∷ []))) → ((n : ℕ) × (g.next ≡ suc (child_step n)))
      × AreCalls (fs ++ (f ∷ []))
  calls_first g [] f a = a
  calls_first g (h ∷ fs) f a = a

  -- the visit of the last frame
  pub record IsOnWay (l : List ℕ) (fs : List StackFrame) (c : Reference) : Type 0 where
    pub p : ℕ
    pub from : ℕ
    pub item : ℕ
    pub candidate : IsCandidate kind k (l ++ path_of fs) p from item (top_visit file kind c fs)

  pub top_candidate : (fs : List StackFrame) (f : StackFrame) (l : List ℕ) (p from item : ℕ) (c : Reference) → IsCandidate kind k l p from item c
      → AreCalls (fs ++ (f ∷ [])) → IsOnWay l fs c
  top_candidate [] f l p from item c is calls = record
      { p = p; from = from; item = item; candidate = subst (λ m. IsCandidate kind k m p from item c) (sym (append-nil l)) is }
  top_candidate (g ∷ fs) f l p from item c is calls =
      let m = calls_first g fs f calls in
      let s : g.next - 1 ≡ child_step m.0.0 = (let e = m.0.1 in omega arith) in
      let x = cell_of_step (g.next - 1) in
      let d = child_at file kind c (g.next - 1) in
      let r = top_candidate fs f (l ++ (x ∷ [])) d.page c.page x d (child_candidate l p from item c is (g.next - 1) m.0.0 s) m.1 in
      record {
        p = r.p;
        from = r.from;
        item = r.item;
        candidate = subst (λ q. IsCandidate kind k q r.p r.from r.item (top_visit file kind d fs)) (append_assoc l (x ∷ []) (path_of fs)) r.candidate;
      }
