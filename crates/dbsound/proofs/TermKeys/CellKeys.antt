-- The keys of one page of a table tree, and of one cell and what is below it, are in order.
use Rattle.std.proofs.Common.{ℤ, ◌≤ℤ◌, arith, ◌≡◌, ℕ, ◌+◌, ◌*◌, ◌<◌, inl, inr, Bool, true, false, not, Option, None, Some, List, [], ◌∷◌, ◌++◌, refl, sym, ap}
use Rattle.std.proofs.Common.{subst, append_assoc, ◌∙◌}
use Rattle.std.specs.Prelude.{flat_map}
use Rattle.std.specs.List.{enumerate_from}
use Rattle.std.proofs.lemmas.Int.{ints}
use Rattle.std.proofs.lemmas.Grind.{flat_map-append}
use Rattle.dbsound.proofs.Common.{IsIn, Address, IsBefore, key_step, child_step, View, is_interior, Cell, cells, Reference, tree_view, Key, key_of}
use Rattle.dbsound.proofs.Common.{keys_of_view, keys_at, IsUpTo, IsAbove, RiseWithin, keys_of}
use Rattle.dbsurvey.proofs.Order.{IsIn-cases, IsIn-left, IsIn-right}
use Rattle.dbsurvey.proofs.Ordering.{IsIn-from_flat_map}
use Rattle.dbformat.specs.Address.{then_step}
use Rattle.dbsurvey.proofs.Each.{Each, Each-none, Each-append}
use Rattle.dbsurvey.proofs.Lists.{flat_map-none}
use Rattle.dbsound.proofs.TermVisits.Under.{IsUnder, IsFrom}
use Rattle.dbsound.proofs.TermVisits.Depths.{IsNoTree, no_view}
use Rattle.dbsound.proofs.TermKeys.KeyOrder.{AreInOrder, IsInside, IsPlaced, in_order_both, in_order_none, in_order_one, in_order_of}
use Rattle.dbformat.proofs.Places.{cell_key, key_place}

pub key_some : (r : Reference) (v : View) (i : ℕ) (c : Cell) (k : ℤ) → c.key ≡ Some k → key_of r v (i, c) ≡ cell_key r v i k ∷ []
key_some r v i c k e = rw e refl

pub key_none : (r : Reference) (v : View) (i : ℕ) (c : Cell) → c.key ≡ None → key_of r v (i, c) ≡ []
key_none r v i c e = rw e refl

-- the keys of some visits
abbrev pub keys_in : List ℕ → List Reference → List Key
keys_in file V = flat_map (keys_at file) V

pub no_keys : (file : List ℕ) (t : Reference) → IsNoTree t → keys_at file t ≡ []
no_keys file t e = ap (keys_of_view t) (no_view file t e)

pub none_in : (file : List ℕ) (V : List Reference) → Each IsNoTree V → keys_in file V ≡ []
none_in file V h = flat_map-none (keys_at file) V (λ t i. no_keys file t (h t i))

pub view_place : (r : Reference) (o : Option View) (k : Key) → IsIn k (keys_of_view r o) → (i : ℕ) × (k.place ≡ then_step r.address (key_step i))
view_place r None k h = absurd h
view_place r (Some v) k h = let m = IsIn-from_flat_map (key_of r v) (cells v) k h in (m.0.0, key_place r v m.0 k m.2)

-- a key is below the page that has it
placed_from : (file : List ℕ) (V : List Reference) (a : Address) (n : ℕ) → Each (IsFrom a n) V → Each (IsPlaced a n) (keys_in file V)
placed_from file V a n h k i =
    let m = IsIn-from_flat_map (keys_at file) V k i in
    let f = h m.0 m.1 in
    let p = view_place m.0 (tree_view file m.0) k m.2 in
    (f.0, f.1 ++ key_step p.0 ∷ [], f.2, p.1 ∙ ap (λ b. then_step b (key_step p.0)) f.3 ∙ append_assoc a (f.0 ∷ f.1) (key_step p.0 ∷ []))

own_placed : (r : Reference) (v : View) (i : ℕ) (cs : List Cell) → Each (IsPlaced r.address (3 * i)) (flat_map (key_of r v) (enumerate_from i cs))
own_placed r v i [] = Each-none (IsPlaced r.address (3 * i))
own_placed r v i (c ∷ cs) = Each-append (IsPlaced r.address (3 * i)) (key_of r v (i, c)) (flat_map (key_of r v) (enumerate_from (i + 1) cs))
    (λ k h. (key_step i, [], omega arith, key_place r v (i, c) k h))
    (λ k h. let p = own_placed r v (i + 1) cs k h in let l = p.2 in (p.0, p.1, omega arith, p.3))

-- below a step before n
abbrev IsPlacedBelow : Address → ℕ → Key → Type 0
IsPlacedBelow a n k = (s : ℕ) × (rest : List ℕ) × (s < n) × (k.place ≡ a ++ (s ∷ rest))

not_before : (a : Address) (s t : ℕ) (b d : List ℕ) → s < t → IsBefore (a ++ (t ∷ b)) (a ++ (s ∷ d)) → ⊥
not_before [] s t b d l (inl h) = omega arith
not_before [] s t b d l (inr h) = let e = h.0 in omega arith
not_before (x ∷ a) s t b d l (inl h) = omega arith
not_before (x ∷ a) s t b d l (inr h) = not_before a s t b d l h.1

placed_apart : (a : Address) (n : ℕ) (x y : Key) → IsPlacedBelow a n x → IsPlaced a n y → IsBefore y.place x.place → ⊥
placed_apart a n x y p q b = let l = p.2 in let m = q.2 in
    not_before a p.0 q.0 q.1 p.1 (omega arith) (subst (λ c. IsBefore c (a ++ (p.0 ∷ p.1))) q.3 (subst (λ c. IsBefore y.place c) p.3 b))

above_upto : (low : Option ℤ) (k : ℤ) → IsAbove low k → IsUpTo low (Some k)
above_upto None k h = tt
above_upto (Some l) k h = omega (arith, ints)

up_to_itself : (k : ℤ) → k ≤ℤ k
up_to_itself k = omega (arith, ints)

not_both : (b : Bool) → b ≡ true → b ≡ false → ⊥
not_both true e f = cc
not_both false e f = cc

-- the rowids of a leaf
pub leaf_keys : (r : Reference) (v : View) (i : ℕ) (cs : List Cell) (low high : Option ℤ) → is_interior v.kind ≡ false → RiseWithin low high (keys_of cs)
    → AreInOrder low high (flat_map (key_of r v) (enumerate_from i cs))
leaf_keys r v i [] low high l h = in_order_none low high
leaf_keys r v i (c ∷ cs) low high l h = by_key c.key refl (λ low'. leaf_keys r v (i + 1) cs low' high l)
  where
    rest : List Key
    rest = flat_map (key_of r v) (enumerate_from (i + 1) cs)

    by_key : (o : Option ℤ) → c.key ≡ o → ((low' : Option ℤ) → RiseWithin low' high (keys_of cs) → AreInOrder low' high rest)
        → AreInOrder low high (key_of r v (i, c) ++ rest)
    by_key None e on = subst (λ l. AreInOrder low high (l ++ rest)) (sym (key_none r v i c e)) (on low (let k = rw e at h in k))
    by_key (Some k) e on =
        let g : RiseWithin low high (k ∷ keys_of cs) = rw e at h in
        subst (λ l. AreInOrder low high (l ++ rest)) (sym (key_some r v i c k e))
        (in_order_both low high k (cell_key r v i k ∷ []) rest (above_upto low k g.0) g.1
        (in_order_one low (Some k) (cell_key r v i k) (record { rowid = λ f. g.0; other = λ f. above_upto low k g.0; within = up_to_itself k }))
        (on (Some k) g.2)
        (λ x y m n. placed_apart r.address (3 * (i + 1)) x y (elim m [ inl f ↦ (key_step i, [], omega arith, ap (λ k. k.place) f) | inr n ↦ absurd n ])
        (own_placed r v (i + 1) cs y n)))

shuffle : (k : Key) (X O B D : List Key) → IsIn k ((X ++ O) ++ (B ++ D)) → IsIn k ((B ++ X) ++ (O ++ D))
shuffle k X O B D h = elim (IsIn-cases k (X ++ O) (B ++ D) h) [
  | inl i ↦ (elim (IsIn-cases k X O i) [
    | inl j ↦ IsIn-left k (B ++ X) (O ++ D) (IsIn-right k B X j)
    | inr j ↦ IsIn-right k (B ++ X) (O ++ D) (IsIn-left k O D j)
  ])
  | inr i ↦ (elim (IsIn-cases k B D i) [
    | inl j ↦ IsIn-left k (B ++ X) (O ++ D) (IsIn-left k B X j)
    | inr j ↦ IsIn-right k (B ++ X) (O ++ D) (IsIn-right k O D j)
  ])
]

-- one cell of an interior page: what is below its left child, its key, and what comes after
module _ (file : List ℕ) (r : Reference) (v : View) (i : ℕ) (c : Cell) (cs : List Cell) (m : ℤ) (key : c.key ≡ Some m) (open_page : is_interior v.kind ≡ true)
    (A B C : List Reference) (low high : Option ℤ) where
  abbrev pub own_rest : List Key
  own_rest = flat_map (key_of r v) (enumerate_from (i + 1) cs)

  own_inside : IsInside (Some m) (Some m) (cell_key r v i m)
  own_inside = record {
    rowid = λ f. absurd (not_both (not (is_interior v.kind)) f (ap not open_page));
    other = λ f. up_to_itself m;
    within = up_to_itself m;
  }

  is_own : (x : Key) → IsIn x (cell_key r v i m ∷ []) → x ≡ cell_key r v i m
  is_own x (inl e) = e
  is_own x (inr n) = absurd n

  low_part : IsUpTo low (Some m) → AreInOrder low (Some m) (keys_in file B) → Each (IsUnder (r.address ++ child_step i ∷ [])) B
      → AreInOrder low (Some m) (keys_in file B ++ cell_key r v i m ∷ [])
  low_part l b u = in_order_both low (Some m) m (keys_in file B) (cell_key r v i m ∷ []) l (up_to_itself m) b
      (in_order_one (Some m) (Some m) (cell_key r v i m) own_inside)
      (λ x y p q. placed_apart r.address (key_step i) x y (below x p) (key_step i, [], omega arith, ap (λ k. k.place) (is_own y q)))
    where
      below : (x : Key) → IsIn x (keys_in file B) → IsPlacedBelow r.address (key_step i) x
      below x p =
          let n = IsIn-from_flat_map (keys_at file) B x p in
          let w = u n.0 n.1 in
          let f = view_place n.0 (tree_view file n.0) x n.2 in (
            child_step i,
            w.0 ++ key_step f.0 ∷ [],
            omega arith,
            f.1
                ∙ ap (λ b. then_step b (key_step f.0)) (w.1 ∙ append_assoc r.address (child_step i ∷ []) w.0)
                ∙ append_assoc r.address (child_step i ∷ w.0) (key_step f.0 ∷ []),
          )

  below_next : (x : Key) → Each (IsUnder (r.address ++ child_step i ∷ [])) B → IsIn x (keys_in file B ++ cell_key r v i m ∷ [])
      → IsPlacedBelow r.address (3 * (i + 1)) x
  below_next x u h = elim (IsIn-cases x (keys_in file B) (cell_key r v i m ∷ []) h) [
    | inl p ↦ (
        let n = IsIn-from_flat_map (keys_at file) B x p in
        let w = u n.0 n.1 in
        let f = view_place n.0 (tree_view file n.0) x n.2 in (
          child_step i,
          w.0 ++ key_step f.0 ∷ [],
          omega arith,
          f.1 ∙ ap (λ b. then_step b (key_step f.0)) (w.1 ∙ append_assoc r.address (child_step i ∷ []) w.0)
              ∙ append_assoc r.address (child_step i ∷ w.0) (key_step f.0 ∷ []),
        ))
    | inr q ↦ (key_step i, [], omega arith, ap (λ k. k.place) (is_own x q))
  ]

  pub cell_keys : IsUpTo low (Some m) → IsUpTo (Some m) high → Each IsNoTree A → Each (IsUnder (r.address ++ child_step i ∷ [])) B
      → Each (IsFrom r.address (3 * (i + 1))) C
      → AreInOrder low (Some m) (keys_in file B) → AreInOrder (Some m) high (own_rest ++ keys_in file C)
      → AreInOrder low high (flat_map (key_of r v) (enumerate_from i (c ∷ cs)) ++ keys_in file (A ++ B ++ C))
  cell_keys l h a u f b d =
      in_order_of low high (flat_map (key_of r v) (enumerate_from i (c ∷ cs)) ++ keys_in file (A ++ B ++ C))
      ((keys_in file B ++ cell_key r v i m ∷ []) ++ (own_rest ++ keys_in file C))
      (λ k n. shuffle k (cell_key r v i m ∷ []) own_rest (keys_in file B) (keys_in file C) (subst (λ l. IsIn k l) same n))
      (in_order_both low high m (keys_in file B ++ cell_key r v i m ∷ []) (own_rest ++ keys_in file C) l h (low_part l b u) d
      (λ x y p q. placed_apart r.address (3 * (i + 1)) x y (below_next x u p)
      (Each-append (IsPlaced r.address (3 * (i + 1))) own_rest (keys_in file C) (own_placed r v (i + 1) cs) (placed_from file C r.address (3 * (i + 1)) f) y
      q)))
    where
      same : flat_map (key_of r v) (enumerate_from i (c ∷ cs)) ++ keys_in file (A ++ B ++ C) ≡ (cell_key r v i m ∷ [] ++ own_rest)
          ++ (keys_in file B ++ keys_in file C)
      same = ap (λ l. (l ++ flat_map (key_of r v) (enumerate_from (i + 1) cs)) ++ keys_in file (A ++ B ++ C)) (key_some r v i c m key)
          ∙ ap (λ l. (cell_key r v i m ∷ own_rest) ++ l) (flat_map-append (keys_at file) (A ++ B) C
          ∙ ap (λ l. l ++ keys_in file C) (flat_map-append (keys_at file) A B ∙ ap (λ l. l ++ keys_in file B) (none_in file A a)))
