-- The keys of a table tree are in order, and an index tree has none.
use Rattle.std.proofs.Common.{ℤ, ◌≡◌, ℕ, ◌+◌, inl, inr, Bool, true, Option, None, Some, List, [], ◌∷◌, ◌++◌, refl, sym, ap, subst, ◌∙◌}
use Rattle.std.specs.Prelude.{flat_map}
use Rattle.std.specs.List.{enumerate_from}
use Rattle.std.proofs.lemmas.List.{append-nil}
use Rattle.dbsound.proofs.Common.{Address, child_step, View, is_interior, tree_of, Cell, Reference, key_of, keys_of_view, keys_at, Use, IsUpTo, IsAbove}
use Rattle.dbsound.proofs.Common.{RiseWithin, keys_of, cells_of, Payload, Payloads, role_in_tree, Tree, leaf, interior, Children, right_only, PageKind}
use Rattle.dbsound.proofs.Common.{InteriorIndex, InteriorTable, LeafIndex, LeafTable, TreeKind}
use Rattle.dbformat.specs.Terms.{and_left}
use Rattle.dbformat.specs.Terms as Terms
use Rattle.dbformat.specs.declared.TreeKind.TheVariants as tree
use Rattle.dbsurvey.proofs.Each.{Each, Each-cons, Each-append}
use Rattle.dbsound.proofs.TermVisits.{visit_at, payload_visits, payloads_visits, tree_visits, children_visits}
use Rattle.dbsound.proofs.TermVisits.Under.{tree_under, children_from}
use Rattle.dbformat.proofs.PageCells.{has_right, has_all_cells}
use Rattle.dbformat.proofs.CellParts.{Fits, same_tree}
use Rattle.dbsound.proofs.TermVisits.Depths.{own_view, payload_no_tree, payloads_no_tree}
use Rattle.dbsound.proofs.TermKeys.KeyOrder.{AreInOrder}
use Rattle.dbsound.proofs.TermKeys.CellKeys.{keys_in, none_in, no_keys, key_none, leaf_keys, cell_keys}

has_key : (c : Cell) (kind : TreeKind) (v : View) → is_interior v.kind ≡ true → tree_of v.kind ≡ tree.Table → Fits v.kind c → (k : ℤ) × (c.key ≡ Some k)
has_key c kind v i e f = by_kind v.kind i e f
  where
    by_kind : (k : PageKind) → is_interior k ≡ true → tree_of k ≡ tree.Table → Fits k c → (k : ℤ) × (c.key ≡ Some k)
    by_kind InteriorIndex i e f = cc
    by_kind InteriorTable i e f = f.2
    by_kind LeafIndex i e f = cc
    by_kind LeafTable i e f = cc

mutual
  pub tree_keys : {file : List ℕ} {is_child : Bool} {from p : ℕ} {kind : TreeKind} {height : ℕ} {low high : Option ℤ} {uses : List Use}
      {payloads : List (List ℕ)}
      (t : Tree file is_child from p kind height low high uses payloads) (item : ℕ) (a : Address) → kind ≡ tree.Table
      → AreInOrder low high (keys_in file (tree_visits t item a))
  tree_keys {file} (leaf {is_child} {from} {p} {kind} {low} {high} v w l r ps) item a e =
      let ref = visit_at (role_in_tree is_child kind) from item p a in
      subst (AreInOrder low high) (sym (
      ap (λ l. keys_at file ref ++ l) (none_in file (payloads_visits ps 0 a) (payloads_no_tree ps 0 a)) ∙ append-nil (keys_at file ref)
      ∙ ap (keys_of_view ref) (own_view file is_child kind from item p a v w.undamaged)
      ∙ ap (flat_map (key_of ref v)) (has_all_cells w).numbers
      ))
      (leaf_keys ref v 0 (cells_of v) low high l r)
  tree_keys {file} (interior {is_child} {from} {p} {kind} {low = low} {high} v w r cs) item a e =
      let ref = visit_at (role_in_tree is_child kind) from item p a in
      let h = has_all_cells w in
      let open_page = has_right v _ r in
      subst (AreInOrder low high) (sym (ap (λ l. l ++ keys_in file (children_visits cs 0 a)) (
      ap (keys_of_view ref) (own_view file is_child kind from item p a v w.undamaged)
      ∙ ap (flat_map (key_of ref v)) h.numbers
      )))
      (children_keys cs 0 ref v open_page (λ c i. has_key c kind v open_page (same_tree (tree_of v.kind) kind h.same_kind ∙ e) (h.fit c i)) e)

  children_keys : {file : List ℕ} {p : ℕ} {kind : TreeKind} {height : ℕ} {low high : Option ℤ} {cs : List Cell} {right : ℕ} {uses : List Use}
      {payloads : List (List ℕ)}
      (t : Children file p kind height low high cs right uses payloads) (i : ℕ) (r : Reference) (v : View) → is_interior v.kind ≡ true
      → Each (λ c. (k : ℤ) × (c.key ≡ Some k)) cs → kind ≡ tree.Table
      → AreInOrder low high (flat_map (key_of r v) (enumerate_from i cs) ++ keys_in file (children_visits t i r.address))
  children_keys (right_only t) i r v o k e = tree_keys t i (r.address ++ child_step i ∷ []) e
  children_keys {file} (and_left {low} {high} {c} {cs} ps l lo hi t ts) i r v o k e =
      let m = k c (inl refl) in
      cell_keys file r v i c cs m.0 m.1 o (payload_visits ps i r.address) (tree_visits t i (r.address ++ child_step i ∷ []))
      (children_visits ts (i + 1) r.address) low high
      (subst (λ o. IsUpTo low o) m.1 lo) (subst (λ o. IsUpTo o high) m.1 hi)
      (payload_no_tree ps i r.address) (tree_under t i (r.address ++ child_step i ∷ [])) (children_from ts (i + 1) r.address)
      (subst (λ o. AreInOrder low o (keys_in file (tree_visits t i (r.address ++ child_step i ∷ [])))) m.1 (tree_keys t i (r.address ++ child_step i ∷ []) e))
      (subst (λ o. AreInOrder o high (flat_map (key_of r v) (enumerate_from (i + 1) cs) ++ keys_in file (children_visits ts (i + 1) r.address))) m.1
      (children_keys ts (i + 1) r v o (λ d j. k d (inr j)) e))

-- an index tree has no keys
none_own : (r : Reference) (v : View) (i : ℕ) (cs : List Cell) → Each (λ c. c.key ≡ None) cs → flat_map (key_of r v) (enumerate_from i cs) ≡ []
none_own r v i [] h = refl
none_own r v i (c ∷ cs) h = ap (λ l. l ++ flat_map (key_of r v) (enumerate_from (i + 1) cs)) (key_none r v i c (h c (inl refl)))
    ∙ none_own r v (i + 1) cs (λ d j. h d (inr j))

lacks_key : (c : Cell) (v : View) → tree_of v.kind ≡ tree.Index → Fits v.kind c → c.key ≡ None
lacks_key c v e f = by_kind v.kind e f
  where
    by_kind : (k : PageKind) → tree_of k ≡ tree.Index → Fits k c → c.key ≡ None
    by_kind InteriorIndex e f = f.1
    by_kind InteriorTable e f = cc
    by_kind LeafIndex e f = f.1
    by_kind LeafTable e f = cc

abbrev HasNoKeys : List ℕ → Reference → Type 0
HasNoKeys file t = keys_at file t ≡ []

page_no_keys : {file : List ℕ} {is_child : Bool} {kind : TreeKind} {p : ℕ} {v : View} → Terms.IsFaultlessPage file kind is_child p v → kind ≡ tree.Index
    → (from item : ℕ) (a : Address) → HasNoKeys file (visit_at (role_in_tree is_child kind) from item p a)
page_no_keys {file} {is_child} {kind} {p} {v} w e from item a =
    let h = has_all_cells w in
    let r = visit_at (role_in_tree is_child kind) from item p a in
    ap (keys_of_view r) (own_view file is_child kind from item p a v w.undamaged)
    ∙ ap (flat_map (key_of r v)) h.numbers
    ∙ none_own r v 0 (cells_of v) (λ c i. lacks_key c v (same_tree (tree_of v.kind) kind h.same_kind ∙ e) (h.fit c i))

mutual
  pub tree_no_keys : {file : List ℕ} {is_child : Bool} {from p : ℕ} {kind : TreeKind} {height : ℕ} {low high : Option ℤ} {uses : List Use}
      {payloads : List (List ℕ)}
      (t : Tree file is_child from p kind height low high uses payloads) (item : ℕ) (a : Address) → kind ≡ tree.Index
      → Each (HasNoKeys file) (tree_visits t item a)
  tree_no_keys {file} (leaf {is_child} {from} {p} {kind} v w l r ps) item a e =
      Each-cons (HasNoKeys file) (visit_at (role_in_tree is_child kind) from item p a) (payloads_visits ps 0 a)
      (page_no_keys w e from item a) (λ t i. no_keys file t (payloads_no_tree ps 0 a t i))
  tree_no_keys {file} (interior {is_child} {from} {p} {kind} v w r cs) item a e =
      Each-cons (HasNoKeys file) (visit_at (role_in_tree is_child kind) from item p a) (children_visits cs 0 a)
      (page_no_keys w e from item a) (children_no_keys cs 0 a e)

  children_no_keys : {file : List ℕ} {p : ℕ} {kind : TreeKind} {height : ℕ} {low high : Option ℤ} {cs : List Cell} {right : ℕ} {uses : List Use}
      {payloads : List (List ℕ)}
      (t : Children file p kind height low high cs right uses payloads) (i : ℕ) (a : Address) → kind ≡ tree.Index
      → Each (HasNoKeys file) (children_visits t i a)
  children_no_keys (right_only t) i a e = tree_no_keys t i (a ++ child_step i ∷ []) e
  children_no_keys {file} (and_left ps l lo hi t cs) i a e =
      Each-append (HasNoKeys file) (payload_visits ps i a ++ tree_visits t i (a ++ child_step i ∷ [])) (children_visits cs (i + 1) a)
      (Each-append (HasNoKeys file) (payload_visits ps i a) (tree_visits t i (a ++ child_step i ∷ [])) (λ t j. no_keys file t (payload_no_tree ps i a t j))
      (tree_no_keys t i (a ++ child_step i ∷ []) e))
      (children_no_keys cs (i + 1) a e)
