-- The trees of a file have starts of their own: what holds of two pages of one start holds tree by tree.
use Rattle.std.proofs.Common.{ℤ, arith, ◌≡◌, ◌⊎◌, ℕ, suc, ◌+◌, ◌<◌, ◌≤◌, inl, inr, Bool, false, Option, Some, List, [], ◌∷◌, ◌++◌, length, refl, sym, ap, subst}
use Rattle.std.proofs.Common.{append_assoc, ◌∙◌}
use Rattle.dbsound.proofs.Common.{IsIn, Address, IsBefore, start_of, page_bytes, View, is_interior, SchemaRow, Reference, trunk, free_leaf, tree_view}
use Rattle.dbsound.proofs.Common.{leaf_count, free_leaves, Key, keys_at, is_out_of_order, Use, Tree, Freelist, no_trunk, and_trunk, Forest, no_tree, and_tree}
use Rattle.dbsound.proofs.Common.{TreeKind}
use Rattle.dbsurvey.proofs.Order.{IsIn-cases}
use Rattle.dbsurvey.proofs.Ordering.{IsIn-flat_map}
use Rattle.dbformat.specs.declared.TreeKind.TheVariants as tree
use Rattle.dbsurvey.proofs.Each.{Each, Each-none, Each-cons, Each-append, Each-implies}
use Rattle.dbsound.proofs.TermVisits.{visit_at, tree_visits, leaf_visits, freelist_visits, forest_visits}
use Rattle.dbsound.proofs.TermVisits.Under.{IsUnder, under_itself, tree_under}
use Rattle.dbsound.proofs.TermVisits.Depths.{IsNoTree, no_view, tree_depth}
use Rattle.dbsound.proofs.TermKeys.CellKeys.{no_keys}
use Rattle.dbsound.proofs.TermKeys.TreeKeys.{tree_keys, tree_no_keys}

-- at a start from low on and before high
abbrev pub IsStarted : ℕ → ℕ → Reference → Type 0
IsStarted low high t = (s : ℕ) × (rest : List ℕ) × (low ≤ s) × (s < high) × (t.address ≡ s ∷ rest)

-- what holds of each two of one start
abbrev pub Alike : (Reference → Reference → Type 0) → List Reference → Type 0
Alike rel V = (r t : Reference) → IsIn r V → IsIn t V → start_of r.address ≡ start_of t.address → rel r t

pub alike_both : (rel : Reference → Reference → Type 0) (low mid high : ℕ) (X Y : List Reference) → Each (IsStarted low mid) X → Each (IsStarted mid high) Y
    → Alike rel X → Alike rel Y → Alike rel (X ++ Y)
alike_both rel low mid high X Y sx sy x y r t i j e = by_cases (IsIn-cases r X Y i) (IsIn-cases t X Y j)
  where
    other : (r t : Reference) → IsStarted low mid r → IsStarted mid high t → start_of r.address ≡ start_of t.address → ⊥
    other r t h k e = let f : h.0 ≡ k.0 = sym (ap start_of h.4) ∙ e ∙ ap start_of k.4 in let l = h.3 in let m = k.2 in omega arith

    by_cases : IsIn r X ⊎ IsIn r Y → IsIn t X ⊎ IsIn t Y → rel r t
    by_cases (inl m) (inl n) = x r t m n e
    by_cases (inl m) (inr n) = absurd (other r t (sx r m) (sy t n) e)
    by_cases (inr m) (inl n) = absurd (other t r (sx t n) (sy r m) (sym e))
    by_cases (inr m) (inr n) = y r t m n e

-- the leaf t has the depth of the leaf r
pub record AreLevel (file : List ℕ) (r t : Reference) : Type 0 where
  pub level : (v w : View) → tree_view file r ≡ Some v → is_interior v.kind ≡ false → tree_view file t ≡ Some w → is_interior w.kind ≡ false
      → length r.address ≡ length t.address

-- no key of t is out of order after one of r
abbrev pub AreSorted : List ℕ → Reference → Reference → Type 0
AreSorted file r t = (j k : Key) → IsIn j (keys_at file r) → IsIn k (keys_at file t) → IsBefore j.place k.place → is_out_of_order k j ≡ false

-- both
pub record AreGood (file : List ℕ) (r t : Reference) : Type 0 where
  pub level : AreLevel file r t
  pub sorted : AreSorted file r t

no_tree_good : (file : List ℕ) (V : List Reference) → Each IsNoTree V → Alike (AreGood file) V
no_tree_good file V h r t i j e = record {
  level = record { level = λ v w f g k l. let m = sym (no_view file r (h r i)) ∙ f in cc };
  sorted = λ x y m n b. absurd (subst (λ l. IsIn x l) (no_keys file r (h r i)) m);
}

tree_sorted : {file : List ℕ} {is_child : Bool} {from p : ℕ} {kind : TreeKind} {height : ℕ} {low high : Option ℤ} {uses : List Use} {payloads : List (List ℕ)}
    (t : Tree file is_child from p kind height low high uses payloads) (item : ℕ) (a : Address) (r u : Reference) → IsIn r (tree_visits t item a)
    → IsIn u (tree_visits t item a) → AreSorted file r u
tree_sorted {file} {kind} t item a r u i j x y m n b = by_kind kind refl
  where
    by_kind : (k : TreeKind) → kind ≡ k → is_out_of_order y x ≡ false
    by_kind tree.Table e = (tree_keys t item a e).sorted x y (IsIn-flat_map (keys_at file) (tree_visits t item a) r x i m)
        (IsIn-flat_map (keys_at file) (tree_visits t item a) u y j n) b
    by_kind tree.Index e = absurd (subst (λ l. IsIn x l) (tree_no_keys t item a e r i) m)

pub tree_good : {file : List ℕ} {is_child : Bool} {from p : ℕ} {kind : TreeKind} {height : ℕ} {low high : Option ℤ} {uses : List Use} {payloads : List (List ℕ)}
    (t : Tree file is_child from p kind height low high uses payloads) (item : ℕ) (k : ℕ) → Alike (AreGood file) (tree_visits t item (k ∷ []))
tree_good {file} {height} t item k r u i j e = record {
  level = record {
    level = λ v w f g m n.
        let d : height + 1 ≡ length (k ∷ []) + height = omega arith in
        (tree_depth t item (k ∷ []) height d r i).leaves v f g ∙ sym ((tree_depth t item (k ∷ []) height d u j).leaves w m n);
  };
  sorted = tree_sorted t item (k ∷ []) r u i j;
}

pub started_under : (k high : ℕ) (V : List Reference) → k < high → Each (IsUnder (k ∷ [])) V → Each (IsStarted k high) V
started_under k high V l h t i = let u = h t i in (k, u.0, omega arith, l, u.1)

pub started_within : (low low' high high' : ℕ) (V : List Reference) → low' ≤ low → high ≤ high' → Each (IsStarted low high) V → Each (IsStarted low' high') V
started_within low low' high high' V l m h t i = let u = h t i in let a = u.2 in let b = u.3 in (u.0, u.1, omega arith, omega arith, u.4)

pub tree_started : {file : List ℕ} {is_child : Bool} {from p : ℕ} {kind : TreeKind} {height : ℕ} {low high : Option ℤ} {uses : List Use}
    {payloads : List (List ℕ)}
    (t : Tree file is_child from p kind height low high uses payloads) (item : ℕ) (k : ℕ) → Each (IsStarted k (k + 1)) (tree_visits t item (k ∷ []))
tree_started t item k = started_under k (k + 1) (tree_visits t item (k ∷ [])) (omega arith) (tree_under t item (k ∷ []))

pub forest_started : {file : List ℕ} {rows : List SchemaRow} {uses : List Use} (f : Forest file rows uses) (k : ℕ)
    → Each (IsStarted k (k + length rows)) (forest_visits f k)
forest_started no_tree k = Each-none (IsStarted k (k + 0))
forest_started (and_tree {rows} i h t f) k = Each-append (IsStarted k (k + suc (length rows))) (tree_visits t k (k ∷ [])) (forest_visits f (k + 1))
    (started_within k k (k + 1) (k + suc (length rows)) (tree_visits t k (k ∷ [])) (omega arith) (omega arith) (tree_started t k k))
    (started_within (k + 1) k (k + 1 + length rows) (k + suc (length rows)) (forest_visits f (k + 1)) (omega arith) (omega arith) (forest_started f (k + 1)))

pub forest_good : {file : List ℕ} {rows : List SchemaRow} {uses : List Use} (f : Forest file rows uses) (k : ℕ) → Alike (AreGood file) (forest_visits f k)
forest_good no_tree k = λ r t i j e. absurd i
forest_good {file} (and_tree {rows} i h t f) k = alike_both (AreGood file) k (k + 1) (k + 1 + length rows) (tree_visits t k (k ∷ [])) (forest_visits f (k + 1))
    (tree_started t k k) (forest_started f (k + 1)) (tree_good t k k) (forest_good f (k + 1))

-- the freelist has no tree page
leaves_no_tree : (p : ℕ) (leaves : List ℕ) (j : ℕ) (a : Address) → Each IsNoTree (leaf_visits p leaves j a)
leaves_no_tree p [] j a = Each-none IsNoTree
leaves_no_tree p (q ∷ leaves) j a = Each-cons IsNoTree (visit_at free_leaf p j q (a ++ j ∷ [])) (leaf_visits p leaves (j + 1) a) refl
    (leaves_no_tree p leaves (j + 1) a)

pub freelist_no_tree : {file : List ℕ} {p : ℕ} {uses : List Use} (t : Freelist file p uses) (from item : ℕ) (a : Address)
    → Each IsNoTree (freelist_visits t from item a)
freelist_no_tree no_trunk from item a = Each-none IsNoTree
freelist_no_tree {file} (and_trunk {p} n l t) from item a =
    let page = page_bytes file p in
    let rest = freelist_visits t p (leaf_count page) (a ++ leaf_count page ∷ []) in
    Each-cons IsNoTree (visit_at trunk from item p a) (leaf_visits p (free_leaves page) 0 a ++ rest) refl
    (Each-append IsNoTree (leaf_visits p (free_leaves page) 0 a) rest (leaves_no_tree p (free_leaves page) 0 a)
    (freelist_no_tree t p (leaf_count page) (a ++ leaf_count page ∷ [])))

leaves_under : (p : ℕ) (leaves : List ℕ) (j : ℕ) (a : Address) → Each (IsUnder a) (leaf_visits p leaves j a)
leaves_under p [] j a = Each-none (IsUnder a)
leaves_under p (q ∷ leaves) j a = Each-cons (IsUnder a) (visit_at free_leaf p j q (a ++ j ∷ [])) (leaf_visits p leaves (j + 1) a) (j ∷ [], refl)
    (leaves_under p leaves (j + 1) a)

pub freelist_under : {file : List ℕ} {p : ℕ} {uses : List Use} (t : Freelist file p uses) (from item : ℕ) (a : Address)
    → Each (IsUnder a) (freelist_visits t from item a)
freelist_under no_trunk from item a = Each-none (IsUnder a)
freelist_under {file} (and_trunk {p} n l t) from item a =
    let page = page_bytes file p in
    let rest = freelist_visits t p (leaf_count page) (a ++ leaf_count page ∷ []) in
    Each-cons (IsUnder a) (visit_at trunk from item p a) (leaf_visits p (free_leaves page) 0 a ++ rest) (under_itself trunk from item p a)
    (Each-append (IsUnder a) (leaf_visits p (free_leaves page) 0 a) rest (leaves_under p (free_leaves page) 0 a)
    (Each-implies (IsUnder (a ++ leaf_count page ∷ [])) (IsUnder a) rest (λ u h. (leaf_count page ∷ h.0, h.1 ∙ append_assoc a (leaf_count page ∷ []) h.0))
    (freelist_under t p (leaf_count page) (a ++ leaf_count page ∷ []))))

pub freelist_good : {file : List ℕ} {p : ℕ} {uses : List Use} (t : Freelist file p uses) (from item : ℕ) (a : Address)
    → Alike (AreGood file) (freelist_visits t from item a)
freelist_good {file} t from item a = no_tree_good file (freelist_visits t from item a) (freelist_no_tree t from item a)
