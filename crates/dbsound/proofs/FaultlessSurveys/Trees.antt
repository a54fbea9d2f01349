-- A survey without faults has a tree at each page of a tree: its leaves have one depth, and no page is too deep. So the
-- tree at a root is not too high.
use Rattle.std.proofs.Common.{◌≡◌, ℕ, zero, suc, ◌≤◌, inl, inr, Bool, true, false, List, [], ◌∷◌, length, Option, Some, None, ℤ, refl, sym, ap, ◌∙◌, arith}
use Rattle.std.proofs.Common.{append-nil, eq-eqb}
use Rattle.std.specs.Prelude.{find, not, ◌&&◌, ◌==◌, nat_lt, is_some, pos}
use Rattle.std.specs.Option.{option_map_or}
use Rattle.std.proofs.lemmas.Bool.{and_parts, and_from, eqb-true, cases_Bool, both_ways, not-true, not-false, ltb-false}
use Rattle.dbsound.proofs.Common.{IsIn, children, start_of, depth, usable_size, geometry, page_bytes, fault, is_fixed, View, undamaged, is_interior, Role, root}
use Rattle.dbsound.proofs.Common.{child, first_overflow, later_overflow, trunk, free_leaf, Reference, role_of, tree_kind, tree_view, is_root, Survey, rules_of}
use Rattle.dbsound.proofs.Common.{most_depth, is_leaf_of, depth_fault, walk_faults, role_in_tree, TreeKind, Fault, below, starts}
use Rattle.dbsurvey.proofs.Composing.{named_at-step}
use Rattle.dbformat.specs.Tests.{reported_if}
use Rattle.dbformat.specs.FixedPages.{is_page}
use Rattle.dbformat.specs.Survey.{is_too_deep}
use Rattle.dbformat.specs.PageFaults.{leaf_depth}
use Rattle.dbformat.specs.declared.FaultCode.TheVariants.{T05}
use Rattle.dbsound.specs.Surveys.{HasTreesBelow, HasWholeTrees}
use Rattle.dbsound.proofs.FaultlessSurveys.Followed.{by_its_links, child_visited, fewer_below}
use Rattle.dbsound.proofs.FaultlessSurveys.TreePages.{tree_page}
use Rattle.dbsurvey.proofs.Lists.{find-none, find-some}
use Rattle.dbsound.proofs.FaultlessSurveys.Keys.{low-none}
use Rattle.dbformat.proofs.Visited.{has_address, root_is_start, kind_of_view}
use Rattle.dbsound.proofs.FaultlessSurveys.Leaves.{AreLow, AreHigh, HasTree, leaf_at}
use Rattle.dbsound.proofs.FaultlessSurveys.Interiors.{interior_at}
use Rattle.dbformat.proofs.Places.{same_start}

tree_role : (role : Role) (kind : TreeKind) → tree_kind role ≡ Some kind → (is_child : Bool) × (role ≡ role_in_tree is_child kind)
tree_role (root k) kind e = (false, cc)
tree_role (child k) kind e = (true, cc)
tree_role (first_overflow left) kind e = cc
tree_role (later_overflow left) kind e = cc
tree_role trunk kind e = cc
tree_role free_leaf kind e = cc

module _ (file : List ℕ) (V : List Reference) (s : Survey file V) (faultless : walk_faults file V ≡ []) where
  -- a visited page of a tree is not too deep
  not_deep : (t : Reference) (kind : TreeKind) → IsIn t V → tree_kind (role_of t) ≡ Some kind → depth t.address ≤ most_depth
  unfolding rules_of
  not_deep t kind i e =
      let may = ((s.exact t).0 i).1 in
      let a = (and_parts (is_page (geometry file) t.page) (not (is_fixed (geometry file) t.page) && not (is_too_deep t)) may).1 in
      let b = not-true (is_too_deep t) (and_parts (not (is_fixed (geometry file) t.page)) (not (is_too_deep t)) a).1 in
      let c : nat_lt most_depth (depth t.address) ≡ false = sym (ap (λ o. is_some o && nat_lt most_depth (depth t.address)) e) ∙ b in
      ltb-false most_depth (depth t.address) c

  reported_none : (b : Bool) (f : Fault) → reported_if b f ≡ [] → b ≡ false
  reported_none true f e = cc
  reported_none false f e = refl

  -- a leaf has the depth of the first of its tree
  leaf_deep : (t : Reference) (v : View) → IsIn t V → tree_view file t ≡ Some v → is_interior v.kind ≡ false → is_leaf_of file (start_of t.address) t ≡ true
  leaf_deep t v i e f = and_from (start_of t.address == start_of t.address) (option_map_or (λ v. not (is_interior v.kind)) (tree_view file t) false)
      (eq-eqb (start_of t.address) (start_of t.address) refl)
      (ap (λ o. option_map_or (λ v. not (is_interior v.kind)) o false) e ∙ ap not f)

  deep_as_first : (t : Reference) → IsIn t V → is_leaf_of file (start_of t.address) t ≡ true → depth_fault file V t ≡ []
      → depth t.address ≡ leaf_depth file V (start_of t.address) 0
  unfolding depth_fault
  deep_as_first t i is_leaf none =
      let k = start_of t.address in
      let d = depth t.address in
      let e = reported_none (is_leaf_of file k t && not (d == leaf_depth file V k d)) (fault T05 t.page 0 (pos d)) none in
      let f : not (d == leaf_depth file V k d) ≡ false = sym (ap (λ b. b && not (d == leaf_depth file V k d)) is_leaf) ∙ e in
      eqb-true d (leaf_depth file V k d) (not-false (d == leaf_depth file V k d) f) ∙ by_case (find (is_leaf_of file k) V) refl
    where
      by_case : (o : Option Reference) → find (is_leaf_of file (start_of t.address)) V ≡ o
          → option_map_or (λ r. depth r.address) o (depth t.address) ≡ option_map_or (λ r. depth r.address) o 0
      by_case None e = absurd (both_ways (is_leaf_of file (start_of t.address) t) (find-none (is_leaf_of file (start_of t.address)) V e t i) is_leaf)
      by_case (Some r) e = refl

  -- the first leaf is not too deep, where there is one
  pub first_not_deep : (k : ℕ) → leaf_depth file V k 0 ≤ most_depth
  first_not_deep k = by_case (find (is_leaf_of file k) V) refl
    where
      in_tree : (t : Reference) (o : Option View) → tree_view file t ≡ o → option_map_or (λ v. not (is_interior v.kind)) o false ≡ true
          → (v : View) × (tree_view file t ≡ Some v)
      in_tree t None e f = cc
      in_tree t (Some v) e f = (v, e)

      by_case : (o : Option Reference) → find (is_leaf_of file k) V ≡ o → option_map_or (λ r. depth r.address) o 0 ≤ most_depth
      by_case None e = omega arith
      by_case (Some t) e =
          let f = find-some (is_leaf_of file k) V t e in
          let v = in_tree t (tree_view file t) refl (and_parts (start_of t.address == k)
          (option_map_or (λ v. not (is_interior v.kind)) (tree_view file t) false) f.1).1 in
          let kind = kind_of_view file t v.0 v.1 in
          not_deep t kind.0 f.0 kind.1

  -- where all leaves of start k have depth D, its pages are trees
  module _ (k D : ℕ) (leaves : (t : Reference) (v : View) → IsIn t V → start_of t.address ≡ k → tree_view file t ≡ Some v → is_interior v.kind ≡ false
      → depth t.address ≡ D) where
    child_start : (r q : Reference) → IsIn r V → IsIn q (children (rules_of file) r) → start_of r.address ≡ k → start_of q.address ≡ k
    child_start r q i j e =
        let n = named_at-step r.address ((rules_of file).links r.page r.role) q j in
        ap start_of n.1 ∙ same_start r.address (has_address file V s r i) (n.0 ∷ []) [] ∙ ap start_of (append-nil r.address) ∙ e

    tree_of : (n : ℕ) (r : Reference) (kind : TreeKind) (is_child : Bool) → length (below V r.address) ≤ n → IsIn r V → start_of r.address ≡ k
        → role_of r ≡ role_in_tree is_child kind
        → (low high : Option ℤ) → AreLow file V low r.address 0 → AreHigh file V high r.address → HasTree file V D kind is_child r low high
    tree_of zero r kind is_child small i e role_is low high lows highs = absurd (let f = ap length (by_its_links file V s faultless r i) in omega arith)
    tree_of (suc n) r kind is_child small i e role_is low high lows highs =
        let page = tree_page file V s faultless r kind is_child i role_is in
        elim (cases_Bool (is_interior page.0.kind)) [
          | inl inner ↦ interior_at file V s faultless D r i kind is_child role_is page.0 page.1 inner
              (λ q j q_role. tree_of n q kind true (let f = fewer_below file V s faultless r q i j in omega arith) (child_visited file V s faultless r q i j)
              (child_start r q i j e) q_role)
              low high lows highs
          | inr is_leaf ↦ leaf_at file V s faultless r i kind is_child role_is page.0 page.1 is_leaf D low high (leaves r page.0 i e page.1.view_is is_leaf)
              lows highs
        ]

  leaves_of : (k : ℕ) (t : Reference) (v : View) → IsIn t V → start_of t.address ≡ k → tree_view file t ≡ Some v → is_interior v.kind ≡ false
      → depth t.address ≡ leaf_depth file V k 0
  leaves_of k t v i e view_is is_leaf =
      let kind = kind_of_view file t v view_is in
      let role = tree_role (role_of t) kind.0 kind.1 in
      let page = tree_page file V s faultless t kind.0 role.0 i role.1 in
      deep_as_first t i (leaf_deep t v i view_is is_leaf) page.1.depth_is ∙ ap (λ k. leaf_depth file V k 0) e

  page_tree : (r : Reference) (kind : TreeKind) (is_child : Bool) → IsIn r V → role_of r ≡ role_in_tree is_child kind
      → HasTree file V (leaf_depth file V (start_of r.address) 0) kind is_child r None None
  page_tree r kind is_child i e =
      let k = start_of r.address in
      tree_of k (leaf_depth file V k 0) (leaves_of k) (length (below V r.address)) r kind is_child (omega arith) i refl e None None
      (λ key is_key step b g at. low-none key) (λ key is_key step b at. tt)

pub trees_below : (file : List ℕ) → HasTreesBelow file
trees_below file V s faultless r kind is_child i e = let t = page_tree file V s faultless r kind is_child i e in (t.0, (let h = t.1 in omega arith), t.2)

pub whole_trees : (file : List ℕ) → HasWholeTrees file
whole_trees file V s faultless r kind i e =
    let start = named_at-step [] (starts file V) r (root_is_start file V s r i (ap is_root e)) in
    let f : depth r.address ≡ 1 = ap depth start.1 in
    let t = trees_below file V s faultless r kind false i e in
    let d = first_not_deep file V s faultless (start_of r.address) in
    (t.0, (let h = t.1 in omega arith), t.2)
