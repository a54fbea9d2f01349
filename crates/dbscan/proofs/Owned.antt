-- A visited page is owned, by what its start is.
use Rattle.dbscan.proofs.Common.{arith, ◌≡◌, ℕ, cond, List, [], ◌∷◌, Some, sym, ap, subst, ◌∙◌, find, option_map, eq-eqb, ne_eqb, nat_tests, IsIn, start_of}
use Rattle.dbscan.proofs.Common.{freelist_start, visit_of, Reference, starts, Survey, option_map_or, allowed, start_is, start_visited, first_is}
use Rattle.dbformat.proofs.Visited.{visit_is}
use Rattle.dbformat.specs.Starts.{is_start, first_start}
use Rattle.dbscan.specs.Owners.{Owner, Nobody, Layout, Freelist, Tree, owner_at, owner_of, AreOwned}

abbrev tree_at : List Reference → ℕ → Owner
tree_at V k = option_map_or (λ u. Tree u.page) (find (is_start k) V) Nobody

owner_is : (file : List ℕ) (V : List Reference) (s : Survey file V) (r : Reference) → IsIn r V → owner_of file V r.page ≡ owner_at V (start_of r.address)
unfolding owner_of
owner_is file V s r i = ap (λ b. cond b Layout (option_map_or (λ r. owner_at V (start_of r.address)) (visit_of V r.page) Nobody)) (allowed file V s r i).1
    ∙ ap (λ o. option_map_or (λ r. owner_at V (start_of r.address)) o Nobody) (visit_is file V s r i)

pub are_owned : (file : List ℕ) → AreOwned file
are_owned file V s r i = record {
  free = ((λ f. by_start (sym own ∙ f)), (λ f. own ∙ ap (λ b. cond b Freelist (tree_at V k)) (eq-eqb k freelist_start f)));
  tree = λ off. (u.0, u.1, u.2, own ∙ ap (λ b. cond b Freelist (tree_at V k)) (ne_eqb k freelist_start off) ∙ tree_is);
  first = λ q f. by_tree q (sym own ∙ f) ∙ sym (ap (λ o. option_map (λ r. start_of r.address) o) (visit_is file V s r i));
}
  where
    k : ℕ
    k = start_of r.address

    own : owner_of file V r.page ≡ owner_at V k
    own = owner_is file V s r i

    u : (u : Reference) × IsIn u V × (u.address ≡ k ∷ [])
    u = start_visited file V s r i

    tree_is : tree_at V k ≡ Tree u.0.page
    tree_is = ap (λ o. option_map_or (λ u. Tree u.page) o Nobody) (start_is file V s u.0 k u.1 u.2)

    by_start : owner_at V k ≡ Freelist → k ≡ freelist_start
    by_start f = let t : tree_at V k ≡ Tree u.0.page = tree_is in grind (arith, nat_tests)

    by_tree : (q : ℕ) → owner_at V k ≡ Tree q → first_start (starts file V) q ≡ Some k
    by_tree q f =
        let t : tree_at V k ≡ Tree u.0.page = tree_is in
        let same : u.0.page ≡ q = grind (arith, nat_tests) in
        subst (λ q. first_start (starts file V) q ≡ Some k) same (first_is file V s u.0 k u.1 u.2)
