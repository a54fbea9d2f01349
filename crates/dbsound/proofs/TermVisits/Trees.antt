-- The visits of a tree, and of a freelist, are all that its first reference leads to.
use Rattle.std.proofs.Common.{◌≡◌, ◌≢◌, ℕ, ◌+◌, ◌≤◌, inr, Bool, true, false, cond, List, [], ◌∷◌, ◌++◌, map, length, Option, Some, None, ℤ, refl, sym, subst}
use Rattle.std.proofs.Common.{ap, ◌∙◌, arith, append_assoc}
use Rattle.std.specs.Prelude.{flat_map, option_map, option_to_list, nat_le, ◌==◌}
use Rattle.std.specs.List.{enumerate_from}
use Rattle.std.proofs.lemmas.List.{append-nil}
use Rattle.std.proofs.lemmas.Bool.{le-leb}
use Rattle.std.proofs.lemmas.Bool.Decides.{nat_tests}
use Rattle.dbsound.proofs.Common.{Address, Link, named_at, nothing, child_step, usable_size, page_bytes, View, undamaged, is_interior, Cell, right_child, child}
use Rattle.dbsound.proofs.Common.{trunk, free_leaf, Way, Reference, link, cell_links, right_links, page_links, role_links, leaf_count, most_leaves, free_leaves}
use Rattle.dbsound.proofs.Common.{rules_of, Use, Chain, last, full, Payload, whole, split, Payloads, none, more, role_in_tree, Tree, leaf, interior, Children}
use Rattle.dbsound.proofs.Common.{right_only, Freelist, no_trunk, and_trunk, cells_of, TreeKind, PageKind, InteriorIndex, InteriorTable, LeafIndex, LeafTable}
use Rattle.dbformat.specs.Reference.{trunk_links, leaf_link}
use Rattle.dbformat.specs.Reference.{next_trunk, trunk_next}
use Rattle.dbformat.specs.Terms.{and_left}
use Rattle.dbformat.specs.Terms as Terms
use Rattle.dbsurvey.proofs.Each.{Each, Each-left, Each-right}
use Rattle.dbsound.proofs.TermVisits.{visit_at, payload_visits, payloads_visits, tree_visits, children_visits, leaf_visits, freelist_visits}
use Rattle.dbformat.proofs.PageCells.{has_all_cells}
use Rattle.dbformat.proofs.CellParts.{Fits}
use Rattle.dbsound.proofs.TermVisits.Chains.{May, Whole, visit_whole, chain_link, payload_whole, payloads_whole}
use Rattle.dbsurvey.proofs.WholeParts.{whole_both}
use Rattle.dbsurvey.proofs.Composing.{named_at-append}

tree_links : (file : List ℕ) (is_child : Bool) (kind : TreeKind) (p : ℕ) (v : View) → undamaged kind p (usable_size file) (page_bytes file p) ≡ Some v
    → role_links (role_in_tree is_child kind) p (usable_size file) (page_bytes file p) ≡ page_links p kind (Some v)
tree_links file true kind p v e = ap (λ o. page_links p kind o) e
tree_links file false kind p v e = ap (λ o. page_links p kind o) e

cells_links : {file : List ℕ} {is_child : Bool} {kind : TreeKind} {p : ℕ} {v : View} (w : Terms.IsFaultlessPage file kind is_child p v) (o : Option ℕ)
    → right_child v ≡ o
    → role_links (role_in_tree is_child kind) p (usable_size file) (page_bytes file p)
    ≡ flat_map (cell_links p kind) (enumerate_from 0 (cells_of v))
    ++ option_to_list (option_map (link p (child_step (length (cells_of v))) (length (cells_of v)) (child kind)) o)
cells_links {file} {is_child} {kind} {p} {v} w o e =
    let h = has_all_cells w in
    tree_links file is_child kind p v w.undamaged
    ∙ ap (λ xs. flat_map (cell_links p kind) xs ++ right_links p kind v) h.numbers
    ∙ ap (λ n. flat_map (cell_links p kind) (enumerate_from 0 (cells_of v))
    ++ option_to_list (option_map (link p (child_step n) n (child kind)) (right_child v))) h.long
    ∙ ap (λ o. flat_map (cell_links p kind) (enumerate_from 0 (cells_of v))
    ++ option_to_list (option_map (link p (child_step (length (cells_of v))) (length (cells_of v)) (child kind)) o)) e

leaf_right : (v : View) → is_interior v.kind ≡ false → right_child v ≡ None
leaf_right v e = rw e refl

open_kind : (v : View) → is_interior v.kind ≡ false → Each (Fits v.kind) (cells_of v) → Each (λ c. c.left ≡ None) (cells_of v)
open_kind v e h c i = by_kind v.kind e (h c i)
  where
    by_kind : (k : PageKind) → is_interior k ≡ false → Fits k c → c.left ≡ None
    by_kind InteriorIndex e f = cc
    by_kind InteriorTable e f = cc
    by_kind LeafIndex e f = f.0
    by_kind LeafTable e f = f.0

-- a cell's chain, its left child, and the rest
joined : (file : List ℕ) (p : ℕ) (kind : TreeKind) (i : ℕ) (a : Address) (c : Cell) (left : ℕ) (rest : List (Link Way)) (A B C : List Reference) → c.left
    ≡ Some left
    → Whole file (named_at a (chain_link p i c)) A → Whole file (visit_at (child kind) p i left (a ++ child_step i ∷ []) ∷ []) B
    → Whole file (named_at a rest) C
    → (others : List (Link Way)) (end : List (Link Way)) → others ++ end ≡ rest
    → Whole file (named_at a ((cell_links p kind (i, c) ++ others) ++ end)) (A ++ B ++ C)
joined file p kind i a c left rest A B C l x y z others end e =
    let one : cell_links p kind (i, c) ≡ chain_link p i c ++ link p (child_step i) i (child kind) left ∷ [] =
    ap (λ o. chain_link p i c ++ option_to_list (option_map (link p (child_step i) i (child kind)) o)) l in
    let links : (cell_links p kind (i, c) ++ others) ++ end ≡ (chain_link p i c ++ link p (child_step i) i (child kind) left ∷ []) ++ rest =
    append_assoc (cell_links p kind (i, c)) others end ∙ ap (λ l. cell_links p kind (i, c) ++ l) e ∙ ap (λ l. l ++ rest) one in
    subst (λ ls. Whole file (named_at a ls) (A ++ B ++ C)) (sym links)
    (subst (λ cs. Whole file cs (A ++ B ++ C)) (sym (named_at-append a (chain_link p i c ++ link p (child_step i) i (child kind) left ∷ []) rest
    ∙ ap (λ l. l ++ named_at a rest) (named_at-append a (chain_link p i c) (link p (child_step i) i (child kind) left ∷ []))))
    (whole_both (rules_of file) (named_at a (chain_link p i c) ++ visit_at (child kind) p i left (a ++ child_step i ∷ []) ∷ []) (named_at a rest) (A ++ B) C
    (whole_both (rules_of file) (named_at a (chain_link p i c)) (visit_at (child kind) p i left (a ++ child_step i ∷ []) ∷ []) A B x y) z))

mutual
  pub tree_whole : {file : List ℕ} {is_child : Bool} {from p : ℕ} {kind : TreeKind} {height : ℕ} {low high : Option ℤ} {uses : List Use}
      {payloads : List (List ℕ)}
      (t : Tree file is_child from p kind height low high uses payloads) (item : ℕ) (a : Address) → Each (May file) (tree_visits t item a)
      → Whole file (visit_at (role_in_tree is_child kind) from item p a ∷ []) (tree_visits t item a)
  tree_whole {file} (leaf {is_child} {from} {p} {kind} v w l r ps) item a m =
      visit_whole file (role_in_tree is_child kind) from item p a (flat_map (cell_links p kind) (enumerate_from 0 (cells_of v)) ++ []) (payloads_visits ps 0 a)
      (cells_links w None (leaf_right v l)) m
      (subst (λ ls. Whole file (named_at a ls) (payloads_visits ps 0 a)) (sym (append-nil (flat_map (cell_links p kind) (enumerate_from 0 (cells_of v)))))
      (payloads_whole ps kind 0 a (open_kind v l (has_all_cells w).fit) (λ u i. m u (inr i))))
  tree_whole {file} (interior {is_child} {from} {p} {kind} {right} v w r cs) item a m =
      visit_whole file (role_in_tree is_child kind) from item p a
      (flat_map (cell_links p kind) (enumerate_from 0 (cells_of v)) ++ link p (child_step (length (cells_of v))) (length (cells_of v)) (child kind) right
      ∷ []) (children_visits cs 0 a)
      (cells_links w (Some right) r) m
      (children_whole cs 0 (length (cells_of v)) a (omega arith) (λ u i. m u (inr i)))

  children_whole : {file : List ℕ} {p : ℕ} {kind : TreeKind} {height : ℕ} {low high : Option ℤ} {cs : List Cell} {right : ℕ} {uses : List Use}
      {payloads : List (List ℕ)}
      (t : Children file p kind height low high cs right uses payloads) (i n : ℕ) (a : Address) → n ≡ i + length cs → Each (May file) (children_visits t i a)
      → Whole file (named_at a (flat_map (cell_links p kind) (enumerate_from i cs) ++ link p (child_step n) n (child kind) right ∷ [])) (children_visits t i a)
  children_whole {file} (right_only {p} {right} {kind} t) i n a e m =
      let same : i ≡ n = omega arith in
      subst (λ n. Whole file (named_at a (link p (child_step n) n (child kind) right ∷ [])) (tree_visits t i (a ++ child_step i ∷ []))) same
      (tree_whole t i (a ++ child_step i ∷ []) m)
  children_whole {file} (and_left {p} {left} {right} {kind} {c} {cs} ps l lo hi t ts) i n a e m =
      let A = payload_visits ps i a in
      let B = tree_visits t i (a ++ child_step i ∷ []) in
      let C = children_visits ts (i + 1) a in
      let rest = flat_map (cell_links p kind) (enumerate_from (i + 1) cs) ++ link p (child_step n) n (child kind) right ∷ [] in
      joined file p kind i a c left rest A B C l
      (payload_whole ps i a (Each-left (May file) A B (Each-left (May file) (A ++ B) C m)))
      (tree_whole t i (a ++ child_step i ∷ []) (Each-right (May file) A B (Each-left (May file) (A ++ B) C m)))
      (children_whole ts (i + 1) n a (omega arith) (Each-right (May file) (A ++ B) C m))
      (flat_map (cell_links p kind) (enumerate_from (i + 1) cs)) (link p (child_step n) n (child kind) right ∷ []) refl

leaves_whole : (file : List ℕ) (p : ℕ) (leaves : List ℕ) (j : ℕ) (a : Address) → Each (May file) (leaf_visits p leaves j a)
    → Whole file (named_at a (map (leaf_link p) (enumerate_from j leaves))) (leaf_visits p leaves j a)
leaves_whole file p [] j a m = nothing
leaves_whole file p (q ∷ leaves) j a m = whole_both (rules_of file) (visit_at free_leaf p j q (a ++ j ∷ []) ∷ [])
    (named_at a (map (leaf_link p) (enumerate_from (j + 1) leaves)))
    (visit_at free_leaf p j q (a ++ j ∷ []) ∷ []) (leaf_visits p leaves (j + 1) a)
    (visit_whole file free_leaf p j q (a ++ j ∷ []) [] [] refl
    (Each-left (May file) (visit_at free_leaf p j q (a ++ j ∷ []) ∷ []) (leaf_visits p leaves (j + 1) a) m) nothing)
    (leaves_whole file p leaves (j + 1) a (λ u i. m u (inr i)))

-- what names a freelist: nothing at its end, else a link to its first trunk
abbrev pub list_start : ℕ → ℕ → ℕ → List (Link Way)
list_start from item p = cond (p == 0) [] (link from item item trunk p ∷ [])

few_leaves : (p usable : ℕ) (page : List ℕ) → leaf_count page ≤ most_leaves usable
    → trunk_links p usable page ≡ map (leaf_link p) (enumerate_from 0 (free_leaves page)) ++ next_trunk p page (leaf_count page)
few_leaves p usable page h = let e : nat_le (leaf_count page) (most_leaves usable) ≡ true = le-leb (leaf_count page) (most_leaves usable) h in rw e refl

some_trunk : (p : ℕ) → p ≢ 0 → (p == 0) ≡ false
some_trunk p h = grind (arith, nat_tests)

pub freelist_whole : {file : List ℕ} {p : ℕ} {uses : List Use} (t : Freelist file p uses) (from item : ℕ) (a : Address)
    → Each (May file) (freelist_visits t from item (a ++ item ∷ []))
    → Whole file (named_at a (list_start from item p)) (freelist_visits t from item (a ++ item ∷ []))
freelist_whole no_trunk from item a m = nothing
freelist_whole {file} (and_trunk {p} n l t) from item a m =
    let page = page_bytes file p in
    let b = a ++ item ∷ [] in
    let A = leaf_visits p (free_leaves page) 0 b in
    let B = freelist_visits t p (leaf_count page) (b ++ leaf_count page ∷ []) in
    subst (λ x. Whole file (named_at a (cond x [] (link from item item trunk p ∷ []))) (visit_at trunk from item p b ∷ A ++ B)) (sym (some_trunk p n))
    (visit_whole file trunk from item p b (map (leaf_link p) (enumerate_from 0 (free_leaves page)) ++ list_start p (leaf_count page) (trunk_next page)) (A ++ B)
    (few_leaves p (usable_size file) page l) m
    (subst (λ cs. Whole file cs (A ++ B)) (sym (named_at-append b (map (leaf_link p) (enumerate_from 0 (free_leaves page)))
    (list_start p (leaf_count page) (trunk_next page))))
    (whole_both (rules_of file) (named_at b (map (leaf_link p) (enumerate_from 0 (free_leaves page))))
    (named_at b (list_start p (leaf_count page) (trunk_next page))) A B
    (leaves_whole file p (free_leaves page) 0 b (Each-left (May file) A B (λ u i. m u (inr i))))
    (freelist_whole t p (leaf_count page) b (Each-right (May file) A B (λ u i. m u (inr i)))))))
