-- The trees of the schema's rows: their starts, and all that these lead to.
use Rattle.std.proofs.Common.{ℤ, ◌≡◌, ℕ, ◌+◌, Bool, true, false, cond, ◌||◌, List, [], ◌∷◌, map, Option, Some, None, Ok, Err, refl, sym, subst, ap, ◌∙◌, arith}
use Rattle.std.specs.Prelude.{◌==◌, nat_le, ◌&&◌}
use Rattle.std.specs.List.{enumerate_from}
use Rattle.std.proofs.lemmas.Bool.Decides.{nat_tests}
use Rattle.dbsound.proofs.Common.{named_at, nothing, usable_size, page_bytes, View, view, type_byte, own_kind, tree_of, content_start, SchemaRow, root}
use Rattle.dbsound.proofs.Common.{root_start, rules_of, Use, Tree, leaf, interior, Forest, no_tree, and_tree, PageKind, InteriorIndex, InteriorTable, LeafIndex}
use Rattle.dbsound.proofs.Common.{LeafTable, TreeKind}
use Rattle.dbformat.specs.Head.{view_of_kind, page_kind, pointers_end}
use Rattle.dbformat.specs.Schema.{root_kind}
use Rattle.dbformat.specs.Terms as Terms
use Rattle.dbformat.specs.declared.HeadFault.TheVariants.{ContentStart}
use Rattle.dbformat.specs.declared.RowKind.{RowKind}
use Rattle.dbformat.specs.declared.RowKind.TheVariants as row
use Rattle.dbformat.specs.declared.TreeKind.TheVariants as tree
use Rattle.dbsurvey.proofs.Each.{Each, Each-left, Each-right}
use Rattle.dbsound.proofs.TermVisits.{visit_at, tree_visits, forest_visits}
use Rattle.dbformat.proofs.PageCells.{has_all_cells}
use Rattle.dbsound.proofs.TermVisits.Chains.{May, Whole}
use Rattle.dbsound.proofs.TermVisits.Trees.{tree_whole}
use Rattle.dbsurvey.proofs.WholeParts.{whole_both}
use Rattle.dbformat.proofs.CellParts.{same_tree}

kind_of : (p usable : ℕ) (page : List ℕ) (o : Option PageKind) (v : View) → view_of_kind p usable page o ≡ Ok v → o ≡ Some v.kind
kind_of p usable page None v e = cc
kind_of p usable page (Some kind) v e = by_case (nat_le (pointers_end p kind page) (content_start p page) && nat_le (content_start p page) usable) e
  where
    by_case : (b : Bool) → cond b (Ok (record { number = p; kind = kind; usable = usable; bytes = page })) (Err ContentStart) ≡ Ok v → Some kind ≡ Some v.kind
    by_case true e = let same : record { number = p; kind = kind; usable = usable; bytes = page } ≡ v = cc in ap (λ v. Some v.kind) same
    by_case false e = cc

own_by_type : (t : ℕ) (k : PageKind) → page_kind t ≡ Some k → cond ((t == 2) || (t == 10)) tree.Index tree.Table ≡ tree_of k
own_by_type t k e = two (t == 2) refl e
  where
    thirteen : (b : Bool) → cond b (Some LeafTable) None ≡ Some k → tree.Table ≡ tree_of k
    thirteen true e = let same : LeafTable ≡ k = cc in ap tree_of same
    thirteen false e = cc

    ten : (b d : Bool) → cond b (Some LeafIndex) (cond d (Some LeafTable) None) ≡ Some k → cond b tree.Index tree.Table ≡ tree_of k
    ten true d e = let same : LeafIndex ≡ k = cc in ap tree_of same
    ten false d e = thirteen d e

    five : (b c d : Bool) → (b ≡ true → c ≡ false) → cond b (Some InteriorTable) (cond c (Some LeafIndex) (cond d (Some LeafTable) None)) ≡ Some k
        → cond c tree.Index tree.Table ≡ tree_of k
    five true c d n e = let same : InteriorTable ≡ k = cc in rw (n refl) (ap tree_of same)
    five false c d n e = ten c d e

    not_ten : (t == 5) ≡ true → (t == 10) ≡ false
    not_ten e = grind (arith, nat_tests)

    two : (b : Bool) → (t == 2) ≡ b
        → cond b (Some InteriorIndex) (cond (t == 5) (Some InteriorTable) (cond (t == 10) (Some LeafIndex) (cond (t == 13) (Some LeafTable) None))) ≡ Some k
        → cond (b || (t == 10)) tree.Index tree.Table ≡ tree_of k
    two true f e = let same : InteriorIndex ≡ k = cc in ap tree_of same
    two false f e = five (t == 5) (t == 10) (t == 13) not_ten e

own_is : {file : List ℕ} {kind : TreeKind} {is_child : Bool} {p : ℕ} {v : View} → Terms.IsFaultlessPage file kind is_child p v → own_kind p (page_bytes file p)
    ≡ kind
unfolding view own_kind
own_is {file} {kind} {is_child} {p} {v} w =
    let h = has_all_cells w in
    own_by_type (type_byte p (page_bytes file p)) v.kind
    (kind_of p (usable_size file) (page_bytes file p) (page_kind (type_byte p (page_bytes file p))) v h.view_is)
    ∙ same_tree (tree_of v.kind) kind h.same_kind

root_kind_is : {file : List ℕ} {kind : TreeKind} {is_child : Bool} {p : ℕ} {v : View} → Terms.IsFaultlessPage file kind is_child p v
    → (k : RowKind) (name : Option (List ℕ)) → (k ≡ row.Index → kind ≡ tree.Index)
    → root_kind file (record { kind = k; root = p; name = name }) ≡ kind
root_kind_is w row.Index name i = sym (i refl)
root_kind_is w row.Table name i = own_is w
root_kind_is w row.View name i = own_is w
root_kind_is w row.Trigger name i = own_is w

tree_root_kind : {file : List ℕ} {is_child : Bool} {from p : ℕ} {kind : TreeKind} {height : ℕ} {low high : Option ℤ} {uses : List Use}
    {payloads : List (List ℕ)}
    → Tree file is_child from p kind height low high uses payloads → (k : RowKind) (name : Option (List ℕ)) → (k ≡ row.Index → kind ≡ tree.Index)
    → root_kind file (record { kind = k; root = p; name = name }) ≡ kind
tree_root_kind (leaf v w l r ps) k name i = root_kind_is w k name i
tree_root_kind (interior v w r cs) k name i = root_kind_is w k name i

pub forest_whole : {file : List ℕ} {rows : List SchemaRow} {uses : List Use} (f : Forest file rows uses) (k : ℕ) → Each (May file) (forest_visits f k)
    → Whole file (named_at [] (map (root_start file) (enumerate_from k rows))) (forest_visits f k)
forest_whole no_tree k m = nothing
forest_whole {file} (and_tree {r} {rows} {kind} i h t f) k m =
    whole_both (rules_of file) (named_at [] (root_start file (k, r) ∷ [])) (named_at [] (map (root_start file) (enumerate_from (k + 1) rows)))
    (tree_visits t k (k ∷ [])) (forest_visits f (k + 1))
    (subst (λ x. Whole file (visit_at (root x) 0 k r.root (k ∷ []) ∷ []) (tree_visits t k (k ∷ []))) (sym (tree_root_kind t r.kind r.name i))
    (tree_whole t k (k ∷ []) (Each-left (May file) (tree_visits t k (k ∷ [])) (forest_visits f (k + 1)) m)))
    (forest_whole f (k + 1) (Each-right (May file) (tree_visits t k (k ∷ [])) (forest_visits f (k + 1)) m))
