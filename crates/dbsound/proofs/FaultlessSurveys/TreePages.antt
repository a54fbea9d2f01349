-- A visited page of a tree, in a survey without faults, is whole.
use Rattle.std.proofs.Common.{◌≡◌, ℕ, Bool, true, false, List, [], ◌++◌, Some, refl, sym, ap, ◌∙◌}
use Rattle.std.specs.Prelude.{Result, Ok, Err}
use Rattle.dbsound.proofs.Common.{IsIn, children, named_at, usable_size, page_bytes, View, view, undamaged, tree_of, Reference, role_of, page_links, role_links}
use Rattle.dbsound.proofs.Common.{tree_kind, tree_view, Survey, rules_of, page_faults, tree_page_faults, role_faults, depth_fault, walk_faults, role_in_tree}
use Rattle.dbsound.proofs.Common.{TreeKind}
use Rattle.dbformat.specs.Head.{if_of_tree, is_same_tree}
use Rattle.dbformat.specs.PageFaults.{faults_of_view}
use Rattle.dbformat.specs.Terms.{IsFaultlessPage}
use Rattle.dbformat.specs.declared.HeadFault.{HeadFault}
use Rattle.dbformat.specs.declared.HeadFault.TheVariants.{UnknownType, ContentStart}
use Rattle.dbsurvey.proofs.Lists.{both_empty}
use Rattle.dbformat.proofs.NoFaults.{page_none}

-- a page without faults is undamaged
view-from : (kind : TreeKind) (is_child : Bool) (p : ℕ) (page : List ℕ) (w : Result View HeadFault) → faults_of_view kind is_child p page w ≡ []
    → (v : View) × (if_of_tree kind w ≡ Some v)
view-from kind is_child p page (Err UnknownType) e = cc
view-from kind is_child p page (Err ContentStart) e = cc
view-from kind is_child p page (Ok v) e = by_case (is_same_tree (tree_of v.kind) kind) refl e
  where
    by_case : (b : Bool) → is_same_tree (tree_of v.kind) kind ≡ b → faults_of_view kind is_child p page (Ok v) ≡ [] → (u : View)
        × (if_of_tree kind (Ok v) ≡ Some u)
    by_case true f e = (v, rw f refl)
    by_case false f e = let h = rw f at e in cc

-- what is known of a visited page of a tree
pub record IsTreePage (file : List ℕ) (V : List Reference) (r : Reference) (kind : TreeKind) (is_child : Bool) (v : View) : Type 0 where
  pub whole : IsFaultlessPage file kind is_child r.page v
  pub view_is : tree_view file r ≡ Some v
  pub links_are : children (rules_of file) r ≡ named_at r.address (page_links r.page kind (Some v))
  pub depth_is : depth_fault file V r ≡ []

faults_in_tree : (file : List ℕ) (V : List Reference) (r : Reference) (kind : TreeKind) (is_child : Bool)
    → role_faults (role_in_tree is_child kind) file V r ≡ tree_page_faults kind is_child r.page (usable_size file) (page_bytes file r.page)
    ++ depth_fault file V r
faults_in_tree file V r kind true = refl
faults_in_tree file V r kind false = refl

links_in_tree : (kind : TreeKind) (is_child : Bool) (p usable : ℕ) (page : List ℕ)
    → role_links (role_in_tree is_child kind) p usable page ≡ page_links p kind (undamaged kind p usable page)
links_in_tree kind true p usable page = refl
links_in_tree kind false p usable page = refl

kind_in_tree : (kind : TreeKind) (is_child : Bool) → tree_kind (role_in_tree is_child kind) ≡ Some kind
kind_in_tree kind true = refl
kind_in_tree kind false = refl

view_in_tree : (file : List ℕ) (r : Reference) (kind : TreeKind) → tree_kind (role_of r) ≡ Some kind
    → tree_view file r ≡ undamaged kind r.page (usable_size file) (page_bytes file r.page)
unfolding tree_view
view_in_tree file r kind e = rw e refl

pub tree_page : (file : List ℕ) (V : List Reference) (s : Survey file V) (none : walk_faults file V ≡ []) (r : Reference) (kind : TreeKind) (is_child : Bool)
    → IsIn r V → role_of r ≡ role_in_tree is_child kind → (v : View) × IsTreePage file V r kind is_child v
unfolding page_faults tree_page_faults rules_of
tree_page file V s none r kind is_child i e =
    let p = r.page in
    let bytes = page_bytes file p in
    let usable = usable_size file in
    let f : tree_page_faults kind is_child p usable bytes ++ depth_fault file V r ≡ [] =
    sym (ap (λ role. role_faults role file V r) e ∙ faults_in_tree file V r kind is_child) ∙ page_none file V s none r i in
    let g = both_empty (tree_page_faults kind is_child p usable bytes) (depth_fault file V r) f in
    let v = view-from kind is_child p bytes (view p usable bytes) g.0 in (
      v.0,
      record {
        whole = record { undamaged = v.1; faultless = g.0 };
        view_is = view_in_tree file r kind (ap tree_kind e ∙ kind_in_tree kind is_child) ∙ v.1;
        links_are = ap (named_at r.address) (ap (λ role. role_links role p usable bytes) e ∙ links_in_tree kind is_child p usable bytes
            ∙ ap (page_links p kind) v.1);
        depth_is = g.1;
      },
    )
