-- Which pages the rows of visits, of trees and of other pages count.
use Rattle.std.proofs.Common.{◌≡◌, ℕ, Bool, true, false, cond, List, [], ◌∷◌, ◌++◌, map, Option, Some, None, refl, sym, ap, ◌∙◌}
use Rattle.std.specs.Prelude.{filter, filter_map, flat_map, option_map}
use Rattle.std.specs.List.{cons_option}
use Rattle.dbsound.proofs.Common.{EachPair, View, start_of, Role, root, child, first_overflow, later_overflow, trunk, free_leaf, Reference, role_of}
use Rattle.dbsound.proofs.Common.{is_on_freelist, tree_view, visit_of}
use Rattle.dbformat.specs.Rows.{StatRow, row_in, tree_page_row, page_row, tree_row, other_row, OtherPage, other_visited, other_page, counted_pages}
use Rattle.dbsurvey.proofs.Lists.{filter_map-from}
use Rattle.dbsurvey.specs.Whole.{HasEachPageOnce}

-- the row of a visit has its page and its start, and a visit has none exactly where it is on the freelist
pub of_row : (file : List ℕ) (r : Reference) (role : Role) (row : StatRow) → row_in role file r ≡ Some row
    → (row.page ≡ r.page) × (row.start ≡ start_of r.address) × (is_on_freelist role ≡ false)
of_row file r role row e = by_role role e
  where
    same : (x : StatRow) → Some x ≡ Some row → x.page ≡ r.page → x.start ≡ start_of r.address → (row.page ≡ r.page) × (row.start ≡ start_of r.address)
    same x e f g = let h : x ≡ row = cc in (sym (ap (λ (x : StatRow). x.page) h) ∙ f, sym (ap (λ (x : StatRow). x.start) h) ∙ g)

    tree : (o : Option View) → Some (tree_page_row r o) ≡ Some row → (row.page ≡ r.page) × (row.start ≡ start_of r.address)
    tree None e = same (tree_page_row r None) e refl refl
    tree (Some v) e = same (tree_page_row r (Some v)) e refl refl

    by_role : (role : Role) → row_in role file r ≡ Some row → (row.page ≡ r.page) × (row.start ≡ start_of r.address) × (is_on_freelist role ≡ false)
    by_role (root kind) e = let h = tree (tree_view file r) e in (h.0, h.1, refl)
    by_role (child kind) e = let h = tree (tree_view file r) e in (h.0, h.1, refl)
    by_role (first_overflow left) e = let h = same _ e refl refl in (h.0, h.1, refl)
    by_role (later_overflow left) e = let h = same _ e refl refl in (h.0, h.1, refl)
    by_role trunk e = cc
    by_role free_leaf e = cc

pub row_of : (file : List ℕ) (r : Reference) (role : Role) → is_on_freelist role ≡ false → (row : StatRow) × (row_in role file r ≡ Some row)
row_of file r (root kind) e = (_, refl)
row_of file r (child kind) e = (_, refl)
row_of file r (first_overflow left) e = (_, refl)
row_of file r (later_overflow left) e = (_, refl)
row_of file r trunk e = cc
row_of file r free_leaf e = cc

-- the pages that rows count
pub pages_counted : (rows : List StatRow) → flat_map counted_pages (map page_row rows) ≡ map (λ (row : StatRow). row.page) rows
pages_counted [] = refl
pages_counted (row ∷ rows) = ap (λ l. row.page ∷ l) (pages_counted rows)

pub trees_counted : (of_tree : ℕ → List StatRow) (ks : List ℕ)
    → flat_map counted_pages (map (λ k. tree_row k (of_tree k)) ks) ≡ flat_map (λ k. map (λ (row : StatRow). row.page) (of_tree k)) ks
trees_counted of_tree [] = refl
trees_counted of_tree (k ∷ ks) = ap (λ l. map (λ (row : StatRow). row.page) (of_tree k) ++ l) (trees_counted of_tree ks)

-- whether a page has a row of its own beside those of trees
abbrev pub is_shown : Option OtherPage → Bool
is_shown None = false
is_shown (Some what) = true

pub others_counted : (other : ℕ → Option OtherPage) (ps : List ℕ)
    → flat_map counted_pages (filter_map (λ p. option_map (other_row p) (other p)) ps) ≡ filter (λ p. is_shown (other p)) ps
others_counted other [] = refl
others_counted other (p ∷ ps) = by_case (other p) (others_counted other ps)
  where
    by_case : (o : Option OtherPage) → flat_map counted_pages (filter_map (λ p. option_map (other_row p) (other p)) ps) ≡ filter (λ p. is_shown (other p)) ps
        → flat_map counted_pages (cons_option (option_map (other_row p) o) (filter_map (λ p. option_map (other_row p) (other p)) ps))
        ≡ cond (is_shown o) (p ∷ filter (λ p. is_shown (other p)) ps) (filter (λ p. is_shown (other p)) ps)
    by_case None h = h
    by_case (Some what) h = ap (λ l. p ∷ l) h

module _ (file : List ℕ) (V : List Reference) where
  pub rows_apart : (W : List Reference) → HasEachPageOnce W → EachPair (λ (x y : StatRow). x.page ≡ y.page → ⊥) (filter_map (λ r. row_in (role_of r) file r) W)
  rows_apart [] h = tt
  rows_apart (r ∷ W) h = by_case (row_in (role_of r) file r) refl (rows_apart W h.1)
    where
      by_case : (o : Option StatRow) → row_in (role_of r) file r ≡ o
          → EachPair (λ (x y : StatRow). x.page ≡ y.page → ⊥) (filter_map (λ r. row_in (role_of r) file r) W)
          → EachPair (λ (x y : StatRow). x.page ≡ y.page → ⊥) (cons_option o (filter_map (λ r. row_in (role_of r) file r) W))
      by_case None e k = k
      by_case (Some x) e k = (
        (λ y i f.
            let m = filter_map-from (λ r. row_in (role_of r) file r) W y i in
            h.0 m.0 m.1 (sym (of_row file r (role_of r) x e).0 ∙ f ∙ (of_row file m.0 (role_of m.0) y m.2).0)),
        k,
      )

  -- a page that is not visited is shown, and a visited one where it is on the freelist
  pub unvisited_shown : (p : ℕ) → visit_of V p ≡ None → is_shown (other_page file V p) ≡ true
  unvisited_shown p e = rw e refl

  pub visited_shown : (p : ℕ) (r : Reference) → visit_of V p ≡ Some r → is_shown (other_page file V p) ≡ is_on_freelist (role_of r)
  visited_shown p r e = rw e (by_role (role_of r))
    where
      by_role : (role : Role) → is_shown (other_visited role) ≡ is_on_freelist role
      by_role (root kind) = refl
      by_role (child kind) = refl
      by_role (first_overflow left) = refl
      by_role (later_overflow left) = refl
      by_role trunk = refl
      by_role free_leaf = refl
