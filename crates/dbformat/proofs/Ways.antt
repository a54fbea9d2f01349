-- Each reference that a page makes says that it is from this page.
use Rattle.std.proofs.Common.{◌≡◌, ℕ, ◌-◌, inl, inr, Bool, true, false, cond, List, [], ◌∷◌, ◌++◌, map, Option, Some, None, ap}
use Rattle.std.specs.Prelude.{flat_map, option_map, option_to_list, nat_le, nat_lt, ◌==◌}
use Rattle.std.specs.List.{enumerate_from}
use Rattle.dbsurvey.specs.Address.{IsIn}
use Rattle.dbsurvey.specs.Survey.{Link}
use Rattle.dbsurvey.proofs.Order.{IsIn-cases}
use Rattle.dbsurvey.proofs.Ordering.{IsIn-from_map, IsIn-from_flat_map}
use Rattle.dbformat.specs.Payload.{overflow_next}
use Rattle.dbformat.specs.Head.{View, undamaged}
use Rattle.dbformat.specs.Cell.{Cell, cells, overflow_size, right_child, count}
use Rattle.dbformat.specs.Address.{overflow_step, child_step}
use Rattle.dbformat.specs.Reference.{Role, root, child, first_overflow, later_overflow, trunk, free_leaf, Way, link, cell_links}
use Rattle.dbformat.specs.Reference.{right_links, page_links, overflow_links, trunk_links, role_links, leaf_link, next_trunk, trunk_next, leaf_count}
use Rattle.dbformat.specs.Reference.{most_leaves, free_leaves}
use Rattle.dbformat.specs.declared.TreeKind.{TreeKind}

abbrev IsFrom : ℕ → Link Way → Type 0
IsFrom p l = l.role.from ≡ p

at_option : (p step item : ℕ) (role : Role) (o : Option ℕ) (l : Link Way) → IsIn l (option_to_list (option_map (link p step item role) o)) → IsFrom p l
at_option p step item role None l i = absurd i
at_option p step item role (Some q) l (inl e) = ap (λ l. l.role.from) e
at_option p step item role (Some q) l (inr i) = absurd i

of_cell : (p : ℕ) (kind : TreeKind) (x : ℕ × Cell) (l : Link Way) → IsIn l (cell_links p kind x) → IsFrom p l
of_cell p kind (i, c) l h = elim (IsIn-cases l (option_to_list (option_map (link p (overflow_step i) i (first_overflow (overflow_size c))) c.overflow)) _ h) [
  | inl j ↦ at_option p (overflow_step i) i (first_overflow (overflow_size c)) c.overflow l j
  | inr j ↦ at_option p (child_step i) i (child kind) c.left l j
]

of_page : (p : ℕ) (kind : TreeKind) (o : Option View) (l : Link Way) → IsIn l (page_links p kind o) → IsFrom p l
of_page p kind None l h = absurd h
of_page p kind (Some v) l h = elim (IsIn-cases l (flat_map (cell_links p kind) (cells v)) (right_links p kind v) h) [
  | inl j ↦ (let m = IsIn-from_flat_map (cell_links p kind) (cells v) l j in of_cell p kind m.0 l m.2)
  | inr j ↦ at_option p (child_step (count v)) (count v) (child kind) (right_child v) l j
]

of_overflow : (p usable left : ℕ) (page : List ℕ) (l : Link Way) → IsIn l (overflow_links p usable left page) → IsFrom p l
of_overflow p usable left page l h = by_case (nat_lt (usable - 4) left) h
  where
    by_case : (b : Bool) → IsIn l (cond b (link p 0 0 (later_overflow (left - (usable - 4))) (overflow_next page) ∷ []) []) → IsFrom p l
    by_case true (inl e) = ap (λ l. l.role.from) e
    by_case true (inr i) = absurd i
    by_case false i = absurd i

of_next : (p : ℕ) (page : List ℕ) (item : ℕ) (l : Link Way) → IsIn l (next_trunk p page item) → IsFrom p l
of_next p page item l h = by_case (trunk_next page == 0) h
  where
    by_case : (b : Bool) → IsIn l (cond b [] (link p item item trunk (trunk_next page) ∷ [])) → IsFrom p l
    by_case true i = absurd i
    by_case false (inl e) = ap (λ l. l.role.from) e
    by_case false (inr i) = absurd i

of_trunk : (p usable : ℕ) (page : List ℕ) (l : Link Way) → IsIn l (trunk_links p usable page) → IsFrom p l
of_trunk p usable page l h = by_case (nat_le (leaf_count page) (most_leaves usable)) h
  where
    by_case : (b : Bool) → IsIn l (cond b (map (leaf_link p) (enumerate_from 0 (free_leaves page)) ++ next_trunk p page (leaf_count page))
        (next_trunk p page 0)) → IsFrom p l
    by_case true i = elim (IsIn-cases l (map (leaf_link p) (enumerate_from 0 (free_leaves page))) (next_trunk p page (leaf_count page)) i) [
      | inl j ↦ (let m = IsIn-from_map (leaf_link p) (enumerate_from 0 (free_leaves page)) l j in ap (λ l. l.role.from) m.2)
      | inr j ↦ of_next p page (leaf_count page) l j
    ]
    by_case false i = of_next p page 0 l i

pub of_role : (role : Role) (p usable : ℕ) (page : List ℕ) (l : Link Way) → IsIn l (role_links role p usable page) → IsFrom p l
of_role (root kind) p usable page l h = of_page p kind (undamaged kind p usable page) l h
of_role (child kind) p usable page l h = of_page p kind (undamaged kind p usable page) l h
of_role (first_overflow left) p usable page l h = of_overflow p usable left page l h
of_role (later_overflow left) p usable page l h = of_overflow p usable left page l h
of_role trunk p usable page l h = of_trunk p usable page l h
of_role free_leaf p usable page l h = absurd h
