-- What is reported below the schema's start shows whether the schema has a row.
use Rattle.dbscan.proofs.Common.{◌≡◌, ℕ, inl, inr, Bool, true, false, cond, not, ◌&&◌, List, [], ◌∷◌, Option, None, refl, sym, ap, ◌∙◌, ◌||◌, ◌==◌, IsIn}
use Rattle.dbscan.proofs.Common.{Address, Follow, errands_at, start_of, schema_start, has_rows, geometry, View, is_interior, schema_part, Role, root, child}
use Rattle.dbscan.proofs.Common.{first_overflow, later_overflow, Reference, role_of, tree_view, StatRow, row_in, later_starts, Survey, rules_of, Finding}
use Rattle.dbscan.proofs.Common.{found_rows, reported_row, reported_fault, stat_rows, reported_below, is_schema_row, option_map_or, list_any, arith}
use Rattle.dbscan.proofs.Common.{cons_option, is_schema_leaf, under, are_rules, has_address, and-false, and_parts, tree_kind, schema_link, starts_rise, no_due}
use Rattle.dbsurvey.proofs.Starting.{survey_from_first}
use Rattle.dbformat.specs.EndFaults.{has_cell}
use Rattle.dbformat.specs.PageFaults.{is_leaf_of}
use Rattle.dbformat.specs.Rows.{tree_page_row}
use Rattle.dbscan.proofs.RowsBelow.{rows_below}
use Rattle.dbsurvey.specs.From as start_words

-- a row of the schema is one of those that are found
by_rows : (items : List Finding) → list_any is_schema_row items ≡ list_any is_schema_leaf (found_rows items)
by_rows [] = refl
by_rows (reported_row r ∷ items) = ap (λ b. is_schema_leaf r || b) (by_rows items)
by_rows (reported_fault f why ∷ items) = by_rows items

-- by what is reported of it, and by its page, a visit shows a row of the schema
abbrev by_reported : List ℕ → Reference → Bool
by_reported file r = option_map_or is_schema_leaf (row_in (role_of r) file r) false

abbrev by_page : List ℕ → Reference → Bool
by_page file r = is_leaf_of file schema_start r && has_cell (tree_view file r)

-- the two tests are one

no_view : (file : List ℕ) (r : Reference) → tree_kind (role_of r) ≡ None → tree_view file r ≡ None
unfolding tree_view
no_view file r e = rw e refl

abbrev by_view : Bool → Option View → Bool
by_view at_schema o = (at_schema && option_map_or (λ v. not (is_interior v.kind)) o false) && has_cell o

view_row : (r : Reference) (o : Option View) → is_schema_leaf (tree_page_row r o) ≡ by_view (start_of r.address == schema_start) o
view_row r o = grind arith

same_test : (file : List ℕ) (r : Reference) → by_reported file r ≡ by_page file r
same_test file r = by_role (role_of r) refl
  where
    nothing : tree_kind (role_of r) ≡ None → false ≡ by_page file r
    nothing e = sym (ap (by_view (start_of r.address == schema_start)) (no_view file r e) ∙ and-false ((start_of r.address == schema_start) && false))

    not_leaf : ((start_of r.address == schema_start) && false && not (0 == 0)) ≡ false
    not_leaf = and-false ((start_of r.address == schema_start) && false)

    by_role : (role : Role) → role_of r ≡ role → option_map_or is_schema_leaf (row_in role file r) false ≡ by_page file r
    by_role (root kind) e = view_row r (tree_view file r)
    by_role (child kind) e = view_row r (tree_view file r)
    by_role (first_overflow left) e = not_leaf ∙ nothing (ap tree_kind e)
    by_role (later_overflow left) e = not_leaf ∙ nothing (ap tree_kind e)
    by_role _ e = nothing (ap tree_kind e)

row_any : (o : Option StatRow) (rows : List StatRow) (b c : Bool) → option_map_or is_schema_leaf o false ≡ b → list_any is_schema_leaf rows ≡ c
    → list_any is_schema_leaf (cons_option o rows) ≡ (b || c)
row_any o rows b c e h = grind arith

any_row : (file : List ℕ) (V : List Reference) → list_any is_schema_leaf (stat_rows file V) ≡ list_any (by_page file) V
unfolding stat_rows
any_row file [] = refl
any_row file (r ∷ V) = row_any (row_in (role_of r) file r) _ _ _ (same_test file r) (any_row file V)

-- only the pages below the schema's start count

one_under : (p : Reference → Bool) (r : Reference) (b : Bool) (xs ys : List Reference) → (p r ≡ true → b ≡ true) → list_any p xs ≡ list_any p ys
    → list_any p (r ∷ xs) ≡ list_any p (cond b (r ∷ ys) ys)
one_under p r b xs ys f k = grind arith

any_under : (p : Reference → Bool) (V : List Reference) → ((r : Reference) → IsIn r V → p r ≡ true → start_words.starts_with schema_start r.address ≡ true)
    → list_any p V ≡ list_any p (under schema_start V)
any_under p [] h = refl
any_under p (r ∷ V) h = one_under p r _ V (under schema_start V) (h r (inl refl)) (any_under p V (λ q i. h q (inr i)))

at_schema : (a : Address) → (a ≡ [] → ⊥) → (start_of a == schema_start) ≡ true → start_words.starts_with schema_start a ≡ true
at_schema [] some e = absurd (some refl)
at_schema (x ∷ a) some e = e

-- By all that is reported below page 1: whether the schema has a row.
pub schema_rows_reported : (file : List ℕ) (V : List Reference) → Survey file V
    → list_any is_schema_row (reported_below file [] (errands_at [] (Follow schema_link ∷ []))) ≡ has_rows file V
schema_rows_reported file V s =
    let errands = errands_at [] (Follow schema_link ∷ []) in
    by_rows (reported_below file [] errands)
    ∙ ap (list_any is_schema_leaf) (rows_below file [] errands (λ e i. absurd (no_due [] (schema_link ∷ []) e i)))
    ∙ any_row file (schema_part file)
    ∙ ap (list_any (by_page file)) (sym (survey_from_first (rules_of file) (geometry file).pages (are_rules file) schema_link (later_starts file)
    (starts_rise file) V s))
    ∙ sym (any_under (by_page file) V below)
  where
    below : (r : Reference) → IsIn r V → by_page file r ≡ true → start_words.starts_with schema_start r.address ≡ true
    below r i e =
        let leaf = (and_parts (is_leaf_of file schema_start r) (has_cell (tree_view file r)) e).0 in
        at_schema r.address (has_address file V s r i) (and_parts (start_of r.address == schema_start)
        (option_map_or (λ v. not (is_interior v.kind)) (tree_view file r) false) leaf).0
