-- The names of trees, by the rows of a list.
use Rattle.dbreport.proofs.Common.{◌≡◌, ℕ, suc, false, cond, arith, List, [], take, Some, sym, ap, ◌∙◌, slice_get, codes, ◌==◌, schema_start, tree_name}
use Rattle.dbreport.proofs.Common.{Reference, name_at, nat_tests, option_map_or, common_steps, elements, last_root_start, encoding, schema, rooted_rows, at_row}
use Rattle.dbformat.specs.Lines.{row_name_text}
use Rattle.dbformat.specs.SchemaRow.{SchemaRow}
use Rattle.dbscan.specs.Roots.{AreListed}

of_first : {X : Type 0} (n : ℕ) (xs : List X) (k : ℕ) (x : X) → slice_get (take n xs) k ≡ Some x → slice_get xs k ≡ Some x
of_first n xs k x e = grind (arith, common_steps, elements)

-- the k-th row of the list has the name of the tree of start k, as it is shown
pub listed_name : (file : List ℕ) (V : List Reference) (rows : List SchemaRow) (k : ℕ) (r : SchemaRow) → AreListed file V rows → slice_get rows k ≡ Some r
    → name_at (encoding file) (at_row (suc k) r) ≡ tree_name file V (suc k)
unfolding tree_name
listed_name file V rows k r listed e =
    let all = rooted_rows (schema file V) in
    let there : slice_get all k ≡ Some r = of_first last_root_start all k r (ap (λ l. slice_get l k) (sym listed) ∙ e) in
    let later : (suc k == schema_start) ≡ false = grind (arith, nat_tests) in
    ap (λ b. cond b (codes "sqlite_schema") (row_name_text file r)) later ∙ ap (λ o. option_map_or (row_name_text file) o []) (sym there)
