-- What a list of roots holds by the rows that it was given, and the starts that this makes.
use Rattle.dbscan.proofs.Common.{arith, ◌≡◌, ℕ, Bool, true, false, cond, not, List, [], ◌∷◌, ◌++◌, length, take, map, filter_map, Result, refl, sym, ap, ◌∙◌}
use Rattle.dbscan.proofs.Common.{append_assoc, ◌==◌, append-nil, Moves, last_root_start, Reference, SchemaCell, schema, rooted, rooted_rows, root_start}
use Rattle.dbscan.proofs.Common.{freelist_starts, later_starts, SchemaRow, Listed, kept_row, TakesRow, AreListed, listed_rows, enumerate_from, cons_option}
use Rattle.dbscan.proofs.Common.{RowFault, StartsEmpty, take-map, HasRootRoom, roots_after, first_roots, gives, readable_rows, list_has_room, first_more}
use Rattle.std.specs.Result.{result_ok}
use Rattle.dbformat.specs.Sound.{with_root}
use Rattle.dbscan.proofs.ShortNames.{roots_are_kept}

roots_have_room : HasRootRoom TakesRow (λ l. length l.rows)
roots_have_room = record {
  answers = λ s t row a h. (list_has_room kept_row).answers s.rows t.rows row a h.0;
  counts = λ s t row a h. (list_has_room kept_row).counts s.rows t.rows row a h.0;
}

-- an empty list has room for 65536 roots
pub roots_start_empty : (first : Listed) → first.rows ≡ [] → StartsEmpty TakesRow (λ l. length l.rows) first
roots_start_empty first e = record { room = roots_have_room; none = ap length e }

-- row after row, after those that have come
rows_after : (rows came : List SchemaRow) (s t : Listed) → s.rows ≡ first_roots kept_row came → Moves (gives TakesRow) s rows t → t.rows
    ≡ first_roots kept_row (came ++ with_root rows)
rows_after [] came s t h e = ap (λ (l : Listed). l.rows) (sym e) ∙ h ∙ ap (first_roots kept_row) (sym (append-nil came))
rows_after (row ∷ rows) came s t h m =
    let one : m.0.rows ≡ first_roots kept_row (came ++ cond (row.root == 0) [] (row ∷ [])) = m.1.1.0.1 ∙ ap (λ l. roots_after kept_row l row) h
    ∙ first_more kept_row came row in
    rows_after rows (came ++ cond (row.root == 0) [] (row ∷ [])) m.0 t one m.2
    ∙ ap (first_roots kept_row) (append_assoc came (cond (row.root == 0) [] (row ∷ [])) (with_root rows) ∙ ap (λ l. came ++ l) (by_root (row.root == 0)))
  where
    by_root : (b : Bool) → cond b [] (row ∷ []) ++ with_root rows ≡ cond (not b) (row ∷ with_root rows) (with_root rows)
    by_root true = refl
    by_root false = refl

-- those of the schema
rooted_more : (o : Result SchemaRow RowFault) (rows roots : List SchemaRow) → with_root rows ≡ roots
    → with_root (cons_option (result_ok o) rows) ≡ cons_option (rooted o) roots
rooted_more o rows roots h = grind arith

rooted_are : (cells : List SchemaCell) → with_root (filter_map (λ c. result_ok c.row) cells) ≡ rooted_rows cells
rooted_are [] = refl
rooted_are (c ∷ cells) = rooted_more c.row _ _ (rooted_are cells)

-- of the schema it holds each row as it is read
pub schema_roots : (file : List ℕ) (V : List Reference) (s t : Listed) → s.rows ≡ [] → Moves (gives TakesRow) s (readable_rows file V) t
    → t.rows ≡ listed_rows file V
schema_roots file V s t e m =
    rows_after (readable_rows file V) [] s t e m
    ∙ ap (first_roots kept_row) (rooted_are (schema file V))
    ∙ sym (take-map kept_row last_root_start (rooted_rows (schema file V)))
    ∙ ap (take last_root_start) (roots_are_kept file V)

-- The starts after the first are those of the rows that it holds, and the freelist's.
pub starts_listed : (file : List ℕ) (V : List Reference) (rows : List SchemaRow) → AreListed file V rows
    → later_starts file V ≡ map (root_start file) (enumerate_from 1 rows) ++ freelist_starts file
unfolding later_starts
starts_listed file V rows e = ap (λ l. map (root_start file) (enumerate_from 1 l) ++ freelist_starts file) (sym e)
